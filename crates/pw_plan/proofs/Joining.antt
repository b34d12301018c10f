-- The list of the groups is what groups are.
use Rattle.std.proofs.Common.{◌≡◌, ◌<◌, ◌==◌, ◌&&◌, ◌||◌, ℕ, Bool, true, false, cond, List, [], ◌∷◌, length, refl, ap, sym, ◌∙◌, arith}
use Rattle.std.specs.List.{AllByRecursion}
use Rattle.std.proofs.lemmas.List.{get_or-map}
use Rattle.std.proofs.lemmas.Bool.Decides.{nat_tests}
use Rattle.pw_plan.specs.declared.domain.Domain.{Domain}
use Rattle.pw_plan.specs.Groups.{Chain, here, onward, domain_in, has_member, is_link, is_linked, join_members, join_with, label_at, labels_after}
use Rattle.pw_plan.specs.Groups.{no_domain, relabel, rename}
use Rattle.pw_plan.proofs.GroupLemmas.{join_members-length}
use Rattle.pw_plan.proofs.Lists.{and_both, any_at}
use Rattle.std.proofs.lemmas.List.{length-map}

-- # Chains

pub chain_then : (ds : List Domain) (p q r : ℕ) → Chain ds p q → Chain ds q r → Chain ds p r
chain_then ds p q _ a here = a
chain_then ds p q _ a (onward x r k b lt l m n) = onward x r k (chain_then ds p q x a b) lt l m n

pub chain_back : (ds : List Domain) (p q : ℕ) → Chain ds p q → Chain ds q p
chain_back ds p _ here = here
chain_back ds p _ (onward x q k b lt l m n) = chain_then ds q x p (onward q x k here lt l n m) (chain_back ds p x b)

-- who is in a software idle domain is linked
linked_at : (ds : List Domain) (k p : ℕ) → k < length ds → is_link (domain_in ds k) ≡ true → has_member (domain_in ds k).members p ≡ true → is_linked ds p ≡ true
linked_at ds k p lt l m = any_at (λ (d : Domain). is_link d && has_member d.members p) ds k no_domain lt (and_both (is_link (domain_in ds k)) (has_member (domain_in ds k).members p) l m)

-- whom a chain reaches from a linked processor is linked
pub chain_linked : (ds : List Domain) (p q : ℕ) → Chain ds p q → is_linked ds p ≡ true → is_linked ds q ≡ true
chain_linked ds p _ here e = e
chain_linked ds p _ (onward x q k b lt l m n) e = linked_at ds k q lt l n

-- # Labels

abbrev Keeps : ℕ → List ℕ → List ℕ → Type 0
Keeps n labels new = (p q : ℕ) → p < n → q < n → label_at labels p ≡ label_at labels q → label_at new p ≡ label_at new q

abbrev pub Exist : ℕ → List ℕ → Type 0
Exist n members = (q : ℕ) → has_member members q ≡ true → q < n

label-relabel : (old new : ℕ) (labels : List ℕ) (p : ℕ) → p < length labels → label_at (relabel old new labels) p ≡ rename old new (label_at labels p)
label-relabel old new labels p lt = get_or-map (rename old new) labels p 0 0 lt

relabel_keeps : (old new : ℕ) (labels : List ℕ) → Keeps (length labels) labels (relabel old new labels)
relabel_keeps old new labels p q a b e = label-relabel old new labels p a ∙ ap (rename old new) e ∙ sym (label-relabel old new labels q b)

length-relabel : (old new : ℕ) (labels : List ℕ) → length (relabel old new labels) ≡ length labels
length-relabel old new labels = length-map labels (rename old new)

join_with_keeps : (n first : ℕ) (ps labels : List ℕ) → length labels ≡ n → Keeps n labels (join_with first ps labels)
join_with_keeps n first [] labels size p q a b e = e
join_with_keeps n first (m ∷ ps) labels size p q a b e =
    let old = label_at labels m in
    let new = label_at labels first in
    join_with_keeps n first ps (relabel old new labels) (length-relabel old new labels ∙ size) p q a b (relabel_keeps old new labels p q (rw size a) (rw size b) e)

join_members_keeps : (n : ℕ) (ps labels : List ℕ) → length labels ≡ n → Keeps n labels (join_members ps labels)
join_members_keeps n [] labels size p q a b e = e
join_members_keeps n (m ∷ ps) labels size p q a b e = join_with_keeps n m ps labels size p q a b e

same_label : (old new : ℕ) → rename old new old ≡ new
same_label old new = step (old == old) (grind (arith, nat_tests))
  where
    step : (b : Bool) → b ≡ true → cond b new old ≡ new
    step true e = refl
    step false e = cc

kept_label : (old new : ℕ) → rename old new new ≡ new
kept_label old new = step (new == old)
  where
    step : (b : Bool) → cond b new new ≡ new
    step true = refl
    step false = refl

-- whoever is joined gets the label of the first one
join_with_shares : (n first : ℕ) (ps labels : List ℕ) → length labels ≡ n → first < n → Exist n ps → (q : ℕ) → has_member ps q ≡ true
    → label_at (join_with first ps labels) q ≡ label_at (join_with first ps labels) first
join_with_shares n first [] labels size lt exist q e = cc
join_with_shares n first (m ∷ ps) labels size lt exist q e = step (m == q) refl e (join_with_shares n first ps (relabel (label_at labels m)
    (label_at labels first) labels) (length-relabel (label_at labels m) (label_at labels first) labels ∙ size) lt (λ x h. exist x (later x h)) q)
  where
    later : (x : ℕ) → has_member ps x ≡ true → ((m == x) || has_member ps x) ≡ true
    later x h = by (m == x) h
      where
        by : (b : Bool) → has_member ps x ≡ true → (b || has_member ps x) ≡ true
        by true h = refl
        by false h = h

    now : (b : Bool) → b ≡ true → (b || has_member ps m) ≡ true
    now true e = refl
    now false e = cc

    step : (b : Bool) → (m == q) ≡ b → (b || has_member ps q) ≡ true
        → (has_member ps q ≡ true
        → label_at (join_with first ps (relabel (label_at labels m) (label_at labels first) labels)) q ≡ label_at (join_with first ps (relabel (label_at labels m)
        (label_at labels first) labels)) first)
        → label_at (join_with first ps (relabel (label_at labels m) (label_at labels first) labels)) q ≡ label_at (join_with first ps (relabel (label_at labels m)
        (label_at labels first) labels)) first
    step true h e rest =
        let i : q ≡ m = grind (arith, nat_tests) in
        let in_m : m < n = exist m (now (m == m) (grind (arith, nat_tests))) in
        let old = label_at labels m in
        let new = label_at labels first in
        let one : label_at (relabel old new labels) m ≡ new = label-relabel old new labels m (rw size in_m) ∙ same_label old new in
        let other : label_at (relabel old new labels) first ≡ new = label-relabel old new labels first (rw size lt) ∙ kept_label old new in
        rw i (join_with_keeps n first ps (relabel old new labels) (length-relabel old new labels ∙ size) m first in_m lt (one ∙ sym other))
    step false h e rest = rest e

abbrev pub Shares : List ℕ → List ℕ → Type 0
Shares labels members = (q r : ℕ) → has_member members q ≡ true → has_member members r ≡ true → label_at labels q ≡ label_at labels r

join_members_shares : (n : ℕ) (members labels : List ℕ) → length labels ≡ n → Exist n members → Shares (join_members members labels) members
join_members_shares n [] labels size exist q r a b = cc
join_members_shares n (m ∷ ps) labels size exist q r a b = of_first q a ∙ sym (of_first r b)
  where
    later : (x : ℕ) → has_member ps x ≡ true → ((m == x) || has_member ps x) ≡ true
    later x h = by (m == x) h
      where
        by : (b : Bool) → has_member ps x ≡ true → (b || has_member ps x) ≡ true
        by true h = refl
        by false h = h

    now : (b : Bool) → b ≡ true → (b || has_member ps m) ≡ true
    now true e = refl
    now false e = cc

    of_first : (x : ℕ) → has_member (m ∷ ps) x ≡ true → label_at (join_with m ps labels) x ≡ label_at (join_with m ps labels) m
    of_first x h = by (m == x) refl h
      where
        by : (b : Bool) → (m == x) ≡ b → (b || has_member ps x) ≡ true → label_at (join_with m ps labels) x ≡ label_at (join_with m ps labels) m
        by true e h = let i : x ≡ m = grind (arith, nat_tests) in rw i refl
        by false e h = join_with_shares n m ps labels size (exist m (now (m == m) (grind (arith, nat_tests)))) (λ y k. exist y (later y k)) x h

module _ (ds : List Domain) (n : ℕ) where
  -- processors with one label are joined by a chain
  abbrev pub Sound : List ℕ → Type 0
  Sound labels = (p q : ℕ) → p < n → q < n → label_at labels p ≡ label_at labels q → Chain ds p q

  relabel_sound : (first m : ℕ) (labels : List ℕ) → length labels ≡ n → first < n → m < n → Chain ds m first → Sound labels → Sound (relabel (label_at labels m) (label_at labels first) labels)
  relabel_sound first m labels size in_first in_m link sound p q a b e = by (label_at labels p == label_at labels m) (label_at labels q == label_at labels m) refl refl
      (sym (label-relabel (label_at labels m) (label_at labels first) labels p (rw size a)) ∙ e ∙ label-relabel (label_at labels m) (label_at labels first) labels q (rw size b))
    where
      by : (x y : Bool) → (label_at labels p == label_at labels m) ≡ x → (label_at labels q == label_at labels m) ≡ y
          → cond x (label_at labels first) (label_at labels p) ≡ cond y (label_at labels first) (label_at labels q) → Chain ds p q
      by true true h k e = sound p q a b (grind (arith, nat_tests))
      by true false h k e =
          chain_then ds p m q (sound p m a in_m (grind (arith, nat_tests))) (chain_then ds m first q link (sound first q in_first b e))
      by false true h k e =
          chain_then ds p first q (sound p first a in_first e) (chain_then ds first m q (chain_back ds m first link) (sound m q in_m b (grind (arith, nat_tests))))
      by false false h k e = sound p q a b e

  join_with_sound : (first : ℕ) (ps labels : List ℕ) → length labels ≡ n → first < n → Exist n ps → ((m : ℕ) → has_member ps m ≡ true → Chain ds m first) → Sound labels
      → Sound (join_with first ps labels)
  join_with_sound first [] labels size lt exist links sound = sound
  join_with_sound first (m ∷ ps) labels size lt exist links sound =
      join_with_sound first ps (relabel (label_at labels m) (label_at labels first) labels) (length-relabel (label_at labels m) (label_at labels first) labels ∙ size) lt
      (λ x h. exist x (later x h)) (λ x h. links x (later x h))
      (relabel_sound first m labels size lt (exist m (now (m == m) (grind (arith, nat_tests)))) (links m (now (m == m) (grind (arith, nat_tests)))) sound)
    where
      later : (x : ℕ) → has_member ps x ≡ true → ((m == x) || has_member ps x) ≡ true
      later x h = by (m == x) h
        where
          by : (b : Bool) → has_member ps x ≡ true → (b || has_member ps x) ≡ true
          by true h = refl
          by false h = h

      now : (b : Bool) → b ≡ true → (b || has_member ps m) ≡ true
      now true e = refl
      now false e = cc

  join_members_sound : (members labels : List ℕ) → length labels ≡ n → Exist n members → ((q r : ℕ) → has_member members q ≡ true → has_member members r ≡ true
      → Chain ds q r) → Sound labels → Sound (join_members members labels)
  join_members_sound [] labels size exist links sound = sound
  join_members_sound (m ∷ ps) labels size exist links sound =
      join_with_sound m ps labels size (exist m (now (m == m) (grind (arith, nat_tests)))) (λ x h. exist x (later x h)) (λ x h. links x m (later x h) (now (m == m) (grind (arith, nat_tests)))) sound
    where
      later : (x : ℕ) → has_member ps x ≡ true → ((m == x) || has_member ps x) ≡ true
      later x h = by (m == x) h
        where
          by : (b : Bool) → has_member ps x ≡ true → (b || has_member ps x) ≡ true
          by true h = refl
          by false h = h

      now : (b : Bool) → b ≡ true → (b || has_member ps m) ≡ true
      now true e = refl
      now false e = cc

  -- what each domain of a part of the list gives
  pub record Joins (d : Domain) : Type 0 where
    pub exist : Exist n d.members
    pub links : is_link d ≡ true → (q r : ℕ) → has_member d.members q ≡ true → has_member d.members r ≡ true → Chain ds q r

  after_one : (d : Domain) (labels : List ℕ) → length labels ≡ n → length (cond (is_link d) (join_members d.members labels) labels) ≡ n
  after_one d labels size = by (is_link d)
    where
      by : (b : Bool) → length (cond b (join_members d.members labels) labels) ≡ n
      by true = join_members-length d.members labels ∙ size
      by false = size

  labels_after_keeps : (es : List Domain) (labels : List ℕ) → length labels ≡ n → Keeps n labels (labels_after es labels)
  labels_after_keeps [] labels size p q a b e = e
  labels_after_keeps (d ∷ es) labels size p q a b e = labels_after_keeps es (cond (is_link d) (join_members d.members labels) labels) (after_one d labels size) p q a b (by (is_link d))
    where
      by : (c : Bool) → label_at (cond c (join_members d.members labels) labels) p ≡ label_at (cond c (join_members d.members labels) labels) q
      by true = join_members_keeps n d.members labels size p q a b e
      by false = e

  pub labels_after_sound : (es : List Domain) (labels : List ℕ) → length labels ≡ n → AllByRecursion Joins es → Sound labels → Sound (labels_after es labels)
  labels_after_sound [] labels size joins sound = sound
  labels_after_sound (d ∷ es) labels size joins sound = labels_after_sound es (cond (is_link d) (join_members d.members labels) labels) (after_one d labels size) joins.1 (by (is_link d) refl)
    where
      by : (c : Bool) → is_link d ≡ c → Sound (cond c (join_members d.members labels) labels)
      by true l = join_members_sound d.members labels size joins.0.exist (joins.0.links l) sound
      by false l = sound

  pub labels_after_shares : (es : List Domain) (labels : List ℕ) → length labels ≡ n → AllByRecursion Joins es → AllByRecursion (λ (d : Domain). is_link d ≡ true
      → Shares (labels_after es labels) d.members) es
  labels_after_shares [] labels size joins = tt
  labels_after_shares (d ∷ es) labels size joins = (first, labels_after_shares es (cond (is_link d) (join_members d.members labels) labels) (after_one d labels size) joins.1)
    where
      first : is_link d ≡ true → Shares (labels_after es (cond (is_link d) (join_members d.members labels) labels)) d.members
      first l q r a b = labels_after_keeps es (cond (is_link d) (join_members d.members labels) labels) (after_one d labels size) q r (joins.0.exist q a) (joins.0.exist r b) (by (is_link d) l)
        where
          by : (c : Bool) → c ≡ true → label_at (cond c (join_members d.members labels) labels) q ≡ label_at (cond c (join_members d.members labels) labels) r
          by true e = join_members_shares n d.members labels size joins.0.exist q r a b
          by false e = cc
