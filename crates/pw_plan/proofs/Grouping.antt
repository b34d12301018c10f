-- The list of the groups by the labels is what groups are.
use Rattle.std.proofs.Common.{◌≡◌, ◌<◌, ◌≤◌, ◌+◌, ◌==◌, ◌&&◌, ◌||◌, not, ℕ, suc, zero, Bool, true, false, cond, List, [], ◌∷◌, map, length, get_or, take, refl, ap, sym, ◌∙◌, arith, zero-add}
use Rattle.std.proofs.Common.{add-one}
use Rattle.std.specs.Prelude.{filter, All}
use Rattle.std.specs.List.{list_any, range_with_len, AllByRecursion}
use Rattle.std.specs.List.Sorted.{IsStrictlyIncreasing}
use Rattle.std.proofs.lemmas.List.{get_or_default}
use Rattle.std.proofs.lemmas.List.FromFn.{get_or-range_with_len, length-range_with_len}
use Rattle.std.proofs.lemmas.List.Elements.{All-from_recursion, recursion_from_All}
use Rattle.std.proofs.lemmas.Bool.Decides.{nat_tests}
use Rattle.pw_plan.specs.declared.domain.Domain.{Domain}
use Rattle.pw_plan.specs.declared.domain.Group.{Group}
use Rattle.pw_plan.specs.Groups.{AreGroups, Chain, here, onward, domain_in, first_of, group_with, groups_of, has_member, is_link, is_linked, label_at, labels_of, leads_group}
use Rattle.pw_plan.specs.Groups.{no_domain}
use Rattle.pw_plan.specs.Tree.{places_from}
use Rattle.pw_plan.proofs.GroupLemmas.{labels_of-length}
use Rattle.pw_plan.proofs.Joining.{Joins, Sound, Shares, chain_linked, labels_after_shares, labels_after_sound}
use Rattle.pw_plan.proofs.Lists.{and_both, and_first, and_second, any_at, first_place, or_left, or_right, places-has, places-only}
use Rattle.pw_base.proofs.Facts.{map_map}
use Rattle.pw_plan.proofs.Rising.{rises_from, rising_is, places_rise}

-- # Lists of numbers that rise

abbrev pub Rises : ℕ → List ℕ → Type 0
Rises low [] = Unit {0}
Rises low (x ∷ xs) = (low ≤ x) × Rises (suc x) xs

range_rises : (s : ℕ → Bool) (k n : ℕ) → Rises k (filter s (range_with_len k n))
range_rises s k zero = tt
range_rises s k (suc n) = step (s k) (range_rises s (k + 1) n)
  where
    step : (b : Bool) → Rises (k + 1) (filter s (range_with_len (k + 1) n)) → Rises k (cond b (k ∷ filter s (range_with_len (k + 1) n)) (filter s (range_with_len (k + 1) n)))
    step true r = (omega arith, let e : suc k ≡ k + 1 = omega arith in rw e r)
    step false r = rises_from k (k + 1) (filter s (range_with_len (k + 1) n)) (omega arith) r

-- # Maps of what a range has left

each_kept : {X : Type 0} (P : X → Type 0) (f : ℕ → X) (s : ℕ → Bool) (k n : ℕ) → ((q : ℕ) → k ≤ q → q < k + n → s q ≡ true → P (f q)) → AllByRecursion P (map f (filter s (range_with_len k n)))
each_kept P f s k zero h = tt
each_kept P f s k (suc n) h = step (s k) refl (each_kept P f s (k + 1) n (λ q a b e. h q (omega arith) (omega arith) e))
  where
    step : (b : Bool) → s k ≡ b → AllByRecursion P (map f (filter s (range_with_len (k + 1) n)))
        → AllByRecursion P (map f (cond b (k ∷ filter s (range_with_len (k + 1) n)) (filter s (range_with_len (k + 1) n))))
    step true e r = (h k (omega arith) (omega arith) e, r)
    step false e r = r

any_kept : {X : Type 0} (t : X → Bool) (f : ℕ → X) (s : ℕ → Bool) (k n q : ℕ) → k ≤ q → q < k + n → s q ≡ true → t (f q) ≡ true → list_any t (map f (filter s (range_with_len k n))) ≡ true
any_kept t f s k zero q le lt e h = absurd (omega arith)
any_kept t f s k (suc n) q le lt e h = step (s k) (k == q) refl refl (λ j. any_kept t f s (k + 1) n q j (omega arith) e h)
  where
    step : (b c : Bool) → s k ≡ b → (k == q) ≡ c → (k + 1 ≤ q → list_any t (map f (filter s (range_with_len (k + 1) n))) ≡ true)
        → list_any t (map f (cond b (k ∷ filter s (range_with_len (k + 1) n)) (filter s (range_with_len (k + 1) n)))) ≡ true
    step true true a i later = let is : q ≡ k = grind (arith, nat_tests) in or_left (t (f k)) (list_any t (map f (filter s (range_with_len (k + 1) n)))) (rw is at h)
    step false true a i later = let is : q ≡ k = grind (arith, nat_tests) in let f : false ≡ true = sym a ∙ ap s (sym is) ∙ e in cc
    step true false a i later = or_right (t (f k)) (list_any t (map f (filter s (range_with_len (k + 1) n)))) (later (grind (arith, nat_tests)))
    step false false a i later = later (grind (arith, nat_tests))

same_map : (g : ℕ → ℕ) (s : ℕ → Bool) (k n : ℕ) → ((q : ℕ) → k ≤ q → q < k + n → s q ≡ true → g q ≡ q) → map g (filter s (range_with_len k n)) ≡ filter s (range_with_len k n)
same_map g s k zero h = refl
same_map g s k (suc n) h = step (s k) refl (same_map g s (k + 1) n (λ q a b e. h q (omega arith) (omega arith) e))
  where
    step : (b : Bool) → s k ≡ b → map g (filter s (range_with_len (k + 1) n)) ≡ filter s (range_with_len (k + 1) n)
        → map g (cond b (k ∷ filter s (range_with_len (k + 1) n)) (filter s (range_with_len (k + 1) n))) ≡ cond b (k ∷ filter s (range_with_len (k + 1) n)) (filter s (range_with_len (k + 1) n))
    step true e r = let a : g k ≡ k = h k (omega arith) (omega arith) e in cc
    step false e r = r

-- the first place is that of the first element that passes
pub places-first : {X : Type 0} (t : X → Bool) (k : ℕ) (xs : List X) (i : ℕ) (d : X) → i < length xs → t (get_or xs i d) ≡ true → list_any t (take i xs) ≡ false → first_of (places_from t k xs) ≡ k + i
places-first t k [] i d lt e n = absurd (omega arith)
places-first t k (x ∷ xs) zero d lt e n = rw e (omega arith)
places-first t k (x ∷ xs) (suc i) d lt e n = step (t x) n (places-first t (k + 1) xs i d (omega arith) e)
  where
    step : (b : Bool) → (b || list_any t (take i xs)) ≡ false → (list_any t (take i xs) ≡ false → first_of (places_from t (k + 1) xs) ≡ (k + 1) + i)
        → first_of (cond b (k ∷ places_from t (k + 1) xs) (places_from t (k + 1) xs)) ≡ k + suc i
    step true n r = cc
    step false n r = r n ∙ omega arith

pub some_member : (xs : List ℕ) (p : ℕ) → has_member xs p ≡ true → 0 < length xs
some_member [] p e = cc
some_member (x ∷ xs) p e = omega arith

pub negated : (b : Bool) → not b ≡ true → b ≡ false
negated true e = cc
negated false e = refl

pub member_bound : (n : ℕ) (xs : List ℕ) → AllByRecursion (λ q. q < n) xs → (q : ℕ) → has_member xs q ≡ true → q < n
member_bound n [] a q e = cc
member_bound n (x ∷ xs) a q e = by (x == q) refl e (member_bound n xs a.1 q)
  where
    by : (b : Bool) → (x == q) ≡ b → (b || has_member xs q) ≡ true → (has_member xs q ≡ true → q < n) → q < n
    by true h e r = let i : q ≡ x = grind (arith, nat_tests) in rw i a.0
    by false h e r = r e

-- # The groups

module _ (ds : List Domain) (n : ℕ) (exist : All (λ (d : Domain). All (λ p. p < n) d.members) ds) where
  joins : AllByRecursion (Joins ds n) ds
  joins = recursion_from_All (Joins ds n) ds (λ k d lt. record {
    exist = λ q h. member_bound n (get_or ds k d).members (recursion_from_All (λ p. p < n) (get_or ds k d).members (exist k d lt)) q h;
    links = λ l q r a b.
        let same : get_or ds k d ≡ domain_in ds k = get_or_default ds k d no_domain lt in
        onward q r k here lt (rw same at l) (rw same at a) (rw same at b);
  })

  size : length (labels_of ds n) ≡ n
  size = labels_of-length ds n

  opening_sound : Sound ds n (range_with_len 0 n)
  opening_sound p q a b e =
      let i : p ≡ q = sym (zero-add p) ∙ sym (get_or-range_with_len 0 n p 0 a) ∙ e ∙ get_or-range_with_len 0 n q 0 b ∙ zero-add q in
      rw i here

  sound : Sound ds n (labels_of ds n)
  sound = labels_after_sound ds n ds (range_with_len 0 n) (length-range_with_len 0 n) joins opening_sound

  shares : (k : ℕ) → k < length ds → is_link (domain_in ds k) ≡ true → Shares (labels_of ds n) (domain_in ds k).members
  shares k lt l = All-from_recursion (λ (d : Domain). is_link d ≡ true
      → Shares (labels_of ds n) d.members) ds (labels_after_shares ds n ds (range_with_len 0 n) (length-range_with_len 0 n) joins) k no_domain lt l

  -- a chain leads to the same label
  same_along : (p q : ℕ) → Chain ds p q → label_at (labels_of ds n) p ≡ label_at (labels_of ds n) q
  same_along p _ here = refl
  same_along p _ (onward x q k b lt l m o) = same_along p x b ∙ shares k lt l x q m o

  -- and to a processor
  exists_along : (p q : ℕ) → Chain ds p q → p < n → q < n
  exists_along p _ here lt = lt
  exists_along p _ (onward x q k b lt l m o) a =
      member_bound n (domain_in ds k).members (recursion_from_All (λ p. p < n) (domain_in ds k).members (exist k no_domain lt)) q o

  in_group : (p q : ℕ) → q < n → label_at (labels_of ds n) q ≡ label_at (labels_of ds n) p → has_member (group_with (labels_of ds n) p).members q ≡ true
  in_group p q lt e = rw zero-add at (places-has (λ l. l == label_at (labels_of ds n) p) 0 (labels_of ds n) q 0 (rw size lt) (grind (arith, nat_tests)))

  of_group : (p q : ℕ) → has_member (group_with (labels_of ds n) p).members q ≡ true → (q < n) × (label_at (labels_of ds n) q ≡ label_at (labels_of ds n) p)
  of_group p q h =
      let r = places-only (λ l. l == label_at (labels_of ds n) p) 0 (labels_of ds n) q 0 h in
      let i : q ≡ r.0 = r.1 ∙ zero-add r.0 in
      let s = size in let a = r.2 in let lt : r.0 < n = omega (arith, s, a) in
      let e : label_at (labels_of ds n) r.0 ≡ label_at (labels_of ds n) p = same (label_at (labels_of ds n) r.0) r.3 in
      (rw i lt, rw i e)
    where
      same : (l : ℕ) → (l == label_at (labels_of ds n) p) ≡ true → l ≡ label_at (labels_of ds n) p
      same l e = grind (arith, nat_tests)

  -- the first of a group leads it
  leader : (p : ℕ) → p < n → is_linked ds p ≡ true → list_any (λ (g : Group). has_member g.members p) (groups_of ds n) ≡ true
  leader p lt linked =
      let r = first_place (λ l. l == label_at (labels_of ds n) p) (labels_of ds n) 0 (any_at (λ l. l == label_at (labels_of ds n) p) (labels_of ds n) p 0 (rw size lt) (grind (arith, nat_tests))) in
      let s = size in let a = r.1 in let in_r : r.0 < n = omega (arith, s, a) in
      let e : label_at (labels_of ds n) r.0 ≡ label_at (labels_of ds n) p = same (label_at (labels_of ds n) r.0) r.2 in
      let linked_r : is_linked ds r.0 ≡ true = chain_linked ds p r.0 (sound p r.0 lt in_r (sym e)) linked in
      let new : not (has_member (take r.0 (labels_of ds n)) (label_at (labels_of ds n) r.0)) ≡ true = rw e (ap not r.3) in
      any_kept (λ (g : Group). has_member g.members p) (group_with (labels_of ds n)) (leads_group ds (labels_of ds n)) 0 n r.0 (omega arith) (omega (arith, in_r))
      (and_both (is_linked ds r.0) (not (has_member (take r.0 (labels_of ds n)) (label_at (labels_of ds n) r.0))) linked_r new)
      (in_group r.0 p lt (sym e))
    where
      same : (l : ℕ) → (l == label_at (labels_of ds n) p) ≡ true → l ≡ label_at (labels_of ds n) p
      same l e = grind (arith, nat_tests)

  linked_exists : (p : ℕ) → is_linked ds p ≡ true → p < n
  linked_exists p e =
      let r = first_place (λ (d : Domain). is_link d && has_member d.members p) ds no_domain e in
      member_bound n (domain_in ds r.0).members (recursion_from_All (λ p. p < n) (domain_in ds r.0).members (exist r.0 no_domain r.1)) p (and_second (is_link
      (domain_in ds r.0)) (has_member (domain_in ds r.0).members p) r.2)

  every : (P : Group → Type 0) → ((p : ℕ) → p < n → is_linked ds p ≡ true → has_member (take p (labels_of ds n)) (label_at (labels_of ds n) p) ≡ false
      → P (group_with (labels_of ds n) p)) → All P (groups_of ds n)
  every P h = All-from_recursion P (groups_of ds n) (each_kept P (group_with (labels_of ds n)) (leads_group ds (labels_of ds n)) 0 n (λ q a b e.
      h q (omega arith) (and_first (is_linked ds q) (not (has_member (take q (labels_of ds n)) (label_at (labels_of ds n) q))) e)
      (negated (has_member (take q (labels_of ds n)) (label_at (labels_of ds n) q)) (and_second (is_linked ds q) (not (has_member (take q (labels_of ds n)) (label_at (labels_of ds n) q))) e))))

  firsts : map (λ (g : Group). first_of g.members) (groups_of ds n) ≡ filter (leads_group ds (labels_of ds n)) (range_with_len 0 n)
  firsts = map_map (group_with (labels_of ds n)) (λ (g : Group). first_of g.members) (filter (leads_group ds (labels_of ds n)) (range_with_len 0 n))
      ∙ same_map (λ p. first_of (group_with (labels_of ds n) p).members) (leads_group ds (labels_of ds n)) 0 n (λ q a b e.
      places-first (λ l. l == label_at (labels_of ds n) q) 0 (labels_of ds n) q 0 (rw size (let c : q < n = omega arith in c)) (grind (arith, nat_tests))
      (negated (has_member (take q (labels_of ds n)) (label_at (labels_of ds n) q)) (and_second (is_linked ds q) (not (has_member (take q (labels_of ds n)) (label_at
      (labels_of ds n) q))) e)) ∙ zero-add q)

  pub are_groups : AreGroups ds (groups_of ds n)
  are_groups = record {
    covered = λ p e. leader p (linked_exists p e) e;
    linked = every (λ g. (p : ℕ) → has_member g.members p ≡ true → is_linked ds p ≡ true) (λ p lt l new q h. chain_linked ds p q (sound p q lt (of_group p q h).0 (sym (of_group p q h).1)) l);
    joined = every (λ g. (p q : ℕ) → has_member g.members p ≡ true → has_member g.members q ≡ true
        → Chain ds p q) (λ p lt l new q r h k. sound q r (of_group p q h).0 (of_group p r k).0 ((of_group p q h).1 ∙ sym (of_group p r k).1));
    whole = every (λ g. (p q : ℕ) → has_member g.members p ≡ true → Chain ds p q
        → has_member g.members q ≡ true) (λ p lt l new q r h c. in_group p r (exists_along q r c (of_group p q h).0) (sym (same_along q r c) ∙ (of_group p q h).1));
    some = every (λ g. 0 < length g.members) (λ p lt l new. some_member (group_with (labels_of ds n) p).members p (in_group p p lt refl));
    rising = every (λ g. IsStrictlyIncreasing g.members) (λ p lt l new. rising_is 0 (group_with (labels_of ds n) p).members (places_rise (λ x. x == label_at (labels_of ds n) p) 0 (labels_of ds n)));
    order = rw firsts (rising_is 0 (filter (leads_group ds (labels_of ds n)) (range_with_len 0 n)) (range_rises (leads_group ds (labels_of ds n)) 0 n));
  }
