-- The places of a tree of names.
use Rattle.std.proofs.Common.{◌≡◌, ◌≢◌, ◌+◌, ◌-◌, ◌<◌, ◌≤◌, ℕ, zero, suc, true, false, List, [], ◌∷◌, ◌++◌, length, get_or, take, min, MatchOption}
use Rattle.std.proofs.Common.{refl, sym, ap, subst, ◌∙◌, arith, inl, inr, ◌⊎◌, Ordering, Option, Some, None, append_assoc}
use Rattle.std.specs.Prelude.{Contains}
use Rattle.std.specs.Ordering.{is_eq, ordering_then}
use Rattle.std.specs.declared.cmp.Ordering.TheVariants.{Less, Equal, Greater}
use Rattle.std.specs.FinMap.{nat_cmp-IsAntisymmetric, slice_cmp-IsAntisymmetric}
use Rattle.std.specs.BTreeMap.{BTreeMap, get, is_at, Updates}
use Rattle.std.specs.Map.{lookup}
use Rattle.std.proofs.lemmas.Bool.{false≢true, cases_lt}
use Rattle.std.proofs.lemmas.List.{length_push, get_or_append_left, get_or_default, get_or_push, same_from_push, append-nil, take_all, take_more, take-append-le, length-take}
use Rattle.std.proofs.lemmas.List.Elements.{Contains-get_or, Contains-append_cases, Contains-push_cases}
use Rattle.acpi_space.specs.declared.tree.Name.{Name}
use Rattle.acpi_space.specs.Distinct.{IsDistinct}
use Rattle.acpi_space.specs.Places.{Place, up}
use Rattle.acpi_space.specs.inner.Trees.{Key, key, key_cmp, key_of, below, places_from, places_in, IsTree, IsAt, back_of, no_name, IsBeginning, IsClosed, IsNext, IsSame, Reaches}
use Rattle.acpi_space.proofs.Seen.{IsDistinct-push}
use Rattle.pw_base.proofs.Facts.{choice}

pub ap2 : {A B C : Type 0} (f : A → B → C) {a a' : A} {b b' : B} → a ≡ a' → b ≡ b' → f a b ≡ f a' b'
ap2 f {a} {a'} {b} {b'} e g = ap (λ x. f x b) e ∙ ap (f a') g

abbrev nowhere : Place
nowhere = []

pub take_none : (n : ℕ) → take n nowhere ≡ []
take_none zero = refl
take_none (suc n) = refl

-- ---- the list of places

pub length_from : (ps : List Place) (ns : List Name) → length (places_from ps ns) ≡ length ps + length ns
length_from ps [] = omega arith
length_from ps (n ∷ ns) = let l = length_push ps (below ps n.above n.seg) in let e = length_from (ps ++ below ps n.above n.seg ∷ []) ns in omega arith

pub early : (ps : List Place) (ns : List Name) (k : ℕ) (d : Place) → k < length ps → get_or (places_from ps ns) k d ≡ get_or ps k d
early ps [] k d l = refl
early ps (n ∷ ns) k d l =
    let b = below ps n.above n.seg in
    let more = length_push ps b in
    let inside : k < length (ps ++ b ∷ []) = omega arith in
    early (ps ++ b ∷ []) ns k d inside ∙ get_or_append_left ps (b ∷ []) d k l

pub pushed : (ps : List Place) (ns : List Name) (n : Name) → places_from ps (ns ++ n ∷ []) ≡ places_from ps ns ++ below (places_from ps ns) n.above n.seg ∷ []
pushed ps [] n = refl
pushed ps (m ∷ ns) n = pushed (ps ++ below ps m.above m.seg ∷ []) ns n

named_from : (ps : List Place) (ns : List Name) (i : ℕ) (d : Name) → i < length ns → (get_or ns i d).above < length ps + i
    → get_or (places_from ps ns) (length ps + i) [] ≡ below (places_from ps ns) (get_or ns i d).above (get_or ns i d).seg
named_from ps [] i d l a = absurd (let impossible = l in omega arith)
named_from ps (n ∷ ns) zero d l a =
    let b = below ps n.above n.seg in
    let more = length_push ps b in
    let inside : length ps + 0 < length (ps ++ b ∷ []) = omega arith in
    let here : n.above < length ps = omega arith in
    let end : length ps ≡ length ps + 0 = omega arith in
    early (ps ++ b ∷ []) ns (length ps + 0) [] inside ∙ get_or_push ps b [] (length ps + 0) end
    ∙ ap (λ (q : Place). q ++ n.seg ∷ []) (sym (early ps (n ∷ ns) n.above [] here))
named_from ps (n ∷ ns) (suc i) d l a =
    let b = below ps n.above n.seg in
    let more = length_push ps b in
    let shift : length ps + suc i ≡ length (ps ++ b ∷ []) + i = omega arith in
    let inside : i < length ns = omega arith in
    let before : (get_or ns i d).above < length (ps ++ b ∷ []) + i = omega arith in
    ap (λ k. get_or (places_from ps (n ∷ ns)) k []) shift ∙ named_from (ps ++ b ∷ []) ns i d inside before

-- the place of a name
pub named : (ns : List Name) (i : ℕ) (d : Name) → i < length ns → (get_or ns i d).above ≤ i
    → get_or (places_in ns) (i + 1) [] ≡ below (places_in ns) (get_or ns i d).above (get_or ns i d).seg
named ns i d l a =
    let shift : i + 1 ≡ 1 + i = omega arith in
    let before : (get_or ns i d).above < 1 + i = omega arith in
    ap (λ k. get_or (places_in ns) k []) shift ∙ named_from ([] ∷ []) ns i d l before

pub length_in : (ns : List Name) → length (places_in ns) ≡ length ns + 1
length_in ns = let e : length (places_in ns) ≡ 1 + length ns = length_from ([] ∷ []) ns in omega arith

pub root_at : (ns : List Name) → IsAt (places_in ns) 0 []
root_at ns = let e = length_in ns in (omega arith, early ([] ∷ []) ns 0 [] (omega arith))

-- ---- lists in which nothing stands twice

pub same_index : {X : Type 0} (xs : List X) (i j : ℕ) (d : X) → IsDistinct xs → i < length xs → j < length xs → get_or xs i d ≡ get_or xs j d → i ≡ j
same_index xs i j d distinct li lj e =
    elim (cases_lt i j) [
      | inl less ↦ absurd (distinct i j d less lj e)
      | inr more ↦ elim (cases_lt j i) [
        | inl less ↦ absurd (distinct j i d less li (sym e))
        | inr same ↦ omega arith
      ]
    ]

-- ---- keys

then_equal : (a b : Ordering) → ordering_then a b ≡ Equal → (a ≡ Equal) × (b ≡ Equal)
then_equal Less b e = absurd (false≢true (ap is_eq e))
then_equal Equal b e = (refl, e)
then_equal Greater b e = absurd (false≢true (ap is_eq e))

pub is_equal : (o : Ordering) → is_eq o ≡ true → o ≡ Equal
is_equal Less e = absurd (false≢true e)
is_equal Equal e = refl
is_equal Greater e = absurd (false≢true e)

pub equal_keys : (a b : Key) → is_at (key_cmp a) b ≡ true → a ≡ b
equal_keys a b e =
    let both = then_equal _ _ (is_equal _ e) in
    sym (ap2 key (slice_cmp-IsAntisymmetric nat_cmp-IsAntisymmetric b.0.0 a.0.0 both.0) (nat_cmp-IsAntisymmetric b.0.1 a.0.1 both.1))

pub some_none : {X : Type 0} {o : Option X} {x : X} → o ≡ Some x → o ≡ None → ⊥
some_none e f = absurd (let g = sym e ∙ f in cc)

pub same_some : {X : Type 0} {x y : X} → Some x ≡ Some y → x ≡ y
same_some e = cc

-- ---- a tree

-- the place that the map tells
pub child_there : (ns : List Name) (map : BTreeMap Key ℕ) (at : ℕ) (s : List ℕ) (k : ℕ) → IsTree ns map
    → get key_cmp map (key s at) ≡ Some k → IsAt (places_in ns) k (below (places_in ns) at s)
child_there ns map at s k tree e =
    let (i, is, within, keyed) = tree.only (key s at) k e in
    let size = length_in ns in
    let stands = named ns i no_name within (tree.above i no_name within) in
    (omega (arith, size, is, within), ap (λ j. get_or (places_in ns) j []) is ∙ stands ∙ ap (λ (q : Key). below (places_in ns) q.0.1 q.0.0) (keyed no_name))

-- a place is the root, or stands below one
pub root_or_below : (ns : List Name) (map : BTreeMap Key ℕ) (k : ℕ) → IsTree ns map → k < length (places_in ns)
    → (k ≡ 0) ⊎ ((i : ℕ) × (k ≡ i + 1) × (i < length ns) × ((get_or ns i no_name).above ≤ i)
    × (get_or (places_in ns) k [] ≡ below (places_in ns) (get_or ns i no_name).above (get_or ns i no_name).seg))
root_or_below ns map zero tree l = inl refl
root_or_below ns map (suc i) tree l =
    let size = length_in ns in
    let within : i < length ns = omega arith in
    let up = tree.above i no_name within in
    let shift : suc i ≡ i + 1 = omega arith in
    inr (i, shift, within, up, rw shift (named ns i no_name within up))

never_root : (q : Place) (s : List ℕ) → q ++ s ∷ [] ≡ [] → ⊥
never_root q s e = let l = length_push q s in let f : length (q ++ s ∷ []) ≡ 0 = ap length e in omega arith

-- what stands below a place that is one of the tree
pub above_there : (ns : List Name) (map : BTreeMap Key ℕ) (q : Place) (s : List ℕ) → IsTree ns map → Contains (places_in ns) (q ++ s ∷ [])
    → (i : ℕ) × (i < length ns) × ((get_or ns i no_name).above < length (places_in ns)) × (get_or (places_in ns) (get_or ns i no_name).above [] ≡ q) × ((get_or ns i no_name).seg ≡ s)
above_there ns map q s tree (k, l, e) =
    let f : get_or (places_in ns) k [] ≡ q ++ s ∷ [] = get_or_default (places_in ns) k [] (q ++ s ∷ []) l ∙ e in
    elim (root_or_below ns map k tree l) [
      | inl root ↦ absurd (never_root q s (sym f ∙ (rw root (root_at ns).1)))
      | inr (i, is, within, up, stands) ↦
          let both = same_from_push _ q _ s (sym stands ∙ f) in
          let size = length_in ns in
          (i, within, omega arith, both.0, both.1)
    ]

pub closed : (ns : List Name) (map : BTreeMap Key ℕ) → IsTree ns map → IsClosed (places_in ns)
closed ns map tree q s among =
    let (i, within, inside, is, seg) = above_there ns map q s tree among in
    subst (Contains (places_in ns)) is (Contains-get_or (places_in ns) (get_or ns i no_name).above [] inside)

-- a place of the tree is told by the map
pub child_told : (ns : List Name) (map : BTreeMap Key ℕ) (at : ℕ) (s : List ℕ) → IsTree ns map → at < length (places_in ns)
    → get key_cmp map (key s at) ≡ None → Contains (places_in ns) (below (places_in ns) at s) → ⊥
child_told ns map at s tree inside none among =
    let (i, within, up_inside, is, seg) = above_there ns map (get_or (places_in ns) at []) s tree among in
    let same = same_index (places_in ns) (get_or ns i no_name).above at [] tree.distinct up_inside inside is in
    let told = tree.all i no_name within in
    let keyed : key_of (get_or ns i no_name) ≡ key s at = rw (seg, same) refl in
    some_none (ap (get key_cmp map) (sym keyed) ∙ told) none

-- names before a new one tell the same
back_stays : (ns : List Name) (n : Name) (i : ℕ) → i ≤ length ns → back_of (ns ++ n ∷ []) i ≡ back_of ns i
back_stays ns n zero l = refl
back_stays ns n (suc i) l = ap (λ (m : Name). m.back) (get_or_append_left ns (n ∷ []) no_name i (omega (arith, l)))

place_stays : (ns : List Name) (n : Name) (k : ℕ) → k < length (places_in ns) → get_or (places_in (ns ++ n ∷ [])) k [] ≡ get_or (places_in ns) k []
place_stays ns n k l = ap (λ ps. get_or ps k []) (pushed ([] ∷ []) ns n) ∙ get_or_append_left (places_in ns) (below (places_in ns) n.above n.seg ∷ []) [] k l

new_place : (ns : List Name) (n : Name) (k : ℕ) → length (places_in ns) ≡ k → get_or (places_in (ns ++ n ∷ [])) k [] ≡ below (places_in ns) n.above n.seg
new_place ns n k e = ap (λ ps. get_or ps k []) (pushed ([] ∷ []) ns n) ∙ get_or_push (places_in ns) (below (places_in ns) n.above n.seg) [] k e

-- one more place
pub added : (ns : List Name) (map map' : BTreeMap Key ℕ) (n : Name) → IsTree ns map → n.above < length (places_in ns) → IsNext ns n
    → (Contains (places_in ns) (below (places_in ns) n.above n.seg) → ⊥)
    → Updates key_cmp map map' (key n.seg n.above) (Some (length ns + 1)) → IsTree (ns ++ n ∷ []) map'
added ns map map' n tree inside next fresh updates =
    let size = length_in ns in
    let more = length_push ns n in
    let new_key : Key = key n.seg n.above in
    let P = below (places_in ns) n.above n.seg in
    let new : (k : ℕ) → get key_cmp map new_key ≡ Some k → ⊥ = λ k e. (let there = child_there ns map n.above n.seg k tree e in
    fresh (subst (Contains (places_in ns)) there.1 (Contains-get_or (places_in ns) k [] there.0))) in
    record {
      above = λ i d l. elim (cases_lt i (length ns)) [
        | inl old ↦ rw (get_or_append_left ns (n ∷ []) d i old) (tree.above i d old)
        | inr end ↦ let e : length ns ≡ i = omega arith in rw (get_or_push ns n d i e) (omega arith)
      ];
      depth = λ i d l. elim (cases_lt i (length ns)) [
        | inl old ↦ rw (get_or_append_left ns (n ∷ []) d i old, place_stays ns n (i + 1) (omega arith)) (tree.depth i d old)
        | inr end ↦
            let e : length ns ≡ i = omega arith in
            rw (get_or_push ns n d i e, new_place ns n (i + 1) (omega arith)) (next.depth ∙ sym (length_push (get_or (places_in ns) n.above []) n.seg))
      ];
      back = λ i d l. elim (cases_lt i (length ns)) [
        | inl old ↦ rw (get_or_append_left ns (n ∷ []) d i old, back_stays ns n i (omega arith)) (tree.back i d old)
        | inr end ↦ let e : length ns ≡ i = omega arith in rw (get_or_push ns n d i e, back_stays ns n i (omega arith), ← e) next.back
      ];
      distinct = rw (pushed ([] ∷ []) ns n) (IsDistinct-push (places_in ns) P tree.distinct fresh);
      all = λ i d l. elim (cases_lt i (length ns)) [
        | inl old ↦
            let told = tree.all i d old in
            let other : is_at (key_cmp new_key) (key_of (get_or ns i d)) ≡ false = (elim (choice (is_at (key_cmp new_key) (key_of (get_or ns i d)))) [
              | inl hit ↦ absurd (new (i + 1) (ap (get key_cmp map) (equal_keys new_key _ hit) ∙ told))
              | inr miss ↦ miss
            ]) in
            rw (get_or_append_left ns (n ∷ []) d i old) (updates.2 (key_of (get_or ns i d)) other ∙ told)
        | inr end ↦ let e : length ns ≡ i = omega arith in rw (get_or_push ns n d i e, ← e) updates.1
      ];
      only = λ q k e. elim (choice (is_at (key_cmp new_key) q)) [
        | inl hit ↦
            let is : Some (length ns + 1) ≡ Some k = sym (updates.0 q ∙ (rw hit refl)) ∙ e in
            let number = same_some is in
            (length ns, sym number, omega arith, λ d. rw (get_or_push ns n d (length ns) refl) (equal_keys new_key q hit))
        | inr miss ↦
            let (i, is, within, keyed) = tree.only q k (sym (updates.0 q ∙ (rw miss refl)) ∙ e) in
            (i, is, omega arith, λ d. rw (get_or_append_left ns (n ∷ []) d i within) (keyed d))
      ];
    }

-- ---- what the calls of a tree answer

pub child_answer : (ns : List Name) (map : BTreeMap Key ℕ) (at : ℕ) (s : List ℕ) (places : List Place) → IsTree ns map → places_in ns ≡ places → at < length places
    → (r : Option ℕ) → r ≡ get key_cmp map (key s at) → MatchOption r (Contains places (below places at s) → ⊥) (λ k. IsAt places k (below places at s))
child_answer ns map at s places tree v inside None e = subst (λ t. Contains t (below t at s) → ⊥) v (child_told ns map at s tree (subst (λ t. at < length t) (sym v) inside) (sym e))
child_answer ns map at s places tree v inside (Some k) e = subst (λ t. IsAt t k (below t at s)) v (child_there ns map at s k tree (sym e))

pub above_answer : (ns : List Name) (map : BTreeMap Key ℕ) (at : ℕ) (n : Name) (places : List Place) → IsTree ns map → places_in ns ≡ places → at < length places → at ≢ 0
    → n ≡ get_or ns (at - 1) n → (get_or places at [] ≡ below places n.above n.seg) × (n.above < at)
above_answer ns map at n places tree v inside some is =
    let size = length_in ns in
    let same : length (places_in ns) ≡ length places = ap length v in
    let i : ℕ = at - 1 in
    let within : at - 1 < length ns = omega arith in
    let back : at ≡ (at - 1) + 1 = omega arith in
    let up = tree.above (at - 1) n within in
    let lower : n.above ≤ at - 1 = subst (λ (m : Name). m.above ≤ at - 1) (sym is) up in
    let stands : get_or (places_in ns) at [] ≡ below (places_in ns) n.above n.seg =
    ap (λ k. get_or (places_in ns) k []) back ∙ named ns (at - 1) n within up ∙ ap (λ (m : Name). below (places_in ns) m.above m.seg) (sym is) in
    (subst (λ t. get_or t at [] ≡ below t n.above n.seg) v stands, omega arith)

-- a map that tells the same of each key tells the same tree
pub same_answers : (ns ms : List Name) (map map' : BTreeMap Key ℕ) → IsTree ns map → ms ≡ ns → IsSame map map' → IsTree ms map'
same_answers ns ms map map' tree same e = rw same (record {
  above = tree.above;
  depth = tree.depth;
  back = tree.back;
  distinct = tree.distinct;
  all = λ i d l. e (key_of (get_or ns i d)) ∙ tree.all i d l;
  only = λ q k told. tree.only q k (sym (e q) ∙ told);
})

pub same_map : (ns ms : List Name) (map map' : BTreeMap Key ℕ) → IsTree ns map → ms ≡ ns → map'.entries ≡ map.entries → IsTree ms map'
same_map ns ms map map' tree same e = same_answers ns ms map map' tree same (λ q. ap (λ es. lookup (is_at (key_cmp q)) es) e)

-- a map that is told a number, and then again what it knew, tells the same of each key
pub told_again : (map mid map' : BTreeMap Key ℕ) (k : Key) (number known : ℕ) → get key_cmp map k ≡ Some known → Updates key_cmp map mid k (Some number)
    → Updates key_cmp mid map' k (Some known) → IsSame map map'
told_again map mid map' k number known was first second q = elim (choice (is_at (key_cmp k) q)) [
  | inl same ↦ second.0 q ∙ rw same (sym was ∙ ap (λ (j : Key). get key_cmp map j) (equal_keys k q same))
  | inr other ↦ second.0 q ∙ rw other (first.0 q ∙ rw other refl)
]

pub added_view : (ns ms : List Name) (n : Name) (places : List Place) → places_in ns ≡ places → ms ≡ ns ++ n ∷ [] → places_in ms ≡ places ++ below places n.above n.seg ∷ []
added_view ns ms n places v e = ap places_in e ∙ pushed ([] ∷ []) ns n ∙ ap (λ t. t ++ below t n.above n.seg ∷ []) v

pub added_tree : (ns ms : List Name) (map map' : BTreeMap Key ℕ) (n : Name) (places : List Place) (number : ℕ) → IsTree ns map → places_in ns ≡ places → n.above < length places → IsNext ns n
    → (Contains places (below places n.above n.seg) → ⊥) → ms ≡ ns ++ n ∷ [] → number ≡ length ns + 1
    → Updates key_cmp map map' (key n.seg n.above) (Some number) → IsTree ms map'
added_tree ns ms map map' n places number tree v inside next fresh e count updates =
    rw e (added ns map map' n tree (subst (λ t. n.above < length t) (sym v) inside) next (subst (λ t. Contains t (below t n.above n.seg) → ⊥) (sym v) fresh)
    (subst (λ k. Updates key_cmp map map' (key n.seg n.above) (Some k)) count updates))

pub reached_added : (old new : List Place) (k : ℕ) (place : Place) → (k ≡ length old) × (new ≡ old ++ place ∷ []) → Reaches old new k place
reached_added old new k place e = record {
  more = place ∷ [];
  grown = e.1;
  here = rw (e.1, e.0) (let l = length_push old place in omega arith, get_or_push old place [] (length old) refl);
  fresh = λ q among. elim (Contains-push_cases [] place q among) [
    | inl none ↦ absurd (let l = none.1 in omega arith)
    | inr same ↦ rw (← same) (take_all (length place) place (omega arith))
  ];
}

pub reached_there : (old : List Place) (k : ℕ) (place : Place) → IsAt old k place → Reaches old old k place
reached_there old k place here = record {
  more = [];
  grown = sym (append-nil old);
  here = here;
  fresh = λ q among. absurd (let l = among.1 in omega arith);
}

longer : (place q : Place) (s : List ℕ) → IsBeginning q place → IsBeginning q (place ++ s ∷ [])
longer place q s e =
    let l : min (length q) (length place) ≡ length q = sym (length-take (length q) place) ∙ ap length e in
    let fits : length q ≤ length place = omega (arith, l) in
    take-append-le (length q) place (s ∷ []) fits ∙ e

pub reached_on : (old mid new : List Place) (k k' : ℕ) (place whole : Place) (s : List ℕ) → Reaches old mid k place → Reaches mid new k' (below mid k s)
    → whole ≡ place ++ s ∷ [] → Reaches old new k' whole
reached_on old mid new k k' place whole s first next is =
    let end : below mid k s ≡ whole = ap (λ (p : Place). p ++ s ∷ []) first.here.1 ∙ sym is in
    record {
      more = first.more ++ next.more;
      grown = next.grown ∙ ap (λ m. m ++ next.more) first.grown ∙ append_assoc old first.more next.more;
      here = subst (IsAt new k') end next.here;
      fresh = λ q among. elim (Contains-append_cases first.more next.more q among) [
        | inl was ↦ rw is (longer place q s (first.fresh q was))
        | inr new' ↦ subst (IsBeginning q) end (next.fresh q new')
      ];
    }

pub one_more : (base segs : Place) (i : ℕ) (s : List ℕ) → i < length segs → s ≡ get_or segs i s → base ++ take (i + 1) segs ≡ (base ++ take i segs) ++ s ∷ []
one_more base segs i s l is =
    ap (λ front. base ++ front) (take_more segs i s l ∙ ap (λ t. take i segs ++ t ∷ []) (sym is)) ∙ sym (append_assoc base (take i segs) (s ∷ []))

-- ---- the way down

-- the first segments of a place, but for some at its end
pub shorter_there : (places : List Place) (place : Place) (d : List ℕ) (n gap : ℕ) → IsClosed places → n + gap ≡ length place → Contains places place → Contains places (take n place)
shorter_there places place d n zero closed e among = rw (take_all n place (omega arith)) among
shorter_there places place d n (suc gap) closed e among =
    let inside : n < length place = omega arith in
    let further = shorter_there places place d (n + 1) gap closed (omega arith) among in
    closed (take n place) (get_or place n d) (subst (Contains places) (take_more place n d inside) further)

pub not_below : (places : List Place) (segs : Place) (at i : ℕ) (s : List ℕ) → IsClosed places → IsAt places at (take i segs) → i < length segs → s ≡ get_or segs i s
    → (Contains places (below places at s) → ⊥) → Contains places segs → ⊥
not_below places segs at i s closed here l is none among =
    let more : take (i + 1) segs ≡ take i segs ++ s ∷ [] = take_more segs i s l ∙ ap (λ t. take i segs ++ t ∷ []) (sym is) in
    let gap : ℕ = length segs - (i + 1) in
    let sum : (i + 1) + gap ≡ length segs = omega arith in
    let front = shorter_there places segs s (i + 1) gap closed sum among in
    none (subst (Contains places) (more ∙ ap (λ (p : Place). p ++ s ∷ []) (sym here.1)) front)

-- the map tells a place of the tree
pub told_child : (ns : List Name) (map : BTreeMap Key ℕ) (at : ℕ) (s : List ℕ) → IsTree ns map → at < length (places_in ns) → Contains (places_in ns) (below (places_in ns) at s)
    → (k : ℕ) × (get key_cmp map (key s at) ≡ Some k)
told_child ns map at s tree inside among =
    let (i, within, up_inside, is, seg) = above_there ns map (get_or (places_in ns) at []) s tree among in
    let same = same_index (places_in ns) (get_or ns i no_name).above at [] tree.distinct up_inside inside is in
    let keyed : key_of (get_or ns i no_name) ≡ key s at = rw (seg, same) refl in
    (i + 1, ap (get key_cmp map) (sym keyed) ∙ tree.all i no_name within)
