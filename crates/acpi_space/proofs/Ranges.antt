-- The last place, up to a number, that has a segment below it: the first entry of a part of the map of a tree.
use Rattle.std.proofs.Common.{◌≡◌, ◌≢◌, ◌<◌, ◌≤◌, ◌+◌, ℕ, false, List, [], ◌∷◌, length, Ordering}
use Rattle.std.proofs.Common.{refl, sym, ap, subst, arith, nat_cmp}
use Rattle.std.specs.Prelude.{Contains, IfSome, IsSome, slice_get}
use Rattle.std.specs.Ordering.{is_gt, is_lt, ordering_then, ordering_reverse}
use Rattle.std.specs.declared.cmp.Ordering.TheVariants.{Less, Equal, Greater}
use Rattle.std.specs.declared.ops.Bound.TheVariants.{Included, Unbounded}
use Rattle.std.specs.Cmp.Lexicographic.{slice_cmp, nat_list_cmp_total}
use Rattle.std.specs.FinMap.{slice_cmp-IsAntisymmetric, nat_cmp-IsAntisymmetric}
use Rattle.std.specs.BTreeMap.{BTreeMap, get}
use Rattle.std.specs.BTreeMap.Range.{IsEntryInRange, IsLeBy, IsRangeOf}
use Rattle.std.proofs.lemmas.Bool.{false≢true}
use Rattle.acpi_space.specs.declared.tree.Name.{Name}
use Rattle.acpi_space.specs.Places.{Place}
use Rattle.acpi_space.specs.inner.Trees.{Key, key, key_cmp, below, places_in, IsTree, IsAt, IsLast, HasNoneFrom}
use Rattle.acpi_space.proofs.Trees.{child_told, child_there, told_child}

-- two orders that are each other's reverse, and neither is above
both_equal : (o p low high : Ordering) → o ≡ ordering_reverse p → is_gt (ordering_then o low) ≡ false → is_gt (ordering_then p high) ≡ false → (o ≡ Equal) × (is_gt high ≡ false)
both_equal Less Less low high e f g = absurd (false≢true (ap is_gt e))
both_equal Less Equal low high e f g = absurd (false≢true (ap is_lt (sym e)))
both_equal Less Greater low high e f g = absurd (false≢true (sym g))
both_equal Equal Less low high e f g = absurd (false≢true (ap is_gt e))
both_equal Equal Equal low high e f g = (refl, g)
both_equal Equal Greater low high e f g = absurd (false≢true (sym g))
both_equal Greater p low high e f g = absurd (false≢true (sym f))

not_above : (x y : ℕ) → is_gt (nat_cmp x y) ≡ false → x ≤ y
not_above x y e = grind (arith, e)

above_not : (x y : ℕ) → x ≤ y → is_gt (nat_cmp x y) ≡ false
above_not x y l = grind (arith, l)

itself : (o : Ordering) → o ≡ ordering_reverse o → o ≡ Equal
itself Less e = absurd (false≢true (ap is_gt e))
itself Equal e = refl
itself Greater e = absurd (false≢true (sym (ap is_gt e)))

-- the first of the keys of one segment has the greatest number
after_first : (s seg : List ℕ) (above a : ℕ) → s ≡ seg → above + 1 ≤ a → is_gt (key_cmp (key s above) (key seg a)) ≡ false → ⊥
after_first s seg above a same more e =
    let equal : slice_cmp nat_cmp seg seg ≡ Equal = itself (slice_cmp nat_cmp seg seg) (nat_list_cmp_total.antisymm seg seg) in
    let plain : is_gt (nat_cmp a above) ≡ false = subst (λ o. is_gt (ordering_then o (nat_cmp a above)) ≡ false) equal (subst (λ t. is_gt (ordering_then (slice_cmp nat_cmp seg t) (nat_cmp a above))
    ≡ false) same e) in
    let less = not_above a above plain in
    absurd (omega arith)

-- a key between two of one segment has it too
between : (seg : List ℕ) (most least : ℕ) (k : Key) → IsLeBy key_cmp (key seg most) k → IsLeBy key_cmp k (key seg least) → k.0.0 ≡ seg
between seg most least k low high =
    let both = both_equal (slice_cmp nat_cmp seg k.0.0) (slice_cmp nat_cmp k.0.0 seg) (nat_cmp least k.0.1) (nat_cmp k.0.1 most) (nat_list_cmp_total.antisymm seg k.0.0) high low in
    sym (slice_cmp-IsAntisymmetric nat_cmp-IsAntisymmetric seg k.0.0 both.0)

-- of two keys of one segment the first has the greater number
lower : (s seg : List ℕ) (most a : ℕ) → s ≡ seg → IsLeBy key_cmp (key seg most) (key s a) → a ≤ most
lower s seg most a same e =
    let equal : slice_cmp nat_cmp seg seg ≡ Equal = itself (slice_cmp nat_cmp seg seg) (nat_list_cmp_total.antisymm seg seg) in
    let plain : is_gt (nat_cmp a most) ≡ false = subst (λ o. is_gt (ordering_then o (nat_cmp a most)) ≡ false) equal (subst (λ t. is_gt (ordering_then (slice_cmp nat_cmp t seg) (nat_cmp a most))
    ≡ false) same e) in
    not_above a most plain

from : (seg : List ℕ) (most a : ℕ) → a ≤ most → IsLeBy key_cmp (key seg most) (key seg a)
from seg most a l =
    let same : slice_cmp nat_cmp seg seg ≡ Equal = itself (slice_cmp nat_cmp seg seg) (nat_list_cmp_total.antisymm seg seg) in
    rw same (above_not a most l)

-- the entries from a key of the segment on: the first has the segment, or none up to that number has
module _ (ns : List Name) (map : BTreeMap Key ℕ) (places : List Place) (seg : List ℕ) (most : ℕ) (r : List (Key × ℕ)) (tree : IsTree ns map) (v : places_in ns ≡ places) (l : most < length places)
    (range : IsRangeOf key_cmp (Included (key seg most)) Unbounded map r) where
  -- what is told of a place that has the segment below it
  told : (a : ℕ) → a ≤ most → Contains (places_in ns) (below (places_in ns) a seg) → IsSome (get key_cmp map (key seg a))
  told a fits among =
      let size = ap length v in
      subst IsSome (sym (told_child ns map a seg tree (omega (arith, fits, l, size)) among).1) refl

  pub last_told : (t : List (Key × ℕ)) (e : Key × ℕ) → r ≡ e ∷ t → e.0.0.0 ≡ seg → IsLast places seg most (e.0.0.1, e.1)
  last_told t e is keyed =
      let entry = subst (λ es. IfSome (slice_get es 0) (IsEntryInRange key_cmp (Included (key seg most)) Unbounded map)) is range.1 in
      let there = child_there ns map e.0.0.1 e.0.0.0 e.1 tree entry.1 in
      subst (λ ps. IsLast ps seg most (e.0.0.1, e.1)) v (record {
        within = lower e.0.0.0 seg most e.0.0.1 keyed entry.0.0;
        here = subst (λ q. IsAt (places_in ns) e.1 (below (places_in ns) e.0.0.1 q)) keyed there;
        none = λ a least fits among. (
            let first = subst (λ es. IfSome (slice_get es 0) (λ (x : Key × ℕ). IsLeBy key_cmp x.0 (key seg a))) is (range.2 (key seg a) (from seg most a fits, tt) (told a fits among)) in
            after_first e.0.0.0 seg e.0.0.1 a keyed least first);
      })

  pub none_left : r ≡ [] → HasNoneFrom places seg 0 most
  none_left is = subst (λ ps. HasNoneFrom ps seg 0 most) v (λ a least fits among. (
      let size = ap length v in
      child_told ns map a seg tree (omega (arith, fits, l, size)) (range.5 is (key seg a) (from seg most a fits, tt)) among))

  pub none_told : (t : List (Key × ℕ)) (e : Key × ℕ) → r ≡ e ∷ t → e.0.0.0 ≢ seg → HasNoneFrom places seg 0 most
  none_told t e is other = subst (λ ps. HasNoneFrom ps seg 0 most) v (λ a least fits among. (
      let entry = subst (λ es. IfSome (slice_get es 0) (IsEntryInRange key_cmp (Included (key seg most)) Unbounded map)) is range.1 in
      let first = subst (λ es. IfSome (slice_get es 0) (λ (x : Key × ℕ). IsLeBy key_cmp x.0 (key seg a))) is (range.2 (key seg a) (from seg most a fits, tt) (told a fits among)) in
      other (between seg most a e.0 entry.0.0 first)))
