-- The parent of an object is the innermost container around it.
use Rattle.std.proofs.Common.{◌≡◌, ℕ, ◌+◌, ◌<◌, ◌≤◌, true, List, length, get_or, take, Option, Some, None, refl, sym, ap, subst, ◌∙◌, inl, inr, arith}
use Rattle.std.specs.Prelude.{Contains, nat_lt, slice_index}
use Rattle.std.specs.Option.{option_map}
use Rattle.std.proofs.lemmas.Bool.{cases_lt, false≢true}
use Rattle.std.proofs.lemmas.Bool.Decides.{nat_tests}
use Rattle.std.proofs.lemmas.List.{get_or_default}
use Rattle.std.proofs.lemmas.List.Elements.{Contains-get_or}
use Rattle.acpi_space.specs.Distinct.{IsDistinct}
use Rattle.acpi_space.specs.Lookup.{is_place, path_in}
use Rattle.acpi_space.specs.Namespace.{Entry, places_of}
use Rattle.acpi_space.proofs.Lookups.{numbered, place_decides}
use Rattle.acpi_space.proofs.Trees.{same_some}
use Rattle.pw_plan.specs.Limits.{in_32_bits}
use Rattle.acpi_build.specs.Finding.{containers_of, depth_in, is_around, last_from, parent_of}
use Rattle.acpi_build.specs.Meaning.{IsAround, IsOuter, IsParent}
use Rattle.acpi_build.proofs.Parents.{both, containers_in_order, containers_rise, containers_within, fewer, IsLast, Last, last_is, map_told, none_some, same_last}

-- # Containers around an object

pub around_to : (entries : List Entry) (k c : ℕ) → is_around entries k c ≡ true → IsAround entries k c
around_to entries k c e =
    let tests = both (nat_lt (depth_in entries c) (depth_in entries k)) (is_place (take (depth_in entries c) (path_in entries k)) (path_in entries c)) e in
    record { shorter = fewer entries k c e; begins = (place_decides (take (depth_in entries c) (path_in entries k)) (path_in entries c)).0 tests.1 }

pub around_from : (entries : List Entry) (k c : ℕ) → IsAround entries k c → is_around entries k c ≡ true
around_from entries k c is =
    let short = is.shorter in
    let less : nat_lt (depth_in entries c) (depth_in entries k) ≡ true = grind (arith, nat_tests) in
    rw (less, (place_decides (take (depth_in entries c) (path_in entries k)) (path_in entries c)).1 is.begins) refl

same_object : (entries : List Entry) (i j : ℕ) → IsDistinct (places_of entries) → i < length entries → j < length entries → path_in entries i ≡ path_in entries j → i ≡ j
same_object entries i j distinct l m e = same_some (sym (numbered entries i (path_in entries i) distinct l refl) ∙ numbered entries j (path_in entries i) distinct m (sym e))

-- no container stands twice
pub apart : (entries : List Entry) (i j : ℕ) → IsOuter entries i j → i ≡ j → ⊥
apart entries i j (inl less) e = let same = ap (depth_in entries) e in omega (arith, less, same)
apart entries i j (inr same) e = let less = same.1 in omega (arith, less, e)

-- of two containers around one object the one that stands behind has more segments
pub not_behind : (entries : List Entry) (k i j : ℕ) → IsDistinct (places_of entries) → i < j → j < length (containers_of entries)
    → IsAround entries k (get_or (containers_of entries) i 0) → IsAround entries k (get_or (containers_of entries) j 0)
    → depth_in entries (get_or (containers_of entries) j 0) ≤ depth_in entries (get_or (containers_of entries) i 0) → ⊥
not_behind entries k i j distinct less l first second no_more =
    let cs = containers_of entries in
    let a = get_or cs i 0 in
    let b = get_or cs j 0 in
    let rise : depth_in entries a ≤ depth_in entries b = containers_rise entries i j 0 less l in
    let depth : depth_in entries a ≡ depth_in entries b = omega (arith, rise, no_more) in
    let path : path_in entries a ≡ path_in entries b = sym first.begins ∙ ap (λ n. take n (path_in entries k)) depth ∙ second.begins in
    apart entries a b (containers_in_order entries i j 0 less l)
    (same_object entries a b distinct (containers_within entries i 0 (omega (arith, less, l))) (containers_within entries j 0 l) path)

-- # The law

abbrev found : List Entry → ℕ → Option ℕ
found entries k = last_from (is_around entries k) 0 (containers_of entries)

pub found_is : (entries : List Entry) (k : ℕ) → Last (is_around entries k) 0 (containers_of entries) (last_from (is_around entries k) 0 (containers_of entries))
found_is entries k = last_is (is_around entries k) 0 (containers_of entries)

map_none : (f : ℕ → ℕ) (o : Option ℕ) → option_map f o ≡ None → o ≡ None
map_none f None e = refl
map_none f (Some x) e = absurd (none_some (sym e))

parent_to : (entries : List Entry) (k n : ℕ) → IsDistinct (places_of entries) → length (containers_of entries) ≤ 256 → parent_of entries k ≡ Some n
    → (n < length (containers_of entries)) × IsParent entries k (slice_index (containers_of entries) n)
unfolding parent_of
parent_to entries k n distinct few e =
    let cs = containers_of entries in
    let (p, is, same) = map_told in_32_bits (found entries k) n e in
    let last : IsLast (is_around entries k) 0 cs p = subst (Last (is_around entries k) 0 cs) is (found_is entries k) in
    let at : p ≡ last.at = last.is ∙ (omega arith) in
    let inside = last.within in
    let number : n ≡ last.at = let small : in_32_bits p ≡ p = grind (arith, at, inside, few) in same ∙ small ∙ at in
    let within : n < length cs = omega (arith, number, inside) in
    let around : IsAround entries k (get_or cs n 0) = subst (λ m. IsAround entries k (get_or cs m 0)) (sym number) (around_to entries k (get_or cs last.at 0) last.passes) in (
      within,
      record {
        container = Contains-get_or cs n 0 within;
        around = around;
        longest = λ b among other. (
            let (j, l, is_b) = among in
            let b_is : get_or cs j 0 ≡ b = get_or_default cs j 0 b l ∙ is_b in
            elim (cases_lt n j) [
              | inl behind ↦ absurd (false≢true (sym (last.none j (omega (arith, behind, number)) l) ∙ around_from entries k (get_or cs j 0) (subst (IsAround entries k) (sym b_is) other)))
              | inr not ↦ elim (cases_lt j n) [
                | inl before ↦ subst (λ q. depth_in entries q ≤ depth_in entries (get_or cs n 0)) b_is (containers_rise entries j n 0 before within)
                | inr here ↦ let e : j ≡ n = omega arith in subst (λ q. depth_in entries q ≤ depth_in entries (get_or cs n 0)) (ap (λ m. get_or cs m 0) (sym e) ∙ b_is) (omega arith)
              ]
            ]);
      },
    )

parent_from : (entries : List Entry) (k n : ℕ) → IsDistinct (places_of entries) → length (containers_of entries) ≤ 256 → n < length (containers_of entries)
    → IsParent entries k (slice_index (containers_of entries) n) → parent_of entries k ≡ Some n
unfolding parent_of
parent_from entries k n distinct few l is =
    let cs = containers_of entries in
    let last : found entries k ≡ Some (0 + n) = same_last (is_around entries k) 0 cs n (found entries k) l (around_from entries k (get_or cs n 0) is.around)
    (λ i more within passes. (
    let other = around_to entries k (get_or cs i 0) passes in
    not_behind entries k n i distinct more within is.around other (is.longest (get_or cs i 0) (Contains-get_or cs i 0 within) other))) (found_is entries k) in
    let small : in_32_bits (0 + n) ≡ n = grind (arith, l, few) in
    ap (option_map in_32_bits) last ∙ ap Some small

pub parent_some : (entries : List Entry) (k n : ℕ) → IsDistinct (places_of entries) → length (containers_of entries) ≤ 256
    → (parent_of entries k ≡ Some n → (n < length (containers_of entries)) × IsParent entries k (slice_index (containers_of entries) n))
    × ((n < length (containers_of entries)) × IsParent entries k (slice_index (containers_of entries) n) → parent_of entries k ≡ Some n)
parent_some entries k n distinct few = (parent_to entries k n distinct few, λ is. parent_from entries k n distinct few is.0 is.1)

bare : (entries : List Entry) (k : ℕ) (o : Option ℕ) → ((c : ℕ) → Contains (containers_of entries) c → IsAround entries k c → ⊥) → Last (is_around entries k) 0 (containers_of entries) o → o ≡ None
bare entries k None alone last = refl
bare entries k (Some m) alone last =
    let c = get_or (containers_of entries) last.at 0 in
    absurd (alone c (Contains-get_or (containers_of entries) last.at 0 last.within) (around_to entries k c last.passes))

pub parent_none : (entries : List Entry) (k : ℕ) → IsDistinct (places_of entries)
    → (parent_of entries k ≡ None → (c : ℕ) → Contains (containers_of entries) c → IsAround entries k c → ⊥)
    × (((c : ℕ) → Contains (containers_of entries) c → IsAround entries k c → ⊥) → parent_of entries k ≡ None)
unfolding parent_of
parent_none entries k distinct = (
  λ e c among around. (
      let (j, l, is) = among in
      let same : get_or (containers_of entries) j 0 ≡ c = get_or_default (containers_of entries) j 0 c l ∙ is in
      let none = subst (Last (is_around entries k) 0 (containers_of entries)) (map_none in_32_bits (found entries k) e) (found_is entries k) in
      false≢true (sym (none j l) ∙ around_from entries k (get_or (containers_of entries) j 0) (subst (IsAround entries k) (sym same) around))),
  λ alone. ap (option_map in_32_bits) (bare entries k (found entries k) alone (found_is entries k)),
)
