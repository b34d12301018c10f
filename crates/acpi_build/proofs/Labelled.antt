-- Labels of containers tell the parent of each object.
use Rattle.std.proofs.Common.{◌≡◌, ℕ, zero, suc, ◌+◌, ◌<◌, Bool, true, false, List, length, get_or, map, take, Option, Some, None, refl, sym, ap, ◌∙◌, inl, inr, arith}
use Rattle.std.specs.Prelude.{Contains, position, nat_eq, nat_lt}
use Rattle.std.specs.List.{position_or_len}
use Rattle.std.specs.Option.{option_map, option_or}
use Rattle.std.proofs.Math.ListN.{get_or-map}
use Rattle.std.proofs.lemmas.Bool.{cases_lt}
use Rattle.std.proofs.lemmas.Bool.Decides.{nat_tests}
use Rattle.std.proofs.lemmas.List.{get_or_default, length-map, length-take}
use Rattle.std.proofs.lemmas.List.Elements.{Contains-get_or}
use Rattle.std.proofs.lemmas.List.FromFn.{get_or-map-range_with_len}
use Rattle.std.proofs.lemmas.List.Sums.{position_or_len_is}
use Rattle.acpi_space.specs.Distinct.{IsDistinct}
use Rattle.acpi_space.specs.Lookup.{label_around, label_at, label_of, nearest, no_entry, number_at, path_in}
use Rattle.acpi_space.specs.Namespace.{Entry, places_of}
use Rattle.acpi_space.specs.Places.{Place}
use Rattle.acpi_space.proofs.Lookups.{numbered}
use Rattle.pw_plan.specs.Limits.{in_32_bits}
use Rattle.acpi_build.specs.Finding.{containers_of, depth_in, is_around, last_from, parent_of}
use Rattle.acpi_build.specs.Meaning.{IsAround}
use Rattle.acpi_build.specs.inner.Fitting.{AreParents}
use Rattle.acpi_build.specs.inner.Labels.{container_labels, label_of_parent}
use Rattle.acpi_build.proofs.Innermost.{apart, around_from, around_to, found_is, not_behind}
use Rattle.acpi_build.proofs.Parents.{containers_in_order, containers_within, equal_numbers, label_told, Last, map_told, none_some, number_told, position_told, same_last}

-- # The nearest label

-- the label is at one of the first n beginnings of a place, and the longer ones have none
record IsFirst (label : Place → Option ℕ) (place : Place) (n m : ℕ) : Type 0 where
  pub at : ℕ
  pub within : at < n
  pub here : label (take at place) ≡ Some m
  pub none : (i : ℕ) → at < i → i < n → label (take i place) ≡ None

abbrev Nearest : (Place → Option ℕ) → Place → ℕ → Option ℕ → Type 0
Nearest label place n None = (i : ℕ) → i < n → label (take i place) ≡ None
Nearest label place n (Some m) = IsFirst label place n m

one_more : (label : Place → Option ℕ) (place : Place) (n : ℕ) (o r : Option ℕ) → label (take n place) ≡ o → Nearest label place n r → Nearest label place (suc n) (option_or o r)
one_more label place n None None is none = λ i l. elim (cases_lt i n) [
  | inl below ↦ none i below
  | inr last ↦ let e : i ≡ n = omega arith in rw e is
]
one_more label place n None (Some m) is first = record {
  at = first.at;
  within = let l = first.within in omega arith;
  here = first.here;
  none = λ i more l. elim (cases_lt i n) [
    | inl below ↦ first.none i more below
    | inr last ↦ let e : i ≡ n = omega arith in rw e is
  ];
}
one_more label place n (Some m) r is rest = record { at = n; within = omega arith; here = is; none = λ i more l. absurd (let a = more in let b = l in omega arith) }

nearest_is : (label : Place → Option ℕ) (place : Place) (n : ℕ) → Nearest label place n (nearest label place n)
unfolding nearest
nearest_is label place zero = λ i l. absurd (let impossible = l in omega arith)
nearest_is label place (suc n) = one_more label place n (label (take n place)) (nearest label place n) refl (nearest_is label place n)

-- # Labels of containers

own_position : (entries : List Entry) (n : ℕ) → n < length (containers_of entries) → position (nat_eq (get_or (containers_of entries) n 0)) (containers_of entries) ≡ Some n
own_position entries n l =
    let cs = containers_of entries in
    let c = get_or cs n 0 in
    let first : position_or_len (nat_eq c) cs ≡ n = position_or_len_is (nat_eq c) cs n 0 (omega (arith, l))
    (λ j less. let differ = apart entries (get_or cs j 0) c (containers_in_order entries j n 0 less l) in unequal c (get_or cs j 0) (λ e. differ (sym e)))
    (λ _. let same : nat_eq c c ≡ true = grind (arith, nat_tests) in same) in
    let within : nat_lt n (length cs) ≡ true = grind (arith, nat_tests) in
    rw (first, within) refl
  where
    unequal : (a b : ℕ) → (a ≡ b → ⊥) → nat_eq a b ≡ false
    unequal a b differ = by (nat_eq a b) refl
      where
        by : (t : Bool) → nat_eq a b ≡ t → t ≡ false
        by true e = absurd (differ (equal_numbers a b e))
        by false e = refl

-- the labels of the containers, at places
abbrev labels : List Entry → Place → Option ℕ
labels entries = label_at entries (container_labels entries (containers_of entries))

labelled : (entries : List Entry) (n : ℕ) → IsDistinct (places_of entries) → n < length (containers_of entries)
    → labels entries (path_in entries (get_or (containers_of entries) n 0)) ≡ Some (in_32_bits n)
unfolding container_labels
labelled entries n distinct l =
    let cs = containers_of entries in
    let c = get_or cs n 0 in
    let among : c < length entries = containers_within entries n 0 l in
    let at : number_at entries (path_in entries c) ≡ Some c = numbered entries c (path_in entries c) distinct among refl in
    let value = get_or-map-range_with_len (λ q. option_map in_32_bits (position (nat_eq q) cs)) 0 (length entries) c c None among (omega arith) in
    ap (label_of (container_labels entries cs)) at ∙ value ∙ ap (option_map in_32_bits) (own_position entries n l)

-- a container that stands at a place
record IsThere (entries : List Entry) (place : Place) (m : ℕ) : Type 0 where
  pub number : ℕ
  pub within : number < length (containers_of entries)
  pub is : m ≡ in_32_bits number
  pub path : path_in entries (get_or (containers_of entries) number 0) ≡ place

container_at : (entries : List Entry) (place : Place) (m : ℕ) → labels entries place ≡ Some m → IsThere entries place m
unfolding container_labels
container_at entries place m e =
    let cs = containers_of entries in
    let (k, at, label) = label_told (container_labels entries cs) (number_at entries place) m e in
    let object = number_told entries place k at in
    let value : get_or (container_labels entries cs) k None ≡ option_map in_32_bits (position (nat_eq k) cs) =
    get_or-map-range_with_len (λ q. option_map in_32_bits (position (nat_eq q) cs)) 0 (length entries) k k None object.0 (omega arith) in
    let (p, first, is) = map_told in_32_bits (position (nat_eq k) cs) m (sym value ∙ label) in
    let found = position_told (nat_eq k) cs 0 p first in
    let same : k ≡ get_or cs p 0 = equal_numbers k (get_or cs p 0) found.1 in
    record { number = p; within = found.0; is = is; path = ap (path_in entries) (sym same) ∙ object.1 }

cut_place : (place : Place) (i : ℕ) → i < length place → length (take i place) ≡ i
cut_place place i l = let cut = length-take i place in omega (arith, cut, l)

-- a container at a shorter beginning of the path of an object is around it
around_there : (entries : List Entry) (k i m : ℕ) → i < depth_in entries k → (there : IsThere entries (take i (path_in entries k)) m)
    → IsAround entries k (get_or (containers_of entries) there.number 0) × (depth_in entries (get_or (containers_of entries) there.number 0) ≡ i)
around_there entries k i m l there =
    let size : depth_in entries (get_or (containers_of entries) there.number 0) ≡ i = ap length there.path ∙ cut_place (path_in entries k) i l in (
      record {
        shorter = omega (arith, size, l);
        begins = ap (λ n. take n (path_in entries k)) size ∙ sym there.path;
      },
      size,
    )

-- a container around an object is labelled at a beginning of its path
label_begins : (entries : List Entry) (k c : ℕ) → IsDistinct (places_of entries) → Contains (containers_of entries) c → IsAround entries k c
    → (n : ℕ) × (n < length (containers_of entries)) × (get_or (containers_of entries) n 0 ≡ c) × (labels entries (take (depth_in entries c) (path_in entries k)) ≡ Some (in_32_bits n))
label_begins entries k c distinct (n, l, is) around =
    let cs = containers_of entries in
    let same : get_or cs n 0 ≡ c = get_or_default cs n 0 c l ∙ is in
    (n, l, same, ap (labels entries) (around.begins ∙ ap (path_in entries) (sym same)) ∙ labelled entries n distinct l)

-- # Parents

no_label : (entries : List Entry) (k : ℕ) (o : Option ℕ) → IsDistinct (places_of entries) → ((i : ℕ) → i < depth_in entries k → labels entries (take i (path_in entries k)) ≡ None)
    → Last (is_around entries k) 0 (containers_of entries) o → o ≡ None
no_label entries k None distinct none last = refl
no_label entries k (Some m) distinct none last =
    let c = get_or (containers_of entries) last.at 0 in
    let around = around_to entries k c last.passes in
    let here = label_begins entries k c distinct (Contains-get_or (containers_of entries) last.at 0 last.within) around in
    absurd (none_some (sym (none (depth_in entries c) around.shorter) ∙ here.3))

told_by : (entries : List Entry) (k : ℕ) (o : Option ℕ) → IsDistinct (places_of entries) → Nearest (labels entries) (path_in entries k) (depth_in entries k) o → o ≡ parent_of entries k
unfolding parent_of
told_by entries k None distinct none = ap (option_map in_32_bits) (sym (no_label entries k (last_from (is_around entries k) 0 (containers_of entries)) distinct none (found_is entries k)))
told_by entries k (Some m) distinct first =
    let cs = containers_of entries in
    let there = container_at entries (take first.at (path_in entries k)) m first.here in
    let n = there.number in
    let (around, size) = around_there entries k first.at m first.within there in
    let last = same_last (is_around entries k) 0 cs n (last_from (is_around entries k) 0 cs) there.within (around_from entries k (get_or cs n 0) around)
    (λ i more within passes. (
    let other = around_to entries k (get_or cs i 0) passes in
    elim (cases_lt (depth_in entries (get_or cs n 0)) (depth_in entries (get_or cs i 0))) [
      | inl deeper ↦
          let here = label_begins entries k (get_or cs i 0) distinct (Contains-get_or cs i 0 within) other in
          none_some (sym (first.none (depth_in entries (get_or cs i 0)) (omega (arith, size, deeper)) other.shorter) ∙ here.3)
      | inr no_more ↦ not_behind entries k n i distinct more within around other no_more
    ])) (found_is entries k) in
    let zero_more : 0 + n ≡ n = omega arith in
    ap Some there.is ∙ ap (λ q. Some (in_32_bits q)) (sym zero_more) ∙ sym (ap (option_map in_32_bits) last)

labels_tell : (entries : List Entry) (k : ℕ) → IsDistinct (places_of entries) → label_of_parent entries k ≡ parent_of entries k
labels_tell entries k distinct = told_by entries k (label_of_parent entries k) distinct (nearest_is (labels entries) (path_in entries k) (depth_in entries k))

-- what holds of parents
pub are_parents : (entries : List Entry) (found r : List (Option ℕ)) → IsDistinct (places_of entries) → found ≡ container_labels entries (containers_of entries)
    → r ≡ map (λ (e : Entry). label_around entries found e.path) entries → AreParents entries r
are_parents entries found r distinct known is =
    let f : Entry → Option ℕ = λ e. label_around entries found e.path in
    record {
      count = ap length is ∙ length-map entries f;
      each = λ k l. ap (λ xs. get_or xs k None) is ∙ get_or_default (map f entries) k None (f no_entry) (omega (arith, l, length-map entries f)) ∙ get_or-map f entries k no_entry
          ∙ ap (λ ls. label_around entries ls (path_in entries k)) known ∙ labels_tell entries k distinct;
    }
