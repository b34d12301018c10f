-- The container around an object: it exists, and has fewer segments.
use Rattle.std.proofs.Common.{◌≡◌, ℕ, zero, suc, ◌+◌, ◌-◌, ◌<◌, ◌≤◌, Bool, true, false, List, [], ◌∷◌, ◌++◌, length, get_or, Option, Some, None, refl, sym, ap, subst, ◌∙◌, inl, inr, arith}
use Rattle.std.specs.Prelude.{All, filter, position, nat_eq, nat_lt, cond, ◌==◌, ◌&&◌, if◌then◌else◌}
use Rattle.std.specs.List.{AllPairs, flat_map, position_or_len, range_with_len}
use Rattle.std.specs.Option.{option_map, option_or}
use Rattle.std.proofs.lemmas.Bool.{cases_lt, false≢true}
use Rattle.std.proofs.lemmas.Bool.Decides.{nat_tests}
use Rattle.std.proofs.Math.Seq.{get_or-append_right}
use Rattle.std.proofs.lemmas.List.{get_or_append_left, length-append}
use Rattle.std.proofs.lemmas.List.Elements.{All-append, All-cons, All-filter}
use Rattle.std.proofs.lemmas.List.FromFn.{get_or-range_with_len, length-range_with_len}
use Rattle.std.proofs.lemmas.List.Kept.{AllPairs-filter}
use Rattle.std.proofs.lemmas.List.Sums.{passes_at_first}
use Rattle.acpi_space.specs.Lookup.{is_place, label_of, no_entry, number_at, path_in}
use Rattle.acpi_space.specs.Namespace.{Entry}
use Rattle.acpi_space.specs.Places.{Place}
use Rattle.acpi_space.proofs.Lookups.{place_decides}
use Rattle.acpi_space.proofs.Trees.{same_some}
use Rattle.pw_plan.specs.Limits.{in_32_bits}
use Rattle.pw_plan.specs.Parts.{is_below}
use Rattle.acpi_build.specs.Meaning.{IsOuter}
use Rattle.acpi_build.specs.Finding.{containers_of, depth_in, is_around, last_from, most_segments, is_container, is_processor, numbers_of, parent_of, processors_of}

-- # What is found

pub none_some : {X : Type 0} {x : X} → None ≡ Some x → ⊥
none_some e = cc

pub position_told : {X : Type 0} (t : X → Bool) (xs : List X) (d : X) (p : ℕ) → position t xs ≡ Some p → (p < length xs) × (t (get_or xs p d) ≡ true)
position_told t xs d p e = elim (cases_lt (position_or_len t xs) (length xs)) [
  | inl below ↦
      let there : nat_lt (position_or_len t xs) (length xs) ≡ true = grind (arith, nat_tests) in
      let is : position_or_len t xs ≡ p = same_some (rw there at e) in
      (subst (λ n. n < length xs) is below, subst (λ n. t (get_or xs n d) ≡ true) is (passes_at_first t xs d below))
  | inr past ↦
      let none : nat_lt (position_or_len t xs) (length xs) ≡ false = grind (arith, nat_tests) in
      absurd (none_some (rw none at e))
]

pub number_told : (entries : List Entry) (place : Place) (k : ℕ) → number_at entries place ≡ Some k → (k < length entries) × (path_in entries k ≡ place)
unfolding number_at
number_told entries place k e =
    let told = position_told (λ (x : Entry). is_place x.path place) entries no_entry k e in
    (told.0, (place_decides (path_in entries k) place).0 told.1)

pub map_told : (f : ℕ → ℕ) (o : Option ℕ) (m : ℕ) → option_map f o ≡ Some m → (p : ℕ) × (o ≡ Some p) × (m ≡ f p)
map_told f None m e = absurd (none_some e)
map_told f (Some p) m e = (p, refl, sym (same_some e))

pub label_told : (labels : List (Option ℕ)) (o : Option ℕ) (m : ℕ) → label_of labels o ≡ Some m → (k : ℕ) × (o ≡ Some k) × (get_or labels k None ≡ Some m)
label_told labels None m e = absurd (none_some e)
label_told labels (Some k) m e = (k, refl, e)

pub equal_numbers : (a b : ℕ) → nat_eq a b ≡ true → a ≡ b
equal_numbers a b e = grind (arith, nat_tests)

-- # Orders

nothing : (P : ℕ → Type 0) → All P []
nothing P k d l = absurd (let impossible = l in omega arith)

cons_if : (P : ℕ → Type 0) (b : Bool) (x : ℕ) (xs : List ℕ) → (b ≡ true → P x) → All P xs → All P (cond b (x ∷ xs) xs)
cons_if P true x xs first all = All-cons P x xs (first refl) all
cons_if P false x xs first all = all

filter_all : (p : ℕ → Bool) (P : ℕ → Type 0) (xs : List ℕ) → ((x : ℕ) → p x ≡ true → P x) → All P (filter p xs)
filter_all p P [] f = nothing P
filter_all p P (x ∷ xs) f = cons_if P (p x) x (filter p xs) (f x) (filter_all p P xs f)

pub pairs_append : {X : Type 0} (R : X → X → Type 0) (xs ys : List X) → AllPairs R xs → AllPairs R ys
    → ((i j : ℕ) (d : X) → i < length xs → j < length ys → R (get_or xs i d) (get_or ys j d)) → AllPairs R (xs ++ ys)
pairs_append R xs ys first second across i j d less l =
    let size = length-append xs ys in
    elim (cases_lt j (length xs)) [
      | inl below ↦ rw (get_or_append_left xs ys d i (omega arith), get_or_append_left xs ys d j below) (first i j d less below)
      | inr past ↦ elim (cases_lt i (length xs)) [
        | inl left ↦ rw (get_or_append_left xs ys d i left, get_or-append_right xs ys j d past) (across i (j - length xs) d left (omega (arith, size)))
        | inr right ↦ rw (get_or-append_right xs ys i d right, get_or-append_right xs ys j d past) (second (i - length xs) (j - length xs) d (omega arith) (omega (arith, size)))
      ]
    ]

-- objects with so many segments
abbrev pub of_depth : List Entry → List ℕ → ℕ → List ℕ
of_depth entries ks n = filter (λ k. depth_in entries k == n) ks

of_depth_all : (entries : List Entry) (ks : List ℕ) (n : ℕ) → All (λ k. depth_in entries k ≡ n) (of_depth entries ks n)
of_depth_all entries ks n = filter_all (λ k. depth_in entries k == n) (λ k. depth_in entries k ≡ n) ks (λ k e. equal_numbers (depth_in entries k) n e)

outer_from : (entries : List Entry) (ks : List ℕ) (a n : ℕ) → AllPairs (λ i j. i < j) ks
    → All (λ k. a ≤ depth_in entries k) (flat_map (of_depth entries ks) (range_with_len a n)) × AllPairs (IsOuter entries) (flat_map (of_depth entries ks) (range_with_len a n))
outer_from entries ks a zero rise = (λ k d l. absurd (let impossible = l in omega arith), λ i j d less l. absurd (let impossible = l in omega arith))
outer_from entries ks a (suc n) rise =
    let here = of_depth entries ks a in
    let rest = flat_map (of_depth entries ks) (range_with_len (a + 1) n) in
    let all = of_depth_all entries ks a in
    let more = outer_from entries ks (a + 1) n rise in
    let ordered = AllPairs-filter (λ i j. i < j) (λ k. depth_in entries k == a) ks rise in (
      All-append (λ k. a ≤ depth_in entries k) here rest (λ k d l. let e = all k d l in omega arith) (λ k d l. let e = more.0 k d l in omega arith),
      pairs_append (IsOuter entries) here rest
          (λ i j d less l. inr (let e = all i d (omega arith) in let f = all j d l in omega (arith, e, f), ordered i j d less l)) more.1
          (λ i j d l m. inl (let e = all i d l in let f = more.0 j d m in omega (arith, e, f))),
    )

numbers_rise : (entries : List Entry) → AllPairs (λ i j. i < j) (numbers_of entries)
numbers_rise entries i j d less l =
    let size = length-range_with_len 0 (length entries) in
    let first = get_or-range_with_len 0 (length entries) i d (omega arith) in
    let second = get_or-range_with_len 0 (length entries) j d (omega arith) in omega (arith, first, second, size)

-- containers stand before those that have more segments
pub containers_in_order : (entries : List Entry) → AllPairs (IsOuter entries) (containers_of entries)
unfolding containers_of
containers_in_order entries =
    let ks = filter (is_container entries) (numbers_of entries) in
    (outer_from entries ks 0 (most_segments entries ks + 1) (AllPairs-filter (λ i j. i < j) (is_container entries) (numbers_of entries) (numbers_rise entries))).1

not_deeper : (entries : List Entry) (i j : ℕ) → IsOuter entries i j → depth_in entries i ≤ depth_in entries j
not_deeper entries i j (inl less) = omega arith
not_deeper entries i j (inr same) = let e = same.0 in omega arith

pub containers_rise : (entries : List Entry) → AllPairs (λ i j. depth_in entries i ≤ depth_in entries j) (containers_of entries)
containers_rise entries i j d less l = not_deeper entries _ _ (containers_in_order entries i j d less l)

pub all_flat : (P : ℕ → Type 0) (f : ℕ → List ℕ) (ns : List ℕ) → ((n : ℕ) → All P (f n)) → All P (flat_map f ns)
all_flat P f [] each = nothing P
all_flat P f (n ∷ ns) each = All-append P (f n) (flat_map f ns) (each n) (all_flat P f ns each)

pub numbers_within : (entries : List Entry) → All (λ k. k < length entries) (numbers_of entries)
numbers_within entries k d l =
    let size = length-range_with_len 0 (length entries) in
    let is = get_or-range_with_len 0 (length entries) k d (omega arith) in omega (arith, size, is)

pub containers_within : (entries : List Entry) → All (λ k. k < length entries) (containers_of entries)
unfolding containers_of
containers_within entries =
    let ks = filter (is_container entries) (numbers_of entries) in
    all_flat (λ k. k < length entries) (of_depth entries ks) (range_with_len 0 (most_segments entries ks + 1))
    (λ n. All-filter (λ k. depth_in entries k == n) (λ k. k < length entries) ks (All-filter (is_container entries) (λ k. k < length entries) (numbers_of entries) (numbers_within entries)))

pub processors_within : (entries : List Entry) → All (λ k. k < length entries) (processors_of entries)
unfolding processors_of
processors_within entries = All-filter (is_processor entries) (λ k. k < length entries) (numbers_of entries) (numbers_within entries)

pub processors_rise : (entries : List Entry) → AllPairs (λ i j. i < j) (processors_of entries)
unfolding processors_of
processors_rise entries = AllPairs-filter (λ i j. i < j) (is_processor entries) (numbers_of entries) (numbers_rise entries)

-- # The last that passes a test

pub both : (a b : Bool) → (a && b) ≡ true → (a ≡ true) × (b ≡ true)
both true b e = (refl, e)
both false b e = absurd (false≢true e)

-- the last is at this place, and none behind it passes
pub record IsLast (test : ℕ → Bool) (n : ℕ) (xs : List ℕ) (m : ℕ) : Type 0 where
  pub at : ℕ
  pub is : m ≡ n + at
  pub within : at < length xs
  pub passes : test (get_or xs at 0) ≡ true
  pub none : (i : ℕ) → at < i → i < length xs → test (get_or xs i 0) ≡ false

abbrev pub Last : (ℕ → Bool) → ℕ → List ℕ → Option ℕ → Type 0
Last test n xs None = (i : ℕ) → i < length xs → test (get_or xs i 0) ≡ false
Last test n xs (Some m) = IsLast test n xs m

one_before : (test : ℕ → Bool) (n x : ℕ) (xs : List ℕ) (b : Bool) (r : Option ℕ) → test x ≡ b → Last test (n + 1) xs r → Last test n (x ∷ xs) (option_or r (if b then Some n else None))
one_before test n x xs b (Some m) e rest = record {
  at = suc rest.at;
  is = let is = rest.is in omega (arith, is);
  within = let l = rest.within in omega (arith, l);
  passes = rest.passes;
  none = behind;
}
  where
    behind : (i : ℕ) → suc rest.at < i → i < suc (length xs) → test (get_or (x ∷ xs) i 0) ≡ false
    behind zero more l = absurd (omega (arith, more))
    behind (suc i) more l = rest.none i (omega (arith, more)) (omega (arith, l))
one_before test n x xs true None e rest = record {
  at = 0;
  is = omega arith;
  within = omega arith;
  passes = e;
  none = behind;
}
  where
    behind : (i : ℕ) → 0 < i → i < suc (length xs) → test (get_or (x ∷ xs) i 0) ≡ false
    behind zero more l = absurd (omega (arith, more))
    behind (suc i) more l = rest i (omega (arith, l))
one_before test n x xs false None e rest = all
  where
    all : (i : ℕ) → i < suc (length xs) → test (get_or (x ∷ xs) i 0) ≡ false
    all zero l = e
    all (suc i) l = rest i (omega (arith, l))

pub last_is : (test : ℕ → Bool) (n : ℕ) (xs : List ℕ) → Last test n xs (last_from test n xs)
last_is test n [] = λ i l. absurd (let impossible = l in omega arith)
last_is test n (x ∷ xs) = one_before test n x xs (test x) (last_from test (n + 1) xs) refl (last_is test (n + 1) xs)

-- the last that passes, where it is known to pass and none behind it does
pub same_last : (test : ℕ → Bool) (n : ℕ) (xs : List ℕ) (at : ℕ) (o : Option ℕ) → at < length xs → test (get_or xs at 0) ≡ true
    → ((i : ℕ) → at < i → i < length xs → test (get_or xs i 0) ≡ true → ⊥) → Last test n xs o → o ≡ Some (n + at)
same_last test n xs at None l passes none last = absurd (false≢true (sym (last at l) ∙ passes))
same_last test n xs at (Some m) l passes none last = elim (cases_lt at last.at) [
  | inl later ↦ absurd (none last.at later last.within last.passes)
  | inr not ↦ elim (cases_lt last.at at) [
    | inl sooner ↦ absurd (false≢true (sym (last.none at sooner l) ∙ passes))
    | inr same ↦ let e : last.at ≡ at = omega arith in ap Some (last.is ∙ ap (λ i. n + i) e)
  ]
]

-- # Parents

below_bound : (n p : ℕ) → p < n → nat_lt (in_32_bits p) n ≡ true
below_bound n p l = grind (arith, nat_tests)

exists_by : (entries : List Entry) (k : ℕ) (o : Option ℕ) → Last (is_around entries k) 0 (containers_of entries) o → is_below (length (containers_of entries)) (option_map in_32_bits o) ≡ true
exists_by entries k None last = refl
exists_by entries k (Some m) last = below_bound (length (containers_of entries)) m (let is = last.is in let l = last.within in omega (arith, is, l))

pub parent_exists : (entries : List Entry) (k : ℕ) → is_below (length (containers_of entries)) (parent_of entries k) ≡ true
unfolding parent_of
parent_exists entries k = exists_by entries k (last_from (is_around entries k) 0 (containers_of entries)) (last_is (is_around entries k) 0 (containers_of entries))

-- a container around another has fewer segments
pub fewer : (entries : List Entry) (k c : ℕ) → is_around entries k c ≡ true → depth_in entries c < depth_in entries k
fewer entries k c e = let t = (both (nat_lt (depth_in entries c) (depth_in entries k)) _ e).0 in grind (arith, nat_tests)

falls_by : (entries : List Entry) (n : ℕ) (o : Option ℕ) → n < length (containers_of entries) → Last (is_around entries (get_or (containers_of entries) n 0)) 0 (containers_of entries) o
    → is_below n (option_map in_32_bits o) ≡ true
falls_by entries n None l last = refl
falls_by entries n (Some m) l last =
    let cs = containers_of entries in
    let short = fewer entries (get_or cs n 0) (get_or cs last.at 0) last.passes in
    let less : last.at < n = elim (cases_lt last.at n) [
      | inl below ↦ below
      | inr past ↦ absurd (elim (cases_lt n last.at) [
        | inl beyond ↦ let rise = containers_rise entries n last.at 0 beyond last.within in omega (arith, rise, short)
        | inr same ↦
            let at : last.at ≡ n = omega arith in
            let own : depth_in entries (get_or cs n 0) < depth_in entries (get_or cs n 0) = subst (λ q. depth_in entries (get_or cs q 0) < depth_in entries (get_or cs n 0)) at short
            in omega (arith, own)
      ])
    ] in
    below_bound n m (let is = last.is in omega (arith, is, less))

pub parent_falls : (entries : List Entry) (n : ℕ) → n < length (containers_of entries) → is_below n (parent_of entries (get_or (containers_of entries) n 0)) ≡ true
unfolding parent_of
parent_falls entries n l =
    let k = get_or (containers_of entries) n 0 in
    falls_by entries n (last_from (is_around entries k) 0 (containers_of entries)) l (last_is (is_around entries k) 0 (containers_of entries))
