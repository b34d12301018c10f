-- Each place tells the number of its object: so no place is given twice, and what stands at a place is found by its number.
use Rattle.std.proofs.Common.{◌≡◌, ◌<◌, ◌≤◌, ◌+◌, ◌-◌, ◌*◌, ◌/◌, ◌%◌, ℕ, true, false, List, [], ◌∷◌, ◌++◌, map, length, get_or, refl, ap, sym, ◌∙◌, arith, inl, inr}
use Rattle.std.specs.Prelude.{nat_lt, nat_eq, if◌then◌else◌}
use Rattle.std.specs.Fmt.{digit_glyph}
use Rattle.std.specs.List.{flat_map, range_with_len}
use Rattle.std.proofs.lemmas.Bool.{cases_lt}
use Rattle.std.proofs.lemmas.Bool.Decides.{nat_tests}
use Rattle.std.proofs.lemmas.List.{get_or-map, length-map, map-append}
use Rattle.std.proofs.lemmas.Simd.{map-map}
use Rattle.std.proofs.lemmas.List.FromFn.{get_or-range_with_len, length-range_with_len}
use Rattle.acpi_space.specs.Distinct.{IsDistinct}
use Rattle.acpi_space.specs.Places.{Place}
use Rattle.acpi_space.specs.Namespace.{Entry, places_of}
use Rattle.pw_generate.specs.Names.{container_name, cpu_name, hex_digit}
use Rattle.pw_generate.specs.Machines.{cpus_of}
use Rattle.pw_generate.proofs.Ranges.{map_pieces, pieces_from, range_append, range_pieces, same_pieces}
use Rattle.pw_generate.proofs.Entries.{container_entries, container_place, cpu_entries, front_entries, machine_entries}

-- # Digits

-- what a digit stands for
abbrev digit_by : ℕ → ℕ
digit_by glyph = if nat_lt glyph 58 then glyph - 48 else glyph - 55

digit_back : (x : ℕ) → x < 16 → digit_by (digit_glyph true x) ≡ x
digit_back x l = elim (cases_lt x 10) [
  | inl low ↦
      let a : nat_lt x 10 ≡ true = grind (arith, nat_tests) in
      let b : nat_lt (48 + x) 58 ≡ true = grind (arith, nat_tests) in
      rw (a, b) (omega arith)
  | inr high ↦
      let a : nat_lt x 10 ≡ false = grind (arith, nat_tests) in
      let b : nat_lt (55 + x) 58 ≡ false = grind (arith, nat_tests) in
      rw (a, b) (omega arith)
]

-- the number that the two digits from a place on stand for
abbrev two_digits : List ℕ → ℕ → ℕ
two_digits seg k = 16 * digit_by (get_or seg k 0) + digit_by (get_or seg (k + 1) 0)

two_back : (x : ℕ) → x < 256 → 16 * digit_by (hex_digit (x / 16)) + digit_by (hex_digit x) ≡ x
two_back x l =
    let high : (x / 16) % 16 ≡ x / 16 = omega arith in
    rw (digit_back ((x / 16) % 16) (omega arith), digit_back (x % 16) (omega arith)) (omega (arith, high))

container_back : (c : ℕ) → c < 256 → two_digits (container_name c) 2 ≡ c
container_back c l = two_back c l

cpu_back : (p : ℕ) → p < 256 → two_digits (cpu_name p) 2 ≡ p
cpu_back p l = two_back p l

-- # The numbers of places

-- container c is object 51 c, and has two objects of its own
abbrev pub container_spot : ℕ → ℕ
container_spot c = 51 * c

-- processor i of a container stands behind them, and each has five objects
abbrev pub cpu_spot : ℕ → ℕ → ℕ
cpu_spot c i = 51 * c + 3 + 6 * i

abbrev pub spot_of : ℕ → ℕ
spot_of p = cpu_spot (p / 8) (p % 8)

-- which of the objects below it a name has
abbrev name_number : List ℕ → ℕ
name_number seg =
    if nat_eq (get_or seg 1 0) 72 then 1 else
    if nat_eq (get_or seg 1 0) 76 then 2 else
    if nat_eq (get_or seg 3 0) 83 then 3 else
    if nat_eq (get_or seg 3 0) 84 then 4 else 5

abbrev place_number : Place → ℕ
place_number [] = 0
place_number (r ∷ []) = 0
place_number (r ∷ c ∷ []) = container_spot (two_digits c 2)
place_number (r ∷ c ∷ s ∷ []) = if nat_eq (get_or s 0 0) 80 then spot_of (two_digits s 2) else container_spot (two_digits c 2) + name_number
    s
place_number (r ∷ c ∷ s ∷ o ∷ []) = spot_of (two_digits s 2) + name_number o
place_number (r ∷ c ∷ s ∷ o ∷ x ∷ rest) = 0

abbrev numbers_in : List Entry → List ℕ
numbers_in es = map (λ (e : Entry). place_number e.path) es

three : (x : ℕ) → x ∷ (x + 1) ∷ (x + 2) ∷ [] ≡ range_with_len x 3
three x = let a : x + 2 ≡ x + 1 + 1 = omega arith in rw a refl

six : (x : ℕ) → x ∷ (x + 1) ∷ (x + 2) ∷ (x + 3) ∷ (x + 4) ∷ (x + 5) ∷ [] ≡ range_with_len x 6
six x =
    let a : x + 2 ≡ x + 1 + 1 = omega arith in
    let b : x + 3 ≡ x + 1 + 1 + 1 = omega arith in
    let c : x + 4 ≡ x + 1 + 1 + 1 + 1 = omega arith in
    let d : x + 5 ≡ x + 1 + 1 + 1 + 1 + 1 = omega arith in
    rw (a, b, c, d) refl

front_numbers : (c : ℕ) → c < 256 → numbers_in (front_entries c) ≡ range_with_len (container_spot c) 3
front_numbers c l = ap (λ x. container_spot x ∷ (container_spot x + 1) ∷ (container_spot x + 2) ∷ []) (container_back c l)
    ∙ three (container_spot c)

cpu_numbers : (c p : ℕ) → p < 256 → numbers_in (cpu_entries c p) ≡ range_with_len (spot_of p) 6
cpu_numbers c p l =
    ap (λ x. spot_of x ∷ (spot_of x + 1) ∷ (spot_of x + 2) ∷ (spot_of x + 3) ∷ (spot_of x + 4) ∷ (spot_of x + 5) ∷ []) (cpu_back p l)
    ∙ six (spot_of p)

pub spot_is : (c i : ℕ) → i < 8 → spot_of (8 * c + i) ≡ cpu_spot c i
spot_is c i l =
    let a : (8 * c + i) / 8 ≡ c = omega arith in
    let b : (8 * c + i) % 8 ≡ i = omega arith in
    rw (a, b) refl

cpus_numbers : (c : ℕ) → c < 32 → numbers_in (flat_map (cpu_entries c) (cpus_of c)) ≡ range_with_len (container_spot c + 3) 48
cpus_numbers c l =
    let start : cpu_spot c 0 ≡ container_spot c + 3 = omega arith in
    map_pieces (λ (e : Entry). place_number e.path) (cpu_entries c) (cpus_of c)
    ∙ pieces_from (λ p. numbers_in (cpu_entries c p)) (8 * c) 8
    ∙ same_pieces (λ i. numbers_in (cpu_entries c (8 * c + i))) (λ i. range_with_len (cpu_spot c i) 6) 0 8
    (λ i a b. cpu_numbers c (8 * c + i) (omega arith) ∙ ap (λ x. range_with_len x 6) (spot_is c i (omega arith)))
    ∙ range_pieces 6 (cpu_spot c) (λ i. (omega arith)) 0 8
    ∙ ap (λ x. range_with_len x 48) start

container_numbers : (c : ℕ) → c < 32 → numbers_in (container_entries c) ≡ range_with_len (container_spot c) 51
container_numbers c l =
    map-append (λ (e : Entry). place_number e.path) (front_entries c) (flat_map (cpu_entries c) (cpus_of c))
    ∙ ap (λ xs. xs ++ numbers_in (flat_map (cpu_entries c) (cpus_of c))) (front_numbers c (omega arith))
    ∙ ap (λ xs. range_with_len (container_spot c) 3 ++ xs) (cpus_numbers c l)
    ∙ sym (range_append (container_spot c) 3 48)

machine_numbers : (n : ℕ) → n ≤ 32 → numbers_in (machine_entries n) ≡ range_with_len 0 (51 * n)
unfolding machine_entries
machine_numbers n l =
    map_pieces (λ (e : Entry). place_number e.path) container_entries (range_with_len 0 n)
    ∙ same_pieces (λ c. numbers_in (container_entries c)) (λ c. range_with_len (container_spot c) 51) 0 n
    (λ c a b. container_numbers c (omega arith))
    ∙ range_pieces 51 container_spot (λ c. (omega arith)) 0 n

-- who tells numbers in order are apart
numbered_apart : {X : Type 0} (number : X → ℕ) (xs : List X) (n : ℕ) → map number xs ≡ range_with_len 0 n → IsDistinct xs
numbered_apart number xs n e i j d less inside same =
    let size : length xs ≡ n = sym (length-map xs number) ∙ ap length e ∙ length-range_with_len 0 n in
    let told : (k : ℕ) → k < length xs → number (get_or xs k d) ≡ k =
    λ k l. sym (get_or-map number xs k d (number d) l) ∙ ap (λ ys. get_or ys k (number d)) e
    ∙ get_or-range_with_len 0 n k (number d) (omega arith) ∙ (omega arith) in
    let both : i ≡ j = sym (told i (omega arith)) ∙ ap number same ∙ told j inside in
    omega arith

-- no place is given twice
pub machine_distinct : (n : ℕ) → n ≤ 32 → IsDistinct (places_of (machine_entries n))
machine_distinct n l = numbered_apart place_number (places_of (machine_entries n)) (51 * n)
    (map-map place_number (λ (e : Entry). e.path) (machine_entries n) ∙ machine_numbers n l)

-- # Containers by their places

pub container_apart : (c d : ℕ) → c < 256 → d < 256 → container_place c ≡ container_place d → c ≡ d
container_apart c d l m same = sym (container_back c l) ∙ ap container_of same ∙ container_back d m
  where
    container_of : Place → ℕ
    container_of place = two_digits (get_or place 1 []) 2
