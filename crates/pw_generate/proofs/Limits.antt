-- The machine passes no limit of a plan.
use Rattle.std.proofs.Common.{◌≡◌, ◌<◌, ◌≤◌, ◌+◌, ◌*◌, ◌/◌, ℕ, suc, zero, Bool, true, false, List, [], ◌∷◌, map, length, get_or, None, refl, ap, sym, ◌∙◌, arith, eqb-true, length-append}
use Rattle.std.specs.Prelude.{find, nat_lt}
use Rattle.std.specs.List.{AllByRecursion, flat_map, range_with_len}
use Rattle.std.specs.Option.{option_map}
use Rattle.std.proofs.lemmas.Bool.Decides.{nat_tests}
use Rattle.std.proofs.lemmas.List.{length-map}
use Rattle.std.proofs.lemmas.List.FromFn.{get_or-map-range_with_len, length-map-range_with_len}
use Rattle.acpi_values.specs.Idle.{rows_of}
use Rattle.pw_plan.specs.declared.domain.Child.TheVariants.{Container, Cpu}
use Rattle.pw_plan.specs.declared.parts.ContainerParts.{ContainerParts}
use Rattle.pw_plan.specs.declared.parts.CpuParts.{CpuParts}
use Rattle.pw_plan.specs.Limits.{child_counts, depths, first_above, in_32_bits, limit_passed, passed, state_counts, table_counts}
use Rattle.pw_plan.specs.Parts.{ParentsFall, no_container, no_cpu}
use Rattle.pw_plan.specs.Tree.{children_of, depth_of, is_number, places_from}
use Rattle.pw_plan.proofs.Lines.{line_from-Some, line_within-None}
use Rattle.pw_plan.proofs.Lists.{each_append, places-each}
use Rattle.pw_plan.proofs.Rising.{Rises, places_rise, rises_from}
use Rattle.pw_generate.specs.Tables.{container_idle, cpu_idle, cpu_perf}
use Rattle.pw_generate.specs.Planned.{machine_container, machine_containers, machine_cpu, machine_cpus}

-- # Numbers that rise between two bounds

within_from : (low high : ℕ) (xs : List ℕ) → low ≤ high → Rises low xs → AllByRecursion (λ q. (low ≤ q) × (q < high)) xs
    → length xs + low ≤ high
within_from low high [] le rises all = omega arith
within_from low high (x ∷ xs) le rises all =
    let a = all.0 in
    let r = rises.0 in
    let rest = within_from (suc x) high xs (omega (arith, a)) rises.1 (after x xs rises.1 all.1) in
    omega (arith, rest, r)
  where
    after : (x : ℕ) (ys : List ℕ) → Rises (suc x) ys → AllByRecursion (λ q. (low ≤ q) × (q < high)) ys
        → AllByRecursion (λ q. (suc x ≤ q) × (q < high)) ys
    after x [] rise every = tt
    after x (y ∷ ys) rise every =
        let b = rise.0 in
        let e = every.0 in
        ((omega (arith, b), omega (arith, e)), after x ys (rises_from (suc x) (suc y) ys (omega (arith, b)) rise.1) every.1)

-- so many numbers have room
pub rise_within : (low high : ℕ) (xs : List ℕ) → low ≤ high → Rises 0 xs → AllByRecursion (λ q. (low ≤ q) × (q < high)) xs
    → length xs + low ≤ high
rise_within low high [] le rises all = omega arith
rise_within low high (x ∷ xs) le rises all = within_from low high (x ∷ xs) le (let a = all.0 in omega (arith, a), rises.1) all

-- # Containers and processors by their numbers

pub count_containers : (n : ℕ) → length (machine_containers n) ≡ n
unfolding machine_containers
count_containers n = length-map-range_with_len machine_container 0 n

pub count_cpus : (n : ℕ) → length (machine_cpus n) ≡ 8 * n
unfolding machine_cpus
count_cpus n = length-map-range_with_len machine_cpu 0 (8 * n)

pub container_is : (n c : ℕ) (d : ContainerParts) → c < n → get_or (machine_containers n) c d ≡ machine_container c
unfolding machine_containers
container_is n c d l = get_or-map-range_with_len machine_container 0 n c c d l (omega arith)

pub cpu_is : (n p : ℕ) (d : CpuParts) → p < 8 * n → get_or (machine_cpus n) p d ≡ machine_cpu p
unfolding machine_cpus
cpu_is n p d l = get_or-map-range_with_len machine_cpu 0 (8 * n) p p d l (omega arith)

-- # Bounds

abbrev Below : ℕ → List ℕ → Type 0
Below bound xs = AllByRecursion (λ n. n ≤ bound) xs

none_above : (which bound : ℕ) (xs : List ℕ) → Below bound xs → passed which (first_above bound xs) ≡ None
none_above which bound xs all = ap (λ o. passed which (option_map in_32_bits o)) (none_found xs all)
  where
    none_found : (ys : List ℕ) → Below bound ys → find (nat_lt bound) ys ≡ None
    none_found [] every = refl
    none_found (y ∷ ys) every =
        let a = every.0 in
        let here : nat_lt bound y ≡ false = grind (arith, nat_tests) in
        rw here (none_found ys every.1)

all_in_range : (P : ℕ → Type 0) (f : ℕ → ℕ) (a m : ℕ) → ((x : ℕ) → a ≤ x → x < a + m → P (f x))
    → AllByRecursion P (map f (range_with_len a m))
all_in_range P f a zero each = tt
all_in_range P f a (suc m) each = (
  each a (omega arith) (omega arith),
  all_in_range P f (a + 1) m
      (λ x l r. each x (omega arith) (omega arith)),
)

containers_small : (cs : List ℕ) → Below 255 (map (λ (c : ContainerParts). length (rows_of c.idle)) (map machine_container cs))
unfolding machine_container container_idle
containers_small [] = tt
containers_small (c ∷ cs) = (omega arith, containers_small cs)

cpus_small : (ps : List ℕ) → Below 255 (flat_map state_counts (map machine_cpu ps))
unfolding machine_cpu cpu_idle cpu_perf
cpus_small [] = tt
cpus_small (p ∷ ps) = (omega arith, (omega arith, (omega arith, cpus_small ps)))

module _ (n : ℕ) where
  parents_fall : ParentsFall (machine_containers n)
  unfolding machine_container
  parents_fall c l = let inside : c < n = (let size = count_containers n in omega (arith, size, l)) in
      rw (container_is n c no_container inside) refl

  depth_is : (c : ℕ) → c < n → depth_of (machine_containers n) c ≡ 1
  unfolding machine_container
  depth_is c l =
      let size = count_containers n in
      rw (line_from-Some (machine_containers n) parents_fall c (omega (arith, size)), container_is n c no_container l, line_within-None)
      refl

  depths_small : Below 8 (depths (machine_containers n))
  depths_small = let size = count_containers n in
      all_in_range (λ d. d ≤ 8) (depth_of (machine_containers n)) 0 (length (machine_containers n))
      (λ c a b. (let one = depth_is c (omega (arith, size)) in omega (arith, one)))

  no_container_in : (m : ℕ) → length (places_from (λ (c : ContainerParts). is_number m c.parent) 0 (machine_containers n)) ≤ 0
  unfolding machine_container
  no_container_in m =
      let test : ContainerParts → Bool = λ c. is_number m c.parent in
      let all : AllByRecursion (λ q. (0 ≤ q) × (q < 0)) (places_from test 0 (machine_containers n)) =
      places-each (λ q. (0 ≤ q) × (q < 0)) test 0 (machine_containers n) no_container
      (λ i l e. (let none : test (machine_container i) ≡ true =
      ap test (sym (container_is n i no_container (let size = count_containers n in omega (arith, size, l)))) ∙ e in cc)) in
      let le = rise_within 0 0 (places_from test 0 (machine_containers n)) (omega arith) (places_rise test 0 (machine_containers n)) all in
      omega (arith, le)

  -- a container has eight processors at most
  few_cpus_in : (m : ℕ) → length (places_from (λ (c : CpuParts). is_number m c.parent) 0 (machine_cpus n)) ≤ 8
  unfolding machine_cpu
  few_cpus_in m =
      let test : CpuParts → Bool = λ c. is_number m c.parent in
      let all : AllByRecursion (λ q. (8 * m ≤ q) × (q < 8 * m + 8)) (places_from test 0 (machine_cpus n)) =
      places-each (λ q. (8 * m ≤ q) × (q < 8 * m + 8)) test 0 (machine_cpus n) no_cpu (λ i l e. (
      let own : test (machine_cpu i) ≡ true = ap test (sym (cpu_is n i no_cpu (let size = count_cpus n in omega (arith, size, l)))) ∙ e in
      let same : i / 8 ≡ m = eqb-true (i / 8) m own in
      (omega arith, omega arith))) in
      let le = rise_within (8 * m) (8 * m + 8) (places_from test 0 (machine_cpus n)) (omega arith) (places_rise test 0 (machine_cpus n)) all
      in
      omega (arith, le)

  children_small : Below 255 (child_counts (machine_containers n) (machine_cpus n))
  children_small = all_in_range (λ d. d ≤ 255) (λ m. length (children_of (machine_containers n) (machine_cpus n) m)) 0
      (length (machine_containers n)) (λ m a b. (
      let inner = places_from (λ (c : ContainerParts). is_number m c.parent) 0 (machine_containers n) in
      let cpus = places_from (λ (c : CpuParts). is_number m c.parent) 0 (machine_cpus n) in
      let first = no_container_in m in
      let second = few_cpus_in m in
      let whole = length-append (map (λ k. Container k) inner) (map (λ p. Cpu p) cpus) in
      let one = length-map inner (λ k. Container k) in
      let two = length-map cpus (λ p. Cpu p) in
      omega (arith, first, second, whole, one, two)))

  tables_small : Below 255 (table_counts (machine_containers n) (machine_cpus n))
  unfolding machine_containers machine_cpus
  tables_small = each_append (λ d. d ≤ 255) (map (λ (c : ContainerParts). length (rows_of c.idle)) (machine_containers n))
      (flat_map state_counts (machine_cpus n))
      (containers_small (range_with_len 0 n)) (cpus_small (range_with_len 0 (8 * n)))

pub none_passed : (n : ℕ) → n ≤ 32 → limit_passed (machine_containers n) (machine_cpus n) ≡ None
none_passed n small =
    let containers = count_containers n in
    let cpus = count_cpus n in
    rw (
      none_above 1 256 (length (machine_containers n) ∷ []) (omega (arith, containers), tt),
      none_above 2 256 (length (machine_cpus n) ∷ []) (omega (arith, cpus), tt),
      none_above 3 8 (depths (machine_containers n)) (depths_small n),
      none_above 4 255 (child_counts (machine_containers n) (machine_cpus n)) (children_small n),
      none_above 5 255 (table_counts (machine_containers n) (machine_cpus n)) (tables_small n),
    ) refl
