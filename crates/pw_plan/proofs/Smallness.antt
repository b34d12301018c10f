-- What the limits leave room for.
use Rattle.std.proofs.Common.{◌≡◌, ◌<◌, ◌≤◌, ℕ, suc, zero, Bool, true, false, cond, List, [], ◌∷◌, ◌++◌, map, length, get_or, Option, Some, None, refl, ap, sym, ◌∙◌, arith, zero-add}
use Rattle.std.proofs.Common.{inl, inr}
use Rattle.std.specs.Prelude.{find, nat_lt, is_some}
use Rattle.std.specs.Option.{option_or, option_map}
use Rattle.std.specs.List.{flat_map, AllByRecursion}
use Rattle.std.proofs.lemmas.List.{get_or-map, get_or_past}
use Rattle.std.proofs.lemmas.List.FromFn.{get_or-map-range_with_len}
use Rattle.std.proofs.lemmas.Bool.{cases_lt}
use Rattle.std.proofs.lemmas.Bool.Decides.{nat_tests}
use Rattle.acpi_values.specs.Idle.{rows_of}
use Rattle.pw_plan.specs.declared.parts.ContainerParts.{ContainerParts}
use Rattle.pw_plan.specs.declared.parts.CpuParts.{CpuParts}
use Rattle.pw_plan.specs.declared.parts.Scale.{Scale}
use Rattle.pw_plan.specs.declared.domain.DomainKind.{DomainKind}
use Rattle.pw_plan.specs.declared.domain.DomainKind.TheVariants.{Perf, Throttle, Idle}
use Rattle.pw_plan.specs.Parts.{PartsFit, container_in, count_of, cpu_in, has_states, is_below, no_container, no_cpu, no_table, scale_of}
use Rattle.pw_plan.specs.Tree.{containers_of, depth_of, line_from}
use Rattle.pw_plan.specs.Limits.{in_32_bits, child_counts, depths, first_above, limit_passed, passed, state_counts, table_counts}
use Rattle.pw_plan.specs.Sound.{IsSmall}
use Rattle.pw_plan.proofs.Lines.{parent_below, line_within-None}

-- # No limit is passed where none is named

neither : {X : Type 0} (a b : Option X) → option_or a b ≡ None → (a ≡ None) × (b ≡ None)
neither None b e = (refl, e)
neither (Some x) b e = cc

not_passed : (which : ℕ) (count : Option ℕ) → passed which count ≡ None → count ≡ None
not_passed which None e = refl
not_passed which (Some n) e = cc

abbrev pub Below : ℕ → List ℕ → Type 0
Below bound xs = AllByRecursion (λ n. n ≤ bound) xs

none_above : (bound : ℕ) (xs : List ℕ) → first_above bound xs ≡ None → Below bound xs
none_above bound [] e = tt
none_above bound (x ∷ xs) e = step (nat_lt bound x) refl e (none_above bound xs)
  where
    step : (b : Bool) → nat_lt bound x ≡ b → option_map in_32_bits (cond b (Some x) (find (nat_lt bound) xs)) ≡ None → (first_above bound xs ≡ None → Below bound xs) → Below bound (x ∷ xs)
    step true h e later = cc
    step false h e later = (grind (arith, nat_tests), later e)

at_most : (bound : ℕ) (xs : List ℕ) (i : ℕ) → Below bound xs → get_or xs i 0 ≤ bound
at_most bound [] i a = omega arith
at_most bound (x ∷ xs) zero a = a.0
at_most bound (x ∷ xs) (suc i) a = at_most bound xs i a.1

below_first : (bound : ℕ) (xs ys : List ℕ) → Below bound (xs ++ ys) → Below bound xs
below_first bound [] ys a = tt
below_first bound (x ∷ xs) ys a = (a.0, below_first bound xs ys a.1)

below_second : (bound : ℕ) (xs ys : List ℕ) → Below bound (xs ++ ys) → Below bound ys
below_second bound [] ys a = a
below_second bound (x ∷ xs) ys a = below_second bound xs ys a.1

tables_of : (bound : ℕ) (ps : List CpuParts) (p : ℕ) → Below bound (flat_map state_counts ps) → p < length ps
    → (length (rows_of (cpu_in ps p).idle) ≤ bound) × (count_of (cpu_in ps p).perf ≤ bound) × (count_of (cpu_in ps p).throttle ≤ bound)
tables_of bound [] p a lt = absurd (omega arith)
tables_of bound (c ∷ ps) zero a lt = (a.0, a.1.0, a.1.1.0)
tables_of bound (c ∷ ps) (suc p) a lt = tables_of bound ps p a.1.1.1 (omega arith)

pub record Limits (cs : List ContainerParts) (ps : List CpuParts) : Type 0 where
  pub containers : length cs ≤ 256
  pub cpus : length ps ≤ 256
  pub depth : Below 8 (depths cs)
  pub children : Below 255 (child_counts cs ps)
  pub tables : Below 255 (table_counts cs ps)

pub limits_of : (cs : List ContainerParts) (ps : List CpuParts) → limit_passed cs ps ≡ None → Limits cs ps
limits_of cs ps e =
    let a = neither (passed 1 (first_above 256 (length cs ∷ []))) _ e in
    let b = neither (passed 2 (first_above 256 (length ps ∷ []))) _ a.1 in
    let c = neither (passed 3 (first_above 8 (depths cs))) _ b.1 in
    let d = neither (passed 4 (first_above 255 (child_counts cs ps))) _ c.1 in
    record {
      containers = (none_above 256 (length cs ∷ []) (not_passed 1 (first_above 256 (length cs ∷ [])) a.0)).0;
      cpus = (none_above 256 (length ps ∷ []) (not_passed 2 (first_above 256 (length ps ∷ [])) b.0)).0;
      depth = none_above 8 (depths cs) (not_passed 3 (first_above 8 (depths cs)) c.0);
      children = none_above 255 (child_counts cs ps) (not_passed 4 (first_above 255 (child_counts cs ps)) d.0);
      tables = none_above 255 (table_counts cs ps) (not_passed 5 (first_above 255 (table_counts cs ps)) d.1);
    }

-- # So the numbers are small

module _ (cs : List ContainerParts) (ps : List CpuParts) (fit : PartsFit cs ps) (limits : Limits cs ps) where
  depth_le : (n : ℕ) → n < length cs → depth_of cs n ≤ 8
  depth_le n lt = rw (get_or-map-range_with_len (depth_of cs) 0 (length cs) n n 0 lt (zero-add n)) at (at_most 8 (depths cs) n limits.depth)

  line_le : (from : Option ℕ) → is_below (length cs) from ≡ true → length (line_from cs from) ≤ 8
  line_le None b = rw (line_within-None cs (length cs)) (omega arith)
  line_le (Some n) b = depth_le n (parent_below (length cs) n (Some n) b refl)

  no_parent : no_cpu.parent ≡ None
  unfolding no_cpu
  no_parent = refl

  depth_small : (p : ℕ) → length (containers_of cs ps p) ≤ 8
  depth_small p = elim (cases_lt p (length ps)) [
    | inl lt ↦ line_le (cpu_in ps p).parent (fit.processors p lt)
    | inr le ↦ rw (get_or_past ps p no_cpu le, no_parent) (rw (line_within-None cs (length cs)) (omega arith))
  ]

  no_container_rows : length (rows_of no_container.idle) ≡ 0
  unfolding no_container no_table
  no_container_rows = refl

  no_cpu_rows : length (rows_of no_cpu.idle) ≡ 0
  unfolding no_cpu no_table
  no_cpu_rows = refl

  no_scale : (kind : DomainKind) → scale_of kind no_cpu ≡ None
  unfolding no_cpu
  no_scale Perf = refl
  no_scale Throttle = refl
  no_scale Idle = refl

  rows_small : (n : ℕ) → length (rows_of (container_in cs n).idle) ≤ 255
  rows_small n = elim (cases_lt n (length cs)) [
    | inl lt ↦
        let counts = below_first 255 (map (λ (c : ContainerParts). length (rows_of c.idle)) cs) (flat_map state_counts ps) limits.tables in
        rw (get_or-map (λ (c : ContainerParts). length (rows_of c.idle)) cs n no_container 0 lt) at (at_most 255 (map (λ (c : ContainerParts). length (rows_of c.idle)) cs) n counts)
    | inr le ↦ rw (get_or_past cs n no_container le, no_container_rows) (omega arith)
  ]

  all_tables : (p : ℕ) → p < length ps → (length (rows_of (cpu_in ps p).idle) ≤ 255) × (count_of (cpu_in ps p).perf ≤ 255) × (count_of (cpu_in ps p).throttle ≤ 255)
  all_tables p lt = tables_of 255 ps p (below_second 255 (map (λ (c : ContainerParts). length (rows_of c.idle)) cs) (flat_map state_counts ps) limits.tables) lt

  cpu_rows_small : (p : ℕ) → length (rows_of (cpu_in ps p).idle) ≤ 255
  cpu_rows_small p = elim (cases_lt p (length ps)) [
    | inl lt ↦ (all_tables p lt).0
    | inr le ↦ rw (get_or_past ps p no_cpu le, no_cpu_rows) (omega arith)
  ]

  scales_small : (kind : DomainKind) (p : ℕ) → p < length ps → count_of (scale_of kind (cpu_in ps p)) ≤ 255
  scales_small Perf p lt = (all_tables p lt).1
  scales_small Throttle p lt = (all_tables p lt).2
  scales_small Idle p lt = omega arith

  states_small : (kind : DomainKind) (p : ℕ) → count_of (scale_of kind (cpu_in ps p)) ≤ 255
  states_small kind p = elim (cases_lt p (length ps)) [
    | inl lt ↦ scales_small kind p lt
    | inr le ↦ rw (get_or_past ps p no_cpu le, no_scale kind) (omega arith)
  ]

  counted : (s : Option Scale) → has_states s ≡ true → is_some s ≡ true → 0 < count_of s
  counted None h e = cc
  counted (Some s) h e = grind (arith, nat_tests)

  scales_some : (kind : DomainKind) (p : ℕ) → p < length ps → is_some (scale_of kind (cpu_in ps p)) ≡ true → 0 < count_of (scale_of kind (cpu_in ps p))
  scales_some Perf p lt e = counted (cpu_in ps p).perf (fit.perf p lt) e
  scales_some Throttle p lt e = counted (cpu_in ps p).throttle (fit.throttle p lt) e
  scales_some Idle p lt e = cc

  states_some : (kind : DomainKind) (p : ℕ) → is_some (scale_of kind (cpu_in ps p)) ≡ true → 0 < count_of (scale_of kind (cpu_in ps p))
  states_some kind p e = elim (cases_lt p (length ps)) [
    | inl lt ↦ scales_some kind p lt e
    | inr le ↦ let f : false ≡ true = sym (ap (λ s. is_some s) (ap (scale_of kind) (get_or_past ps p no_cpu le) ∙ no_scale kind)) ∙ e in cc
  ]

  pub is_small : IsSmall cs ps
  is_small = record {
    containers = limits.containers;
    cpus = limits.cpus;
    depth = depth_small;
    container_rows = rows_small;
    cpu_rows = cpu_rows_small;
    states = states_small;
    some_states = states_some;
  }
