-- The limits of a plan.
use Rattle.std.specs.Prelude.{ℕ, min, List, [], ◌∷◌, ◌++◌, map, length, find, Option, nat_lt}
use Rattle.std.specs.Option.{option_or, option_map}
use Rattle.std.specs.List.{range_with_len, flat_map}
use Rattle.acpi_values.specs.Idle.{rows_of}
use Rattle.pw_plan.specs.declared.parts.ContainerParts.{ContainerParts}
use Rattle.pw_plan.specs.declared.parts.CpuParts.{CpuParts}
use Rattle.pw_plan.specs.declared.fault.PlanFault.{PlanFault}
use Rattle.pw_plan.specs.declared.fault.PlanFault.TheVariants.{Limit}
use Rattle.pw_plan.specs.Parts.{count_of}
use Rattle.pw_plan.specs.Tree.{children_of, depth_of}

-- a count in 32 bits: one past their end stands at it
abbrev pub in_32_bits : ℕ → ℕ
in_32_bits n = min n 4294967295

-- the first of these counts that is above a bound
abbrev pub first_above : ℕ → List ℕ → Option ℕ
first_above bound counts = option_map in_32_bits (find (nat_lt bound) counts)

-- this limit is passed where one of the counts is above the bound, with the first such count
abbrev pub passed : ℕ → Option ℕ → Option PlanFault
passed which count = option_map (Limit which) count

-- how many states each table of a processor has
abbrev pub state_counts : CpuParts → List ℕ
state_counts c = length (rows_of c.idle) ∷ count_of c.perf ∷ count_of c.throttle ∷ []

-- how many states each table has, those of the containers first
abbrev pub table_counts : List ContainerParts → List CpuParts → List ℕ
table_counts cs ps = map (λ (c : ContainerParts). length (rows_of c.idle)) cs ++ flat_map state_counts ps

abbrev pub depths : List ContainerParts → List ℕ
depths cs = map (depth_of cs) (range_with_len 0 (length cs))

abbrev pub child_counts : List ContainerParts → List CpuParts → List ℕ
child_counts cs ps = map (λ n. length (children_of cs ps n)) (range_with_len 0 (length cs))

-- the limit that is passed, the least one first: 256 containers, 256 processors, a depth of 8, 255 children of a
-- container, 255 states of a table
abbrev pub limit_passed : List ContainerParts → List CpuParts → Option PlanFault
limit_passed cs ps =
    option_or (passed 1 (first_above 256 (length cs ∷ [])))
    (option_or (passed 2 (first_above 256 (length ps ∷ [])))
    (option_or (passed 3 (first_above 8 (depths cs)))
    (option_or (passed 4 (first_above 255 (child_counts cs ps)))
    (passed 5 (first_above 255 (table_counts cs ps))))))
