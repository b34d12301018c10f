-- The tree of containers and processors (ACPI 6.5, 8.4.2).
use Rattle.std.specs.Prelude.{◌==◌, ◌+◌, ℕ, suc, zero, Bool, false, List, [], ◌∷◌, ◌++◌, map, length, Option, Some, None, if◌then◌else◌}
use Rattle.std.specs.List.{range_with_len}
use Rattle.pw_plan.specs.declared.parts.ContainerParts.{ContainerParts}
use Rattle.pw_plan.specs.declared.parts.CpuParts.{CpuParts}
use Rattle.pw_plan.specs.declared.domain.Child.{Child}
use Rattle.pw_plan.specs.declared.domain.Child.TheVariants.{Cpu, Container}
use Rattle.pw_plan.specs.Parts.{container_in, cpu_in}

-- the numbers of the elements that pass a test, the first element being number k
abbrev pub places_from : {X : Type 0} → (X → Bool) → ℕ → List X → List ℕ
places_from test k [] = []
places_from test k (x ∷ xs) = if test x then k ∷ places_from test (k + 1) xs else places_from test (k + 1) xs

-- whether a parent is the container of this number
abbrev pub is_number : ℕ → Option ℕ → Bool
is_number n None = false
is_number n (Some m) = m == n

-- the children of container n: its containers in their order, then its processors in theirs
abbrev pub children_of : List ContainerParts → List CpuParts → ℕ → List Child
children_of cs ps n =
    map (λ m. Container m) (places_from (λ (c : ContainerParts). is_number n c.parent) 0 cs)
    ++ map (λ p. Cpu p) (places_from (λ (c : CpuParts). is_number n c.parent) 0 ps)

-- the children of each container
abbrev pub all_children : List ContainerParts → List CpuParts → List (List Child)
all_children cs ps = map (children_of cs ps) (range_with_len 0 (length cs))

-- the containers from one on upwards. The number bounds how many
unfoldable pub line_within : ℕ → List ContainerParts → Option ℕ → List ℕ
line_within zero cs from = []
line_within (suc bound) cs None = []
line_within (suc bound) cs (Some n) = n ∷ line_within bound cs (container_in cs n).parent

-- the containers from one on upwards, to the outermost
abbrev pub line_from : List ContainerParts → Option ℕ → List ℕ
line_from cs from = line_within (length cs) cs from

-- how deep container n stands: 1 for an outermost one
abbrev pub depth_of : List ContainerParts → ℕ → ℕ
depth_of cs n = length (line_from cs (Some n))

-- the containers around processor p, the innermost first
abbrev pub containers_of : List ContainerParts → List CpuParts → ℕ → List ℕ
containers_of cs ps p = line_from cs (cpu_in ps p).parent
