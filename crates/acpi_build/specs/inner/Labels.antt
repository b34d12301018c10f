-- Labels of objects that tell their parents.
use Rattle.std.specs.Prelude.{ℕ, List, map, position, nat_eq, Option}
use Rattle.std.specs.Option.{option_map}
use Rattle.acpi_space.specs.Namespace.{Entry}
use Rattle.acpi_space.specs.Lookup.{label_around, path_in}
use Rattle.pw_plan.specs.Limits.{in_32_bits}
use Rattle.acpi_build.specs.Finding.{containers_of, numbers_of}

-- of each object its number as a container, where it is one of these
unfoldable pub container_labels : List Entry → List ℕ → List (Option ℕ)
container_labels entries cs = map (λ k. option_map in_32_bits (position (nat_eq k) cs)) (numbers_of entries)

-- the label around object k
abbrev pub label_of_parent : List Entry → ℕ → Option ℕ
label_of_parent entries k = label_around entries (container_labels entries (containers_of entries)) (path_in entries k)
