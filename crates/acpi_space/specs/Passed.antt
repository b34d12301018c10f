-- The terms that are passed over: what they would place isn't known, since their bodies aren't read (ACPI 6.5, 20.2.5).
use Rattle.std.specs.Prelude.{ℕ, List, Option, Some, None}
use Rattle.std.specs.List.{filter_map}
use Rattle.aml_block.specs.declared.block.Block.{Block}
use Rattle.acpi_space.specs.declared.passed.PassedOver.{PassedOver}
use Rattle.acpi_space.specs.Places.{Place}
use Rattle.acpi_space.specs.Steps.{Step}
use Rattle.acpi_space.specs.Namespace.{steps_of_blocks}

-- what a step passes over
abbrev pub passed_at : Place → Option ℕ → Option PassedOver
passed_at place None = None
passed_at place (Some opcode) = Some (record { path = record { segs = place }; opcode = opcode })

abbrev pub passed_of : List Step → List PassedOver
passed_of steps = filter_map (λ (s : Step). passed_at s.place s.passed) steps

-- all that blocks pass over, in their order, each with the place in which it stands
abbrev pub passed_in : List Block → List PassedOver
passed_in blocks = passed_of (steps_of_blocks blocks)
