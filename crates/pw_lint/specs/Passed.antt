-- What is found of terms that are passed over (ACPI 6.5, 20.2.5.2 and 20.2.5.3).
use Rattle.std.specs.Prelude.{ℕ, ◌==◌, List, Option, Some, None, if◌then◌else◌}
use Rattle.aml_block.specs.declared.opcode.TheConstants.{IF_OP, ELSE_OP, WHILE_OP, POWER_RES_OP, THERMAL_ZONE_OP}
use Rattle.acpi_space.specs.declared.passed.PassedOver.{PassedOver}
use Rattle.pw_findings.specs.declared.finding.Finding.{Finding}
use Rattle.pw_findings.specs.declared.finding.Unread.TheVariants.{If, Else, While, PowerResource, ThermalZone}
use Rattle.pw_findings.specs.declared.finding.Unused.{Unused}
use Rattle.pw_findings.specs.declared.finding.Unused.TheVariants.{Skipped}
use Rattle.pw_lint.specs.Notes.{of_object}

-- a term of this opcode, where objects may stand in it; none stand among fields
abbrev pub skipped : ℕ → Option Unused
skipped opcode =
    if opcode == IF_OP then Some (Skipped If) else
    if opcode == ELSE_OP then Some (Skipped Else) else
    if opcode == WHILE_OP then Some (Skipped While) else
    if opcode == POWER_RES_OP then Some (Skipped PowerResource) else
    if opcode == THERMAL_ZONE_OP then Some (Skipped ThermalZone) else None

-- told of the place in which it stands
abbrev pub passed_findings : PassedOver → List Finding
passed_findings term = of_object term.path (skipped term.opcode)
