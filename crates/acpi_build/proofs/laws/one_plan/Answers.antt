use Rattle.acpi_build.proofs.Planned.{same_plan}
use Rattle.acpi_build.proofs.laws.one_plan.Goals as goal

pub returns : goal.returns
returns c = same_plan
