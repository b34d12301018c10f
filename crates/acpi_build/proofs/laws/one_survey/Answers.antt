use Rattle.acpi_build.proofs.Planned.{same_survey}
use Rattle.acpi_build.proofs.laws.one_survey.Goals as goal

pub returns : goal.returns
returns c = same_survey
