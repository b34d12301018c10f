use Rattle.acpi_space.proofs.Opening.{opened_by, opened_to}
use Rattle.acpi_space.proofs.laws.opened_place.Goals as goal

pub returns : goal.returns
returns c = λ known scope whole path. (opened_by known scope whole path, opened_to known scope whole path)
