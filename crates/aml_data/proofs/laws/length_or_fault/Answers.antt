use Rattle.aml_data.proofs.LengthPlaces.{length_or_fails}
use Rattle.aml_data.proofs.laws.length_or_fault.Goals as goal

pub returns : goal.returns
returns c = length_or_fails
