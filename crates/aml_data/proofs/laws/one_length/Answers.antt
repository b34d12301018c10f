use Rattle.aml_data.proofs.LengthPlaces.{one_place, one_length}
use Rattle.aml_data.proofs.laws.one_length.Goals as goal

pub returns-clause-place : goal.returns-clause-place
returns-clause-place c = one_place

pub returns-clause-prefix : goal.returns-clause-prefix
returns-clause-prefix c = one_length
