use Rattle.aml_data.specs.Faults.{LenFails}
use Rattle.aml_data.specs.inner.Reading.{length_at}
use Rattle.aml_data.proofs.LengthSpellings.{length_refused}
use Rattle.aml_data.proofs.Places.{one_fault}
use Rattle.aml_data.proofs.LengthPlaces.{no_length_fault}
use Rattle.aml_data.proofs.laws.one_length_fault.Goals as goal

pub returns-clause-one : goal.returns-clause-one
returns-clause-one c = one_fault LenFails length_at length_refused

pub returns-clause-apart : goal.returns-clause-apart
returns-clause-apart c = no_length_fault
