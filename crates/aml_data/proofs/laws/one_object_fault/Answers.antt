use Rattle.aml_data.specs.Grammar.{Spells}
use Rattle.aml_data.specs.Faults.{Fails}
use Rattle.aml_data.specs.inner.ReadingObjects.{object_at}
use Rattle.aml_data.proofs.Objects.{object_again}
use Rattle.aml_data.proofs.ObjectFaults.{object_refused}
use Rattle.aml_data.proofs.Places.{one_fault, no_fault}
use Rattle.aml_data.proofs.laws.one_object_fault.Goals as goal

pub returns-clause-one : goal.returns-clause-one
returns-clause-one c = one_fault Fails object_at object_refused

pub returns-clause-apart : goal.returns-clause-apart
returns-clause-apart c = no_fault Spells Fails object_at object_again object_refused
