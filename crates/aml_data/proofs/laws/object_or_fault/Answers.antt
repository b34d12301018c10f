use Rattle.aml_data.specs.Grammar.{Spells}
use Rattle.aml_data.specs.Faults.{Fails}
use Rattle.aml_data.specs.inner.ReadingObjects.{object_at}
use Rattle.aml_data.proofs.Objects.{object_takes}
use Rattle.aml_data.proofs.ObjectFaults.{object_fails}
use Rattle.aml_data.proofs.Places.{spelled_or_fails}
use Rattle.aml_data.proofs.laws.object_or_fault.Goals as goal

pub returns : goal.returns
returns c = spelled_or_fails Spells Fails object_at object_takes object_fails
