use Rattle.aml_data.specs.Grammar.{Spells}
use Rattle.aml_data.specs.inner.ReadingObjects.{object_at}
use Rattle.aml_data.proofs.Objects.{object_again}
use Rattle.aml_data.proofs.Places.{one_spelled, one_place}
use Rattle.aml_data.proofs.laws.one_object.Goals as goal

pub returns-clause-place : goal.returns-clause-place
returns-clause-place c = one_place Spells object_at object_again

pub returns-clause-prefix : goal.returns-clause-prefix
returns-clause-prefix c = one_spelled Spells object_at object_again
