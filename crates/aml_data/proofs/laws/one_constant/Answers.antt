use Rattle.aml_data.specs.Grammar.{Const}
use Rattle.aml_data.specs.inner.Reading.{constant_at}
use Rattle.aml_data.proofs.Constants.{constant_again}
use Rattle.aml_data.proofs.Places.{one_spelled, one_place}
use Rattle.aml_data.proofs.laws.one_constant.Goals as goal

pub returns-clause-place : goal.returns-clause-place
returns-clause-place c = one_place Const constant_at constant_again

pub returns-clause-prefix : goal.returns-clause-prefix
returns-clause-prefix c = one_spelled Const constant_at constant_again
