use Rattle.aml_data.specs.Grammar.{Const}
use Rattle.aml_data.specs.Faults.{ConstFails}
use Rattle.aml_data.specs.inner.Reading.{constant_at}
use Rattle.aml_data.proofs.Constants.{constant_takes, constant_fails}
use Rattle.aml_data.proofs.Places.{spelled_or_fails}
use Rattle.aml_data.proofs.laws.constant_or_fault.Goals as goal

pub returns : goal.returns
returns c = spelled_or_fails Const ConstFails constant_at constant_takes constant_fails
