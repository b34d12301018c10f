use Rattle.aml_data.specs.Grammar.{Const}
use Rattle.aml_data.specs.Faults.{ConstFails}
use Rattle.aml_data.specs.inner.Reading.{constant_at}
use Rattle.aml_data.proofs.Constants.{constant_again}
use Rattle.aml_data.proofs.Constants.{constant_refused}
use Rattle.aml_data.proofs.Places.{one_fault, no_fault}
use Rattle.aml_data.proofs.laws.one_constant_fault.Goals as goal

pub returns-clause-one : goal.returns-clause-one
returns-clause-one c = one_fault ConstFails constant_at constant_refused

pub returns-clause-apart : goal.returns-clause-apart
returns-clause-apart c = no_fault Const ConstFails constant_at constant_again constant_refused
