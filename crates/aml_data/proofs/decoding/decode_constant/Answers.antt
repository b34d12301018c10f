use Rattle.std.proofs.Common.{arith}
use Rattle.aml_data.specs.Grammar.{Const}
use Rattle.aml_data.specs.Faults.{ConstFails}
use Rattle.aml_data.specs.inner.Reading.{constant_at}
use Rattle.aml_data.proofs.Constants.{constant_takes, constant_again, constant_fails, constant_refused}
use Rattle.aml_data.proofs.Places.{told_found, told_only, told_fault, told_refused}
use Rattle.aml_data.proofs.decoding.decode_constant.Goals as goal

pub returns-clause-found : goal.returns-clause-found
returns-clause-found c = told_found Const constant_at constant_takes c.args.bytes.now c.args.at c.constant_from.result (λ i. omega (arith, c.type_inv.bytes i)) c.requires c.constant_from.ensures

pub returns-clause-only : goal.returns-clause-only
returns-clause-only c = told_only Const constant_at constant_again c.args.bytes.now c.args.at c.constant_from.result c.constant_from.ensures

pub returns-clause-fault : goal.returns-clause-fault
returns-clause-fault c = told_fault ConstFails constant_at constant_fails c.args.bytes.now c.args.at c.constant_from.result (λ i. omega (arith, c.type_inv.bytes i)) c.constant_from.ensures

pub returns-clause-refused : goal.returns-clause-refused
returns-clause-refused c = told_refused ConstFails constant_at constant_refused c.args.bytes.now c.args.at c.constant_from.result c.constant_from.ensures
