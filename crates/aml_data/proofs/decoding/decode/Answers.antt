use Rattle.std.proofs.Common.{arith}
use Rattle.aml_data.specs.Grammar.{Spells}
use Rattle.aml_data.specs.Faults.{Fails}
use Rattle.aml_data.specs.inner.ReadingObjects.{object_at}
use Rattle.aml_data.proofs.Objects.{object_takes, object_again}
use Rattle.aml_data.proofs.ObjectFaults.{object_fails, object_refused}
use Rattle.aml_data.proofs.Places.{is_found, is_only, is_fault, is_refused}
use Rattle.aml_data.proofs.decoding.decode.Goals as goal

pub returns-clause-found : goal.returns-clause-found
returns-clause-found c = is_found Spells object_at object_takes c.args.bytes.now c.args.at c.object_from.result (λ i. omega (arith, c.type_inv.bytes i)) c.requires.within c.object_from.ensures

pub returns-clause-only : goal.returns-clause-only
returns-clause-only c = is_only Spells object_at object_again c.args.bytes.now c.args.at c.object_from.result c.object_from.ensures

pub returns-clause-fault : goal.returns-clause-fault
returns-clause-fault c = is_fault Fails object_at object_fails c.args.bytes.now c.args.at c.object_from.result (λ i. omega (arith, c.type_inv.bytes i)) c.object_from.ensures

pub returns-clause-refused : goal.returns-clause-refused
returns-clause-refused c = is_refused Fails object_at object_refused c.args.bytes.now c.args.at c.object_from.result c.object_from.ensures
