use Rattle.std.proofs.Common.{arith}
use Rattle.aml_data.specs.Grammar.{NameOf}
use Rattle.aml_data.specs.Faults.{NameFails}
use Rattle.aml_data.specs.inner.Reading.{name_at}
use Rattle.aml_data.proofs.Names.{name_takes, name_again}
use Rattle.aml_data.proofs.NameFaults.{name_fails, name_refused}
use Rattle.aml_data.proofs.Places.{is_found, is_only, is_fault, is_refused}
use Rattle.aml_data.proofs.decoding.decode_name.Goals as goal

pub returns-clause-found : goal.returns-clause-found
returns-clause-found c = is_found NameOf name_at name_takes c.args.bytes.now c.args.at c.name_from.result (λ i. omega (arith, c.type_inv.bytes i)) c.requires.within c.name_from.ensures

pub returns-clause-only : goal.returns-clause-only
returns-clause-only c = is_only NameOf name_at name_again c.args.bytes.now c.args.at c.name_from.result c.name_from.ensures

pub returns-clause-fault : goal.returns-clause-fault
returns-clause-fault c = is_fault NameFails name_at name_fails c.args.bytes.now c.args.at c.name_from.result (λ i. omega (arith, c.type_inv.bytes i)) c.name_from.ensures

pub returns-clause-refused : goal.returns-clause-refused
returns-clause-refused c = is_refused NameFails name_at name_refused c.args.bytes.now c.args.at c.name_from.result c.name_from.ensures
