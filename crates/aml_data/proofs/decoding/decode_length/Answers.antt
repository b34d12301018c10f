use Rattle.std.proofs.Common.{arith}
use Rattle.aml_data.proofs.LengthPlaces.{length_found, length_only, length_fault, length_first_fault}
use Rattle.aml_data.proofs.decoding.decode_length.Goals as goal

pub returns-clause-found : goal.returns-clause-found
returns-clause-found c = length_found c.args.bytes.now c.args.at c.length_from.result (λ i. omega (arith, c.type_inv.bytes i)) c.requires c.length_from.ensures

pub returns-clause-only : goal.returns-clause-only
returns-clause-only c = length_only c.args.bytes.now c.args.at c.length_from.result c.length_from.ensures

pub returns-clause-fault : goal.returns-clause-fault
returns-clause-fault c = length_fault c.args.bytes.now c.args.at c.length_from.result (λ i. omega (arith, c.type_inv.bytes i)) c.length_from.ensures

pub returns-clause-refused : goal.returns-clause-refused
returns-clause-refused c = length_first_fault c.args.bytes.now c.args.at c.length_from.result c.length_from.ensures
