use Rattle.std.proofs.Common.{arith}
use Rattle.aml_block.proofs.Blocks.{is_found, is_only, is_fault, is_refused, no_file, one_memory}
use Rattle.aml_block.proofs.WrittenBlocks.{each_writable}
use Rattle.aml_block.proofs.parsing.parse.Goals as goal

pub returns-clause-found : goal.returns-clause-found
returns-clause-found c = is_found c.args.bytes.now c.block_of.result (λ i. omega (arith, c.type_inv.bytes i)) c.block_of.ensures

pub returns-clause-only : goal.returns-clause-only
returns-clause-only c = is_only c.args.bytes.now c.block_of.result c.block_of.ensures

pub returns-clause-fault : goal.returns-clause-fault
returns-clause-fault c = is_fault c.args.bytes.now c.block_of.result (λ i. omega (arith, c.type_inv.bytes i)) c.block_of.ensures

pub returns-clause-refused : goal.returns-clause-refused
returns-clause-refused c = is_refused c.args.bytes.now c.block_of.result c.block_of.ensures

pub returns-clause-no_file : goal.returns-clause-no_file
returns-clause-no_file c = no_file c.args.bytes.now c.block_of.result (is_fault c.args.bytes.now c.block_of.result (λ i. omega (arith, c.type_inv.bytes i)) c.block_of.ensures)

pub returns-clause-one_memory : goal.returns-clause-one_memory
returns-clause-one_memory c = one_memory c.args.bytes.now c.block_of.result (is_fault c.args.bytes.now c.block_of.result (λ i. omega (arith, c.type_inv.bytes i)) c.block_of.ensures)

pub returns-clause-writable : goal.returns-clause-writable
returns-clause-writable c =
    each_writable c.args.bytes.now c.block_of.result (is_found c.args.bytes.now c.block_of.result (λ i. omega (arith, c.type_inv.bytes i)) c.block_of.ensures)
