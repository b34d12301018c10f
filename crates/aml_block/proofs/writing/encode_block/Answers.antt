use Rattle.aml_block.proofs.WrittenBlocks.{block_spelled}
use Rattle.aml_block.proofs.writing.encode_block.Goals as goal

pub returns-clause-spelled : goal.returns-clause-spelled
returns-clause-spelled c = rw c.in_ok-bytes.ensures (block_spelled c.args.block.now c.requires c.fields_fit.ensures)
