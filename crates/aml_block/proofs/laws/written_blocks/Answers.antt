use Rattle.aml_block.proofs.WrittenBlocks.{block_spelled, block_least, block_writable}
use Rattle.aml_block.proofs.laws.written_blocks.Goals as goal

pub returns-clause-spelled : goal.returns-clause-spelled
returns-clause-spelled c = block_spelled

pub returns-clause-least : goal.returns-clause-least
returns-clause-least c = block_least

pub returns-clause-writable : goal.returns-clause-writable
returns-clause-writable c = block_writable
