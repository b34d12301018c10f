use Rattle.aml_block.proofs.WrittenBlocks.{writable_countable, spelled_countable}
use Rattle.aml_block.proofs.laws.countable_objects.Goals as goal

pub returns-clause-writable : goal.returns-clause-writable
returns-clause-writable c = writable_countable

pub returns-clause-spelled : goal.returns-clause-spelled
returns-clause-spelled c = spelled_countable
