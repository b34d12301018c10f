use Rattle.aml_block.proofs.TermValues.{values_countable}
use Rattle.aml_block.proofs.term_laws.countable_values.Goals as goal

pub returns : goal.returns
returns c = values_countable
