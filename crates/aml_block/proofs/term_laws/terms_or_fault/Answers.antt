use Rattle.aml_block.proofs.TermLists.{spelled_or_fault}
use Rattle.aml_block.proofs.term_laws.terms_or_fault.Goals as goal

pub returns : goal.returns
returns c = spelled_or_fault
