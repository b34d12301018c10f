use Rattle.aml_block.proofs.TermLists.{one_list}
use Rattle.aml_block.proofs.term_laws.one_list_of_terms.Goals as goal

pub returns : goal.returns
returns c = one_list
