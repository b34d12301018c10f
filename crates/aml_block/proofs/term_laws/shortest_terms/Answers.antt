use Rattle.aml_block.proofs.TermLists.{terms_spelled, terms_least, terms_writable}
use Rattle.aml_block.proofs.term_laws.shortest_terms.Goals as goal

pub returns-clause-spelled : goal.returns-clause-spelled
returns-clause-spelled c = terms_spelled

pub returns-clause-least : goal.returns-clause-least
returns-clause-least c = terms_least

pub returns-clause-writable : goal.returns-clause-writable
returns-clause-writable c = terms_writable
