use Rattle.aml_block.proofs.TermLists.{one_fault, no_fault}
use Rattle.aml_block.proofs.term_laws.one_term_fault.Goals as goal

pub returns-clause-one : goal.returns-clause-one
returns-clause-one c = one_fault

pub returns-clause-apart : goal.returns-clause-apart
returns-clause-apart c = no_fault
