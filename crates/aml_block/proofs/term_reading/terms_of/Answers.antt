use Rattle.std.proofs.Common.{Ok, Err, arith}
use Rattle.aml_block.specs.inner.TermReading.{terms_at}
use Rattle.aml_block.proofs.TermLists.{terms_again, terms_refused, is_found, is_fault, is_read}
use Rattle.aml_block.proofs.term_reading.terms_of.Goals as goal

pub returns-clause-found : goal.returns-clause-found
unfolding terms_at
returns-clause-found c = is_found c.args.end c.args.bytes.now c.read_terms.result (λ i. omega (arith, c.type_inv.bytes i)) c.read_terms.ensures

pub returns-clause-only : goal.returns-clause-only
unfolding terms_at
returns-clause-only c terms s = is_read c.read_terms.result (terms_at c.args.end c.args.bytes.now) (Ok terms) (terms_again c.args.end terms c.args.bytes.now s) c.read_terms.ensures

pub returns-clause-fault : goal.returns-clause-fault
unfolding terms_at
returns-clause-fault c = is_fault c.args.end c.args.bytes.now c.read_terms.result (λ i. omega (arith, c.type_inv.bytes i)) c.read_terms.ensures

pub returns-clause-refused : goal.returns-clause-refused
unfolding terms_at
returns-clause-refused c f h = is_read c.read_terms.result (terms_at c.args.end c.args.bytes.now) (Err f) (terms_refused c.args.end c.args.bytes.now f h) c.read_terms.ensures
