use Rattle.pw_generate.proofs.Adding.{counts_as_asked, counts_as_refused, one_kind}
use Rattle.pw_generate.proofs.summary_laws.counts_are_of_requests.Goals as goal

pub returns-clause-refused : goal.returns-clause-refused
returns-clause-refused c = counts_as_refused

pub returns-clause-accepted : goal.returns-clause-accepted
returns-clause-accepted c = counts_as_asked

pub returns-clause-one : goal.returns-clause-one
returns-clause-one c = one_kind
