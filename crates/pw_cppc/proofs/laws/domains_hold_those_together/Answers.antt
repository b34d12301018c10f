use Rattle.pw_cppc.proofs.Listing.{are_domains}
use Rattle.pw_cppc.proofs.OneList.{one_list}
use Rattle.pw_cppc.proofs.laws.domains_hold_those_together.Goals as goal

pub returns-clause-listed : goal.returns-clause-listed
returns-clause-listed c = λ ps. are_domains ps

pub returns-clause-one : goal.returns-clause-one
returns-clause-one c = λ ps ds are. one_list ps ds are
