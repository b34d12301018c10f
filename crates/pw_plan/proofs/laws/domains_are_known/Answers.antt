use Rattle.pw_plan.proofs.Listing.{are_domains}
use Rattle.pw_plan.proofs.OneDomains.{one_list}
use Rattle.pw_plan.proofs.laws.domains_are_known.Goals as goal

pub returns-clause-one : goal.returns-clause-one
returns-clause-one c = λ ps ds es a b. one_list ps ds es a b

pub returns-clause-listed : goal.returns-clause-listed
returns-clause-listed c = λ ps fit. are_domains ps fit
