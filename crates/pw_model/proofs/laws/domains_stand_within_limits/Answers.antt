use Rattle.pw_model.proofs.Gathering.{stands_asked, stands_fastest, stands_within}
use Rattle.pw_model.proofs.laws.domains_stand_within_limits.Goals as goal

pub returns-clause-limits : goal.returns-clause-limits
returns-clause-limits c = λ P S d p software. stands_within P S d p software

pub returns-clause-fastest : goal.returns-clause-fastest
returns-clause-fastest c = λ P S d p q t software member ask limits. stands_fastest P S d p software q t member ask limits

pub returns-clause-asked : goal.returns-clause-asked
returns-clause-asked c = λ P S d p t software le asks. stands_asked P S d p software t le asks
