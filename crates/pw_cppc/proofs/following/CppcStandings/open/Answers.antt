use Rattle.pw_cppc.specs.States.{opening}
use Rattle.pw_cppc.proofs.Followed.{at_start}
use Rattle.pw_cppc.proofs.following.CppcStandings.open.Goals as goal

pub returns : goal.returns
returns c = rw (c.in_ok-stood_by_all.ensures, c.in_ok-numbers.ensures) (at_start c.args.plan.now (opening c.args.plan.now))
