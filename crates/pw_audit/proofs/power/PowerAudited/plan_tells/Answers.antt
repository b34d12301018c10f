use Rattle.pw_audit.proofs.PowerTells.{power_tells}
use Rattle.pw_audit.proofs.power.PowerAudited.plan_tells.Goals as goal

pub returns : goal.returns
returns c = power_tells c.args.plan.now c.plans_have_segments.ensures
