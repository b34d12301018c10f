use Rattle.pw_audit.proofs.PerformanceTells.{performance_tells}
use Rattle.pw_audit.proofs.performance.PerformanceAudited.plan_tells.Goals as goal

pub returns : goal.returns
returns c = performance_tells c.args.plan.now c.cppc_plans_have_segments.ensures
