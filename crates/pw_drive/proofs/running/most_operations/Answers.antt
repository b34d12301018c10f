use Rattle.std.proofs.Common.{arith}
use Rattle.pw_plan.proofs.RequestBounds.{bound_small}
use Rattle.pw_drive.proofs.running.most_operations.Goals as goal

pub returns-clause-requests : goal.returns-clause-requests
returns-clause-requests c = λ q. let small = bound_small c.args.plan.now q in omega (arith, small)
