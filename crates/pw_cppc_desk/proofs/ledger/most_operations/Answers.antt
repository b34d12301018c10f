use Rattle.std.proofs.Common.{arith}
use Rattle.pw_cppc_desk.proofs.Bounds.{bound_small}
use Rattle.pw_cppc_desk.proofs.ledger.most_operations.Goals as goal

pub returns-clause-requests : goal.returns-clause-requests
returns-clause-requests c = λ q. let small = bound_small c.args.plan.now q in omega (arith, small)
