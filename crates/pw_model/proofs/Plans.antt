-- Every plan tells what the proofs ask of it.
use Rattle.pw_plan.specs.declared.plan.Plan.{Plan}
use Rattle.pw_model.specs.inner.Wired.{IsWired}
use Rattle.pw_model.proofs.Wires.{wires}

pub wired : (P : Plan) → IsWired P
wired P = wires P P.orderly
