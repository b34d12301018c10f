-- What an accepted idle request leaves is a state of the plan.
use Rattle.std.proofs.Common.{◌≡◌, ◌<◌, ℕ, length, Option, None, ap}
use Rattle.pw_plan.specs.declared.plan.Plan.{Plan}
use Rattle.pw_plan.specs.declared.request.Request.TheVariants.{Idle}
use Rattle.pw_model.specs.declared.reply.Reply.{Reply}
use Rattle.pw_model.specs.declared.state.Change.TheVariants as changes
use Rattle.pw_model.specs.declared.state.State.{State}
use Rattle.pw_model.specs.States.{IsState, idling, with_change}
use Rattle.pw_model.specs.Refusals.{◌or_else◌, idle_refusal}
use Rattle.pw_model.proofs.Fitting.{changed_fits}

pub idle_leaves : (P : Plan) (S : State) (p s t : ℕ) → IsState P S → p < length P.cpus → idle_refusal P p s t ≡ None → IsState P (with_change S (changes.Vote p (idling s t)))
idle_leaves P S p s t fits lt e = changed_fits P S (Idle p s t) fits lt (ap (λ (r : Option Reply). r or_else None) e)
