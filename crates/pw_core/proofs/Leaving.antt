-- What an accepted change leaves is a state of the plan.
use Rattle.std.proofs.Common.{◌≡◌, Bool, true, false, not, Option, Some, None, refl, ◌∙◌, ap}
use Rattle.std.specs.Prelude.{is_some}
use Rattle.pw_plan.specs.declared.plan.Plan.{Plan}
use Rattle.pw_plan.specs.declared.request.Request.{Request}
use Rattle.pw_plan.specs.Requests.{Has}
use Rattle.pw_model.specs.declared.reply.Reply.{Reply}
use Rattle.pw_model.specs.declared.state.Change.{Change}
use Rattle.pw_model.specs.declared.state.State.{State}
use Rattle.pw_model.specs.States.{IsState, with_change}
use Rattle.pw_model.specs.Answers.{change_of}
use Rattle.pw_model.specs.Refusals.{refusal}
use Rattle.pw_model.proofs.Fitting.{changed_fits}

pub accepted_fits : (P : Plan) (S now : State) (q : Request) (c : Change) → S ≡ now → IsState P now → Has P q → refusal P S q ≡ None → c ≡ change_of P q → IsState P (with_change S c)
accepted_fits P S now q c same fits has none e = rw e (changed_fits P S q (rw same fits) has none)

-- what is tested to be none is
pub is_none_by : (r : Option Reply) (b : Bool) → is_some r ≡ not b → b ≡ true → r ≡ None
is_none_by None b e h = refl
is_none_by (Some reply) b e h = let wrong : true ≡ false = e ∙ ap not h in cc
