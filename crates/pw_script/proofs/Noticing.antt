-- What a wish becomes.
use Rattle.std.proofs.Common.{◌≡◌, ◌∙◌, ℕ, List}
use Rattle.pw_plan.specs.declared.plan.Plan.{Plan}
use Rattle.pw_plan.specs.declared.request.Request.{Request}
use Rattle.pw_plan.specs.Parts.{scale_of}
use Rattle.pw_plan.specs.Places.{cpu_at}
use Rattle.pw_model.specs.declared.state.ScaleKind.{ScaleKind}
use Rattle.pw_model.specs.declared.state.State.{State}
use Rattle.pw_model.specs.States.{limit_of, opening}
use Rattle.pw_notice.specs.Limits.{IsAnswer, IsNoticed, kind_of, limit_request, made_from, own_limit}
use Rattle.pw_notice.proofs.OwnLimits.{requests_own}
use Rattle.pw_script.specs.inner.Limiting.{SameLimits}
use Rattle.pw_script.proofs.Limiting.{limit_same}

-- the limit that stands in the state of the requests before is the processor's own
pub noticed : (P : Plan) (answers : ScaleKind → ℕ → ℕ → ℕ → ℕ → Type 0) (S : State) (before : List Request) (p : ℕ) (kind : ScaleKind) (value n : ℕ) (q : Request)
    → SameLimits S (made_from P (opening P) before) → IsAnswer (answers kind) (scale_of (kind_of kind) (cpu_at P p)) (limit_of (kind_of kind) S p) value n
    → q ≡ limit_request kind p n → IsNoticed P answers before p kind value q
noticed P answers S before p kind value n q made answered is =
    let own : limit_of (kind_of kind) S p ≡ own_limit P (kind_of kind) p before = limit_same S (made_from P (opening P) before) kind p made ∙ requests_own P (kind_of kind) p before in
    (n, rw own at answered, is)
