-- Who is drawn along by a requester.
use Rattle.std.specs.Prelude.{◌≡◌, ◌≢◌, ◌==◌, ◌&&◌, not, ℕ, Bool, List, filter, nat_le}
use Rattle.pw_plan.specs.declared.domain.Domain.{Domain}
use Rattle.pw_plan.specs.declared.domain.DomainKind.TheVariants.{Idle}
use Rattle.pw_plan.specs.declared.plan.Plan.{Plan}
use Rattle.pw_plan.specs.Covering.{covers}
use Rattle.pw_plan.specs.Groups.{is_software}
use Rattle.pw_model.specs.declared.state.State.{State}
use Rattle.pw_model.specs.States.{vote_of}
use Rattle.pw_model.specs.Domains.{is_gathered}
use Rattle.pw_model.specs.Operations.{is_drawn}

-- those of these processors, but for the requester p, that are drawn along between two states
abbrev pub drawn_among : Plan → State → State → ℕ → List ℕ → List ℕ
drawn_among P S T p members = filter (λ q. not (q == p) && is_drawn P S T q) members

-- between two states the vote of processor p alone may change
abbrev pub ChangesVote : State → State → ℕ → Type 0
ChangesVote S T p = (r : ℕ) → r ≢ p → vote_of T r ≡ vote_of S r

-- whether it is an idle domain of processor p that software coordinates, which the vote of p can bring to be gathered: it is
-- gathered after it, and the vote before was for no such state
abbrev pub brought_by : State → State → ℕ → Domain → Bool
brought_by S T p d = (covers Idle p d && is_software d.coord) && (nat_le (vote_of S p).state d.index && is_gathered T d)
