-- What is true of a walk wherever it stands, whatever was noted.
use Rattle.std.specs.Prelude.{◌≡◌, ◌<◌, ◌≤◌, ◌+◌, ℕ, List, length, None, Some}
use Rattle.pw_plan.specs.declared.domain.Child.{Child}
use Rattle.pw_plan.specs.declared.domain.Child.TheVariants.{Cpu, Container}
use Rattle.pw_plan.specs.declared.plan.Plan.{Plan}
use Rattle.pw_plan.specs.declared.request.Request.{Request}
use Rattle.pw_plan.specs.declared.request.Request.TheVariants.{Idle, Wake, Perf, Throttle, PerfLimit, ThrottleLimit}
use Rattle.pw_plan.specs.Places.{IsIn, parent_of}
use Rattle.pw_plan.specs.Tree.{line_from}
use Rattle.pw_model.specs.declared.state.Vote.{Vote}
use Rattle.pw_model.specs.States.{idling, running}
use Rattle.pw_model.specs.Containers.{node_vote}
use Rattle.pw_model.specs.Refusals.{fixed_refusal}
use Rattle.pw_model.specs.Records.{scaled_count}
use Rattle.pw_machine.specs.declared.view.Held.{Held}
use Rattle.pw_machine.specs.Walk.{Walk, begins_at, climbing, grouped, over, scaled, walk}

-- what a request lets its processor vote
abbrev pub own_vote : Request → Vote
own_vote (Idle p s t) = idling s t
own_vote (Wake p) = running
own_vote (Perf p i) = running
own_vote (Throttle p i) = running
own_vote (PerfLimit p n) = running
own_vote (ThrottleLimit p n) = running

-- a child may vote so: the processor as its request says, a container as follows from some votes of its children
abbrev pub MayVote : Plan → Request → Child → Vote → Type 0
MayVote P q (Cpu p) v = v ≡ own_vote q
MayVote P q (Container n) v = (vs : List Vote) × (v ≡ node_vote P n vs)

-- the request isn't refused in every state, and begins so
abbrev pub Begins : Plan → Request → Walk → Type 0
Begins P q w = (fixed_refusal P q ≡ None) × (begins_at P q ≡ w)

-- A climb comes to a container of the plan from a child of it, and a chain has room for the states of those that may follow.
pub record ClimbsFrom (P : Plan) (q : Request) (n : ℕ) (c : Child) (v : Vote) (ss : List ℕ) : Type 0 where
  pub accepted : fixed_refusal P q ≡ None
  pub exists : n < length P.containers
  pub inside : IsIn P c
  pub parent : parent_of P c ≡ Some n
  pub voted : MayVote P q c v
  pub room : length ss + length (line_from P.containers (Some n)) ≤ 9

-- The record that comes next is one of the plan; a domain or a group is the first.
abbrev pub Stands : Plan → Request → Walk → Type 0
Stands P q (over reply ops) = Unit {0}
Stands P q (scaled d) = Begins P q (scaled d) × (d < scaled_count P)
Stands P q (grouped g) = Begins P q (grouped g) × (g < length P.groups)
Stands P q (climbing n c v ss rising) = ClimbsFrom P q n c v ss

abbrev pub WalksStand : Plan → Request → List Held → Type 0
WalksStand P q held = Stands P q (walk P q held)
