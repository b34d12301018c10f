-- What goes on from a record, and what a vote begins.
use Rattle.std.specs.Prelude.{◌≡◌, ◌≤◌, ◌+◌, ◌==◌, ◌&&◌, not, ℕ, Bool, [], None, length, if◌then◌else◌}
use Rattle.acpi_values.specs.declared.operation.Op.{Op}
use Rattle.pw_base.specs.Room.{Bounded}
use Rattle.pw_plan.specs.declared.domain.Child.TheVariants.{Container}
use Rattle.pw_plan.specs.declared.plan.Plan.{Plan}
use Rattle.pw_plan.specs.declared.request.Request.{Request}
use Rattle.pw_plan.specs.declared.request.Request.TheVariants.{Idle, Wake, Perf, Throttle, PerfLimit, ThrottleLimit}
use Rattle.pw_plan.specs.Places.{IsIn, container_at, parent_of}
use Rattle.pw_plan.specs.Requests.{Has, ops_bound}
use Rattle.pw_plan.specs.Tree.{line_from}
use Rattle.pw_model.specs.declared.state.Vote.{Vote}
use Rattle.pw_model.specs.Refusals.{fixed_refusal}
use Rattle.pw_core.specs.Chains.{states_in}
use Rattle.pw_regs.specs.Rooms.{HasRoom}
use Rattle.pw_machine.specs.Standing.{MayVote}
use Rattle.pw_machine.specs.Walk.{Walk, climb_on, climbed, chain_with}
use Rattle.pw_walker.specs.declared.place.Climb.{Climb}
use Rattle.pw_walker.specs.declared.place.Place.{Place}
use Rattle.pw_walker.specs.Places.{IsClimb, IsPlace}

-- No operation was appended yet, and there is room for those of the request.
pub record IsReady (P : Plan) (q : Request) (ops : Bounded Op) : Type 0 where
  pub has : Has P q
  pub none : ops.elements ≡ []
  pub room : HasRoom ops (ops_bound P q)

-- A climb hands on the vote of a child of the plan that may vote so, and a chain has room for the states that may follow.
pub record HandsOn (P : Plan) (q : Request) (c : Climb) : Type 0 where
  pub accepted : fixed_refusal P q ≡ None
  pub inside : IsIn P c.child
  pub voted : MayVote P q c.child c.vote
  pub room : length (states_in c.chain) + length (line_from P.containers (parent_of P c.child)) ≤ 9
  pub climb : IsClimb P q c

-- It is a place, and the room for operations is as it was.
pub record Comes (P : Plan) (q : Request) (at : Place) (before after : Bounded Op) : Type 0 where
  pub place : IsPlace P q at after.elements
  pub capacity : after.capacity ≡ before.capacity

-- the request is a vote
abbrev pub IsVote : Request → Type 0
IsVote (Idle p s t) = Unit {0}
IsVote (Wake p) = Unit {0}
IsVote (Perf p i) = ⊥
IsVote (Throttle p i) = ⊥
IsVote (PerfLimit p n) = ⊥
IsVote (ThrottleLimit p n) = ⊥

-- past container n, which votes v now, and runs before and after or doesn't
abbrev pub past : Plan → Request → ℕ → Climb → Vote → Bool → Walk
past P q n c v runs =
    let goes = c.rising && not (v.state == 0) in
    if runs then climbed P q (chain_with goes (states_in c.chain) v.state)
    else climb_on P q (Container n) v (chain_with goes (states_in c.chain) v.state) goes (container_at P n).parent
