-- Where a request stands among its records, as a walk, and what is so of it wherever it stands.
use Rattle.std.specs.Prelude.{◌≡◌, ◌≤◌, ◌++◌, ℕ, List, [], length, if◌then◌else◌}
use Rattle.acpi_values.specs.Idle.{rows_of}
use Rattle.acpi_values.specs.declared.operation.Op.{Op}
use Rattle.pw_plan.specs.declared.plan.Plan.{Plan}
use Rattle.pw_plan.specs.declared.request.Request.{Request}
use Rattle.pw_plan.specs.declared.request.Request.TheVariants.{Idle, Wake, Perf, Throttle, PerfLimit, ThrottleLimit}
use Rattle.pw_plan.specs.Places.{parent_of, table_of}
use Rattle.pw_plan.specs.Requests.{Has}
use Rattle.pw_plan.specs.Tree.{line_from}
use Rattle.pw_model.specs.States.{IsProper}
use Rattle.pw_core.specs.Chains.{AreStates, AreStatesOf, IsChain, states_in}
use Rattle.pw_machine.specs.Walk.{Walk, climbing, grouped, over, scaled}
use Rattle.pw_machine.specs.Standing.{Stands}
use Rattle.pw_walker.specs.declared.place.Climb.{Climb}
use Rattle.pw_walker.specs.declared.place.Place.{Place}
use Rattle.pw_walker.specs.declared.place.Place.TheVariants.{Over, Scaled, Grouped, Climbing}

-- The walk that stands there; these are the operations so far.
abbrev pub walk_of : Place → List Op → Walk
walk_of (Over reply) ops = over reply ops
walk_of (Scaled d) ops = scaled d
walk_of (Grouped g) ops = grouped g
walk_of (Climbing n c) ops = climbing n c.child c.vote (states_in c.chain) c.rising

-- the containers whose states may still be added to those of a climb
abbrev pub ahead : Plan → Climb → List ℕ
ahead P c = if c.rising then line_from P.containers (parent_of P c.child) else []

-- these states of an idle request's processor and its containers, with any states of those ahead, are states of theirs in order
abbrev pub AreStatesUpTo : Plan → Request → List ℕ → List ℕ → Type 0
AreStatesUpTo P (Idle p s t) ss ns = (more : List ℕ) → AreStates P ns more → AreStatesOf P p (ss ++ more)
AreStatesUpTo P (Wake p) ss ns = Unit {0}
AreStatesUpTo P (Perf p i) ss ns = Unit {0}
AreStatesUpTo P (Throttle p i) ss ns = Unit {0}
AreStatesUpTo P (PerfLimit p n) ss ns = Unit {0}
AreStatesUpTo P (ThrottleLimit p n) ss ns = Unit {0}

-- The child's vote is one of its table, and the chain is one of the request's processor, as far as it has come.
pub record IsClimb (P : Plan) (q : Request) (c : Climb) : Type 0 where
  pub state : c.vote.state ≤ length (rows_of (table_of P c.child))
  pub proper : IsProper c.vote
  pub chain : IsChain c.chain
  pub states : AreStatesUpTo P q (states_in c.chain) (ahead P c)

abbrev pub ClimbsThere : Plan → Request → Place → Type 0
ClimbsThere P q (Over reply) = Unit {0}
ClimbsThere P q (Scaled d) = Unit {0}
ClimbsThere P q (Grouped g) = Unit {0}
ClimbsThere P q (Climbing n c) = IsClimb P q c

-- no operation comes before all records are held
abbrev pub NoneBefore : Place → List Op → Type 0
NoneBefore (Over reply) ops = Unit {0}
NoneBefore (Scaled d) ops = ops ≡ []
NoneBefore (Grouped g) ops = ops ≡ []
NoneBefore (Climbing n c) ops = ops ≡ []

-- A request of the plan stands there, with these operations so far.
pub record IsPlace (P : Plan) (q : Request) (place : Place) (ops : List Op) : Type 0 where
  pub has : Has P q
  pub stands : Stands P q (walk_of place ops)
  pub climb : ClimbsThere P q place
  pub none : NoneBefore place ops

-- some request stands there
abbrev pub IsSomePlace : Plan → Place → Type 0
IsSomePlace P place = (q : Request) × (ops : List Op) × IsPlace P q place ops
