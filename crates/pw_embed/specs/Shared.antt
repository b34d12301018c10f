-- What calls on a seat of a shared coordinator come to.
use Rattle.std.specs.Prelude.{◌≡◌, ◌<◌, ℕ, List, [], Bool, true, false, Option, Some, None, Result, Ok, Err, length}
use Rattle.std.specs.Arc.{arc_value}
use Rattle.acpi_values.specs.declared.operation.Op.{Op}
use Rattle.pw_base.specs.Room.{Bounded}
use Rattle.pw_plan.specs.declared.plan.Plan.{Plan}
use Rattle.pw_plan.specs.declared.request.Request.{Request}
use Rattle.pw_plan.specs.Requests.{Has}
use Rattle.pw_model.specs.Operations.{opening_ops}
use Rattle.pw_model.specs.Records.{record_count}
use Rattle.pw_machine.specs.declared.view.View.{View}
use Rattle.pw_machine.specs.Machine.{Given}
use Rattle.pw_rule.specs.Rule.{given_of, promise_of}
use Rattle.pw_turns.specs.declared.coordinator.Coordinator.{Coordinator}
use Rattle.pw_turns.specs.declared.keeping.Keeps.{Ghosts as Keeps}
use Rattle.pw_turns.specs.declared.keeping.Kept.{Kept}
use Rattle.pw_turns.specs.declared.requests.Try.{Try}
use Rattle.pw_turns.specs.declared.seats.SplitFault.TheVariants.{Many}
use Rattle.pw_turns.specs.declared.close.Closed.{Closed}
use Rattle.pw_turns.specs.Ends.{Ends}
use Rattle.pw_turns.specs.Listed.{Lists}
use Rattle.pw_turns.specs.Looks.{IsJoin}
use Rattle.pw_turns.specs.Opens.{opened_view}
use Rattle.pw_turns.specs.Splits.{IsSplit}
use Rattle.pw_turns.specs.Told.{Told}
use Rattle.pw_turns.specs.Views.{view_in}
use Rattle.pw_turns.specs.Went.{Went, own_in}
use Rattle.pw_embed.specs.declared.replies.ReplyNumbers.{ReplyNumbers}
use Rattle.pw_embed.specs.declared.requests.RequestNumbers.{RequestNumbers}
use Rattle.pw_embed.specs.declared.status.Status.{Status}
use Rattle.pw_embed.specs.declared.status.Status.TheVariants as statuses
use Rattle.pw_embed.specs.Requests.{request_in}
use Rattle.pw_embed.specs.declared.registers.NoRegisters.{NoRegisters}
use Rattle.pw_embed.specs.Registers.{by_none}
use Rattle.pw_embed.specs.Told.{is_answer, reply_after, status_of}
use Rattle.pw_embed.specs.declared.sharing.SeatFacts.{SeatFacts}
use Rattle.pw_embed.specs.declared.sharing.Sharing.{Sharing}

-- # What is shared

-- it keeps the entries of its history
abbrev pub keeps_all : Keeps Kept
keeps_all = record { most = 65536 }

abbrev pub coordinator_of : Sharing → Coordinator NoRegisters Kept keeps_all
coordinator_of s = arc_value s.coordinator

abbrev pub plan_of : Sharing → Plan
plan_of s = (coordinator_of s).plan

-- what the coordinator was given
abbrev pub given_to : Sharing → Given
given_to s = given_of by_none (coordinator_of s).table.shared.key

-- what the seat has seen and called
abbrev pub view_of : Sharing → View
view_of s = view_in s.seat.badge.views

-- # The start

-- The first seat of a coordinator of this plan, whose history has room for so many entries, with the operations at the start.
pub record IsFirst (P : Plan) (entries : ℕ) (s : Sharing) : Type 0 where
  pub plan : plan_of s ≡ P
  pub capacity : (given_to s).capacity ≡ entries
  pub view : view_of s ≡ opened_view 0
  pub opening : (ops : Bounded Op) × (s.opening ≡ Some ops) × (ops.elements ≡ opening_ops P)

-- # Requests

-- The seat made the request, and was told this: the history, the steps and the operations are those of what it was told.
pub record Tried (old : Sharing) (q : Request) (r : Try) (new : Sharing) : Type 0 where
  pub has : Has (plan_of old) q
  pub same : new.coordinator ≡ old.coordinator
  pub told : Told (given_to old) (view_of old) q r (view_of new)
  pub steps : Went false (record_count (plan_of old)) (view_of old).number q r (own_in old.seat.badge.views) (own_in new.seat.badge.views)
  pub lists : Lists (given_to old) (view_of old).number q r (view_of new).seen new.seat.ops.elements
  pub opening : new.opening ≡ None
  pub answered : new.answered ≡ is_answer r

-- The request that the numbers ask for was made, and the status and the reply's numbers are those of what was told; or they ask for none of
-- the plan's processors, and nothing changed.
pub data Asked (old : Sharing) (a : RequestNumbers) (reply : ReplyNumbers) (new : Sharing) (reply' : ReplyNumbers)
    (s : Status) : Type 0 where
  asked : (q : Request) (r : Try) → request_in a ≡ Some q → Tried old q r new → reply' ≡ reply_after reply r → s ≡ status_of r
      → Asked old a reply new reply' s
  nothing_asked : ((q : Request) → request_in a ≡ Some q → Has (plan_of old) q → ⊥) → new ≡ old → reply' ≡ reply → s ≡ statuses.Range
      → Asked old a reply new reply' s

-- the operations of the last request, and its number in the history; those at the start, number 0; or none
abbrev pub listed_where : Bool → Sharing → List Op × ℕ
listed_where true s = (s.seat.ops.elements, length (view_of s).seen)
listed_where false s = ([], 0)

abbrev pub listed_by : Option (Bounded Op) → Sharing → List Op × ℕ
listed_by None s = listed_where s.answered s
listed_by (Some ops) s = (ops.elements, 0)

abbrev pub listed : Sharing → List Op × ℕ
listed s = listed_by s.opening s

-- what the seat knows
abbrev pub facts_of : Sharing → SeatFacts
facts_of s = record { number = (view_of s).number; parts = (view_of s).parts; seen = length (view_of s).seen }

-- # Splits and joins

-- what a call on the seat alone keeps
abbrev pub KeepsRest : Sharing → Sharing → Type 0
KeepsRest old new = (new.coordinator ≡ old.coordinator) × (new.opening ≡ old.opening) × (new.answered ≡ old.answered)

abbrev pub KeepsAll : Sharing → Sharing → Type 0
KeepsAll old new = KeepsRest old new × (new.seat ≡ old.seat)

-- A new seat has so many of the parts; or there are no such parts to give, no memory, or no number for one more.
unfoldable pub Splits : Sharing → ℕ → Sharing → Result Sharing Status → Type 0
Splits old parts new (Ok other) =
    (0 < parts) × (parts < (view_of old).parts) × KeepsRest old new × (coordinator_of other ≡ coordinator_of old)
    × (other.opening ≡ None) × (other.answered ≡ false)
    × IsSplit old.seat parts (Ok other.seat) new.seat (coordinator_of old).table.shared.table_id
Splits old parts new (Err statuses.Range) = (0 < parts → parts < (view_of old).parts → ⊥) × KeepsAll old new
Splits old parts new (Err statuses.NoMemory) = KeepsAll old new
Splits old parts new (Err statuses.Numbers) =
    IsSplit old.seat parts (Err (Many 65536)) new.seat (coordinator_of old).table.shared.table_id × KeepsRest old new
Splits old parts new (Err s) = ⊥

-- both are seats of one coordinator
abbrev pub AreOfOne : Sharing → Sharing → Type 0
AreOfOne s t = (coordinator_of s).table.shared.table_id ≡ (coordinator_of t).table.shared.table_id

-- one seat that has what both had
pub record Joins (old other new : Sharing) : Type 0 where
  pub rest : KeepsRest old new
  pub joined : IsJoin (view_of old) (view_of other) (view_of new)

-- # The end

-- the seat had all parts, and this is left of its coordinator
pub record IsEnded (s : Sharing) (closed : Closed NoRegisters) : Type 0 where
  pub alone : (view_of s).parts ≡ 65536
  pub plan : closed.sealed.plan ≡ plan_of s
  pub ends : Ends by_none (promise_of by_none (coordinator_of s).table.shared.key) (given_to s) (view_of s) closed.sealed.entries
      closed.regs
