-- What calls on a seat of a coordinator without end come to, between its requests and within one.
use Rattle.std.specs.Prelude.{◌≡◌, ◌<◌, ℕ, List, [], true, false, Option, Some, None, Result, Ok, Err, length}
use Rattle.std.specs.Arc.{arc_value}
use Rattle.acpi_values.specs.declared.operation.Op.{Op}
use Rattle.pw_base.specs.Room.{Bounded}
use Rattle.pw_plan.specs.declared.plan.Plan.{Plan}
use Rattle.pw_plan.specs.declared.request.Request.{Request}
use Rattle.pw_plan.specs.Requests.{Has}
use Rattle.pw_model.specs.Operations.{opening_ops}
use Rattle.pw_model.specs.Records.{record_count}
use Rattle.pw_machine.specs.declared.view.View.{View}
use Rattle.pw_machine.specs.Machine.{Given}
use Rattle.pw_rule.specs.Rule.{given_of, promise_of}
use Rattle.pw_turns.specs.declared.requests.Try.{Try}
use Rattle.pw_turns.specs.declared.seats.SplitFault.TheVariants.{Many}
use Rattle.pw_turns.specs.Begun.{MakesNone}
use Rattle.pw_turns.specs.Looks.{IsJoin}
use Rattle.pw_turns.specs.Opens.{IsOpened}
use Rattle.pw_turns.specs.Splits.{IsSplit}
use Rattle.pw_turns.specs.Told.{Told}
use Rattle.pw_turns.specs.TwoSteps.{BeginTells, Finishes, IsBegun}
use Rattle.pw_turns.specs.Views.{view_in}
use Rattle.pw_turns.specs.Went.{Began, Went, own_in}
use Rattle.pw_embed.specs.declared.ongoing.Ongoing.{Ongoing}
use Rattle.pw_embed.specs.declared.resting.Resting.{Resting}
use Rattle.pw_embed.specs.declared.sharing.SeatFacts.{SeatFacts}
use Rattle.pw_embed.specs.declared.status.Status.{Status}
use Rattle.pw_embed.specs.declared.status.Status.TheVariants as statuses
use Rattle.pw_embed.specs.Reporting.{BeganAt, ByWord, by_word, nothing_done}

-- # What is shared

abbrev pub coordinator_of : Resting → ByWord
coordinator_of r = arc_value r.coordinator

abbrev pub coordinator_in : Ongoing → ByWord
coordinator_in o = arc_value o.coordinator

abbrev pub plan_of : Resting → Plan
plan_of r = (coordinator_of r).plan

-- what the coordinator was given
abbrev pub given_to : Resting → Given
given_to r = given_of by_word (coordinator_of r).table.shared.key

-- what the seat has seen and called
abbrev pub view_of : Resting → View
view_of r = view_in r.seat.badge.views

-- # The start

-- The first seat of a coordinator of this plan, whose history may have as many entries as 64 bits count, with the operations at the start.
pub record IsFirst (P : Plan) (r : Resting) : Type 0 where
  pub plan : plan_of r ≡ P
  pub given : given_to r ≡ record { plan = P; capacity = 18446744073709551615; ops = []; count = 0 }
  pub told : (promise_of by_word (coordinator_of r).table.shared.key).told ≡ true
  pub view : IsOpened by_word P nothing_done (view_of r)
  pub opening : (ops : Bounded Op) × (r.opening ≡ Some ops) × (ops.elements ≡ opening_ops P)

-- # A request that begins

-- It has all its turns, taken by this seat, and its reply and operations are those of the history to which it is to be added.
pub record HasBegun (old : Resting) (q : Request) (o : Ongoing) : Type 0 where
  pub has : Has (plan_of old) q
  pub same : o.coordinator ≡ old.coordinator
  pub request : o.begun.request ≡ q
  pub begun : IsBegun by_word (coordinator_of old).table.shared.key (coordinator_of old).table.shared.table_id (view_of old) o.begun
  pub tells : BeginTells (plan_of old) (view_of old) o.begun
  pub steps : Began false q (own_in old.seat.badge.views) o.begun.raw.me.0.own

-- It was told this, made no entry, and the seat has all turns given back.
pub record HasNotBegun (old : Resting) (q : Request) (t : Try) (new : Resting) : Type 0 where
  pub has : Has (plan_of old) q
  pub same : new.coordinator ≡ old.coordinator
  pub none : MakesNone t
  pub told : Told (given_to old) (view_of old) q t (view_of new)
  pub steps : Went false (record_count (plan_of old)) (view_of old).number q t (own_in old.seat.badge.views) (own_in new.seat.badge.views)
  pub opening : new.opening ≡ old.opening

-- # A request that is finished

-- it began at a seat of its coordinator
abbrev pub BeganHere : Ongoing → Type 0
BeganHere o = BeganAt (coordinator_in o) o.begun

-- what a caller says who did so many operations of so many: that all were done, or that a register failed then
unfoldable pub Says : ℕ → ℕ → Result Unit ℕ → Type 0
Says done most (Ok unit) = done ≡ most
Says done most (Err k) = (k ≡ done) × (done < most)

-- The entry stands behind the history, as the caller said, and the seat has all turns given back.
pub record IsFinished (o : Ongoing) (done : ℕ) (r : Resting) : Type 0 where
  pub said : Result Unit ℕ
  pub says : Says done (length o.begun.ops.elements) said
  pub same : r.coordinator ≡ o.coordinator
  pub opening : r.opening ≡ None
  pub told : Try
  pub finishes : Finishes by_word (coordinator_in o).table.shared.key (coordinator_in o).table.shared.table_id o.begun said r.seat r.room
      told

-- # Lists and facts

-- the operations at the start, of the first seat before a request of it begins
abbrev pub opening_in : Option (Bounded Op) → List Op
opening_in None = []
opening_in (Some ops) = ops.elements

-- what the seat knows
abbrev pub facts_of : Resting → SeatFacts
facts_of r = record { number = (view_of r).number; parts = (view_of r).parts; seen = length (view_of r).seen }

-- # Splits and joins

-- what a call on the seat alone keeps
abbrev pub KeepsRest : Resting → Resting → Type 0
KeepsRest old new = (new.coordinator ≡ old.coordinator) × (new.room ≡ old.room) × (new.opening ≡ old.opening)

abbrev pub KeepsAll : Resting → Resting → Type 0
KeepsAll old new = KeepsRest old new × (new.seat ≡ old.seat)

-- A new seat has so many of the parts; or there are no such parts to give, no memory, or no number for one more.
unfoldable pub Splits : Resting → ℕ → Resting → Result Resting Status → Type 0
Splits old parts new (Ok other) =
    (0 < parts) × (parts < (view_of old).parts) × KeepsRest old new × (coordinator_of other ≡ coordinator_of old)
    × (other.opening ≡ None)
    × IsSplit old.seat parts (Ok other.seat) new.seat (coordinator_of old).table.shared.table_id
Splits old parts new (Err statuses.Range) = (0 < parts → parts < (view_of old).parts → ⊥) × KeepsAll old new
Splits old parts new (Err statuses.NoMemory) = KeepsAll old new
Splits old parts new (Err statuses.Numbers) =
    IsSplit old.seat parts (Err (Many 65536)) new.seat (coordinator_of old).table.shared.table_id × KeepsRest old new
Splits old parts new (Err s) = ⊥

-- both are seats of one coordinator
abbrev pub AreOfOne : Resting → Resting → Type 0
AreOfOne r s = (coordinator_of r).table.shared.table_id ≡ (coordinator_of s).table.shared.table_id

-- one seat that has what both had
pub record Joins (old other new : Resting) : Type 0 where
  pub rest : KeepsRest old new
  pub joined : IsJoin (view_of old) (view_of other) (view_of new)
