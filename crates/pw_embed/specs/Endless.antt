-- What calls on a seat of a coordinator without end come to, whether or not it has begun a request.
use Rattle.std.specs.Prelude.{◌≡◌, ◌⊎◌, ◌<◌, ℕ, Bool, true, false, List, Some, Result, Ok, Err, IfErr, IfOk, length}
use Rattle.acpi_values.specs.declared.operation.Op.{Op}
use Rattle.pw_plan.specs.declared.plan.Plan.{Plan}
use Rattle.pw_plan.specs.declared.request.Request.{Request}
use Rattle.pw_plan.specs.Requests.{Has}
use Rattle.pw_turns.specs.declared.requests.Try.{Try}
use Rattle.pw_embed.specs.declared.endless.Endless.{Endless}
use Rattle.pw_embed.specs.declared.endless.Endless.TheVariants as seats
use Rattle.pw_embed.specs.declared.machine.Machine.{Machine}
use Rattle.pw_embed.specs.declared.machine.Machine.TheVariants as machines
use Rattle.pw_embed.specs.declared.ongoing.Ongoing.{Ongoing}
use Rattle.pw_embed.specs.declared.planned.Planned.{Planned}
use Rattle.pw_embed.specs.declared.replies.ReplyNumbers.{ReplyNumbers}
use Rattle.pw_embed.specs.declared.requests.RequestNumbers.{RequestNumbers}
use Rattle.pw_embed.specs.declared.resting.Resting.{Resting}
use Rattle.pw_embed.specs.declared.sharing.SeatFacts.{SeatFacts}
use Rattle.pw_embed.specs.declared.status.Status.{Status}
use Rattle.pw_embed.specs.declared.status.Status.TheVariants as statuses
use Rattle.pw_embed.specs.Blocks.{IsPlanned, Unplanned}
use Rattle.pw_embed.specs.Replies.{numbers_of}
use Rattle.pw_embed.specs.Requests.{request_in}
use Rattle.pw_embed.specs.Resting.{AreOfOne, HasBegun, HasNotBegun, IsFinished, IsFirst, Joins, Splits, facts_of, opening_in, plan_of}
use Rattle.pw_embed.specs.Told.{status_of}

-- # The first seat

-- of the plan that the blocks make
abbrev pub IsFirstOf : Planned → Resting → Type 0
IsFirstOf p r = (P : Plan) × (notes : ℕ) × IsPlanned p.blocks P notes × IsFirst P r

-- There is none: a register failed at an operation of the start, or the blocks make no plan, for this reason, or there was no memory.
abbrev pub IsNoFirst : Planned → Status → Type 0
IsNoFirst p s = (s ≡ statuses.Stopped) ⊎ Unplanned p.blocks s

unfoldable pub OpensEndless : Machine → Result Endless Status → Type 0
OpensEndless (machines.Planned p) r =
    IfOk r (λ e. (f : Resting) × (e ≡ seats.Resting f) × IsFirstOf p f) × IfErr r (IsNoFirst p)
OpensEndless m r = r ≡ Err statuses.Kind

-- # Requests

-- The request that the numbers ask for has begun, and the reply's numbers are those of what it is answered once it is finished; or it
-- was told another thing, or the numbers ask for none of the plan's processors, and the seat is as before.
pub data Begins (old : Resting) (a : RequestNumbers) (reply : ReplyNumbers) (new : Endless) (reply' : ReplyNumbers)
    (s : Status) : Type 0 where
  begun : (q : Request) (o : Ongoing) → request_in a ≡ Some q → HasBegun old q o → new ≡ seats.Ongoing o
      → reply' ≡ numbers_of o.begun.reply → s ≡ statuses.Done → Begins old a reply new reply' s
  not_begun : (q : Request) (t : Try) (r : Resting) → request_in a ≡ Some q → HasNotBegun old q t r → new ≡ seats.Resting r
      → reply' ≡ reply → s ≡ status_of t → Begins old a reply new reply' s
  nothing_asked : ((q : Request) → request_in a ≡ Some q → Has (plan_of old) q → ⊥) → new ≡ seats.Resting old → reply' ≡ reply
      → s ≡ statuses.Range → Begins old a reply new reply' s

unfoldable pub BeginsAt : Endless → RequestNumbers → ReplyNumbers → Endless → ReplyNumbers → Status → Type 0
BeginsAt (seats.Resting r) a reply new reply' s = Begins r a reply new reply' s
BeginsAt (seats.Ongoing o) a reply new reply' s = (new ≡ seats.Ongoing o) × (reply' ≡ reply) × (s ≡ statuses.Begun)

-- it is finished, with so many of its operations done; or it has fewer
unfoldable pub Ends : Ongoing → ℕ → Endless → Status → Type 0
Ends o done new statuses.Done = (r : Resting) × (new ≡ seats.Resting r) × IsFinished o done r
Ends o done new statuses.Range = (length o.begun.ops.elements < done) × (new ≡ seats.Ongoing o)
Ends o done new s = ⊥

unfoldable pub EndsAt : Endless → ℕ → Endless → Status → Type 0
EndsAt (seats.Resting r) done new s = (new ≡ seats.Resting r) × (s ≡ statuses.NotBegun)
EndsAt (seats.Ongoing o) done new s = Ends o done new s

abbrev pub is_begun : Endless → Bool
is_begun (seats.Resting r) = false
is_begun (seats.Ongoing o) = true

-- # Lists and facts

-- the operations of the request that has begun; those at the start; or none
abbrev pub listed : Endless → List Op
listed (seats.Resting r) = opening_in r.opening
listed (seats.Ongoing o) = o.begun.ops.elements

unfoldable pub Shows : Endless → SeatFacts → SeatFacts → Status → Type 0
Shows (seats.Resting r) old new s = (s ≡ statuses.Done) × (new ≡ facts_of r)
Shows (seats.Ongoing o) old new s = (s ≡ statuses.Begun) × (new ≡ old)

-- # Splits and joins

abbrev pub in_seat : Result Resting Status → Result Endless Status
in_seat (Ok r) = Ok (seats.Resting r)
in_seat (Err s) = Err s

unfoldable pub SplitsOff : Endless → ℕ → Endless → Result Endless Status → Type 0
SplitsOff (seats.Resting old) parts new r =
    (t : Resting) × (new ≡ seats.Resting t) × ((q : Result Resting Status) × Splits old parts t q × (r ≡ in_seat q))
SplitsOff (seats.Ongoing o) parts new r = (new ≡ seats.Ongoing o) × (r ≡ Err statuses.Begun)

abbrev pub AreOfOneSeat : Endless → Endless → Type 0
AreOfOneSeat a b = (r s : Resting) → a ≡ seats.Resting r → b ≡ seats.Resting s → AreOfOne r s

unfoldable pub JoinsSeats : Endless → Endless → Result Endless (Endless × Endless) → Type 0
JoinsSeats (seats.Resting s) (seats.Resting t) r = (u : Resting) × (r ≡ Ok (seats.Resting u)) × Joins s t u
JoinsSeats a b r = r ≡ Err (a, b)
