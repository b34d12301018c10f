-- What calls on a seat come to, also once its coordinator has ended.
use Rattle.std.specs.Prelude.{◌≡◌, ◌⊎◌, ◌<◌, ℕ, List, Some, None, Result, Ok, Err, IfErr, IfOk, length, slice_get}
use Rattle.pw_plan.specs.declared.plan.Plan.{Plan}
use Rattle.pw_plan.specs.Limits.{in_32_bits}
use Rattle.pw_model.specs.declared.entry.HistoryEntry.{HistoryEntry}
use Rattle.pw_turns.specs.declared.close.Closed.{Closed}
use Rattle.pw_embed.specs.declared.machine.Machine.{Machine}
use Rattle.pw_embed.specs.declared.machine.Machine.TheVariants as machines
use Rattle.pw_embed.specs.declared.operations.OpNumbers.{OpNumbers}
use Rattle.pw_embed.specs.declared.planned.Planned.{Planned}
use Rattle.pw_embed.specs.declared.replies.ReplyNumbers.{ReplyNumbers}
use Rattle.pw_embed.specs.declared.requests.RequestNumbers.{RequestNumbers}
use Rattle.pw_embed.specs.declared.status.Status.{Status}
use Rattle.pw_embed.specs.declared.status.Status.TheVariants as statuses
use Rattle.pw_embed.specs.Blocks.{IsPlanned, Unplanned}
use Rattle.pw_embed.specs.Operations.{Listed}
use Rattle.pw_embed.specs.declared.entries.EntryNumbers.{EntryNumbers}
use Rattle.pw_embed.specs.declared.registers.NoRegisters.{NoRegisters}
use Rattle.pw_embed.specs.declared.seat.Seat.{Seat}
use Rattle.pw_embed.specs.declared.seat.Seat.TheVariants.{Shared, Ended}
use Rattle.pw_embed.specs.declared.sharing.SeatFacts.{SeatFacts}
use Rattle.pw_embed.specs.declared.sharing.Sharing.{Sharing}
use Rattle.pw_embed.specs.Entries.{entry_numbers}
use Rattle.pw_embed.specs.Shared.{AreOfOne, Asked, IsEnded, IsFirst, Joins, Splits, facts_of, listed}

-- # The first seat

-- of the plan that the blocks make
abbrev pub IsFirstOf : Planned → ℕ → Sharing → Type 0
IsFirstOf p entries s = (P : Plan) × (notes : ℕ) × IsPlanned p.blocks P notes × IsFirst P entries s

-- there is none: too many entries, or the blocks make no plan, for this reason, or there was no memory
abbrev pub IsNoFirst : Planned → ℕ → Status → Type 0
IsNoFirst p entries s = ((65536 < entries) × (s ≡ statuses.Range)) ⊎ Unplanned p.blocks s

unfoldable pub OpensSeat : Machine → ℕ → Result Seat Status → Type 0
OpensSeat (machines.Planned p) entries r =
    IfOk r (λ seat. (s : Sharing) × (seat ≡ Shared s) × IsFirstOf p entries s) × IfErr r (IsNoFirst p entries)
OpensSeat m entries r = r ≡ Err statuses.Kind

-- # Of a seat

-- what a call on a seat comes to: once its coordinator has ended nothing changes
unfoldable pub AtShared : Seat → Seat → Status → Type 0 → (Sharing → Sharing → Status → Type 0) → Type 0
AtShared (Shared old) new s same P = (t : Sharing) × (new ≡ Shared t) × P old t s
AtShared (Ended c) new s same P = (new ≡ Ended c) × (s ≡ statuses.Kind) × same

abbrev pub Asks : Seat → RequestNumbers → ReplyNumbers → Seat → ReplyNumbers → Status → Type 0
Asks old a reply new reply' s = AtShared old new s (reply' ≡ reply) (λ t u st. Asked t a reply u reply' st)

-- the operations, how many they are, and the number of their request
unfoldable pub Lists : Seat → List OpNumbers × ℕ × ℕ → List OpNumbers × ℕ × ℕ → Status → Type 0
Lists (Shared t) old new s = Listed (listed t).0 old.0 new.0 new.1 s × (new.2 ≡ (listed t).1)
Lists (Ended c) old new s = (s ≡ statuses.Kind) × (new ≡ old)

unfoldable pub Shows : Seat → SeatFacts → SeatFacts → Status → Type 0
Shows (Shared t) old new s = (s ≡ statuses.Done) × (new ≡ facts_of t)
Shows (Ended c) old new s = (s ≡ statuses.Kind) × (new ≡ old)

abbrev pub in_seat : Result Sharing Status → Result Seat Status
in_seat (Ok s) = Ok (Shared s)
in_seat (Err s) = Err s

unfoldable pub SplitsOff : Seat → ℕ → Seat → Result Seat Status → Type 0
SplitsOff (Shared old) parts new r =
    (t : Sharing) × (new ≡ Shared t) × ((q : Result Sharing Status) × Splits old parts t q × (r ≡ in_seat q))
SplitsOff (Ended c) parts new r = (new ≡ Ended c) × (r ≡ Err statuses.Kind)

abbrev pub AreOfOneSeat : Seat → Seat → Type 0
AreOfOneSeat a b = (s t : Sharing) → a ≡ Shared s → b ≡ Shared t → AreOfOne s t

unfoldable pub JoinsSeats : Seat → Seat → Result Seat (Seat × Seat) → Type 0
JoinsSeats (Shared s) (Shared t) r = (u : Sharing) × (r ≡ Ok (Shared u)) × Joins s t u
JoinsSeats a b r = r ≡ Err (a, b)

-- # The end

unfoldable pub Seals : Seat → Seat → Status → Type 0
Seals (Shared old) new statuses.Done = (c : Closed NoRegisters) × (new ≡ Ended c) × IsEnded old c
Seals (Shared old) new s = (s ≡ statuses.Seats) × (new ≡ Shared old)
Seals (Ended c) new s = (s ≡ statuses.Kind) × (new ≡ Ended c)

unfoldable pub Counts : Seat → ℕ → ℕ → Status → Type 0
Counts (Shared t) old new s = (s ≡ statuses.Kind) × (new ≡ old)
Counts (Ended c) old new s = (s ≡ statuses.Done) × (new ≡ in_32_bits (length c.sealed.entries))

-- the entry of this index, where there is one
unfoldable pub ToldEntry : List HistoryEntry → ℕ → EntryNumbers → EntryNumbers → Status → Type 0
ToldEntry entries i old new statuses.Done = (e : HistoryEntry) × (slice_get entries i ≡ Some e) × (new ≡ entry_numbers e)
ToldEntry entries i old new statuses.Range = (slice_get entries i ≡ None) × (new ≡ old)
ToldEntry entries i old new s = ⊥

unfoldable pub TellsEntry : Seat → ℕ → EntryNumbers → EntryNumbers → Status → Type 0
TellsEntry (Shared t) i old new s = (s ≡ statuses.Kind) × (new ≡ old)
TellsEntry (Ended c) i old new s = ToldEntry c.sealed.entries i old new s
