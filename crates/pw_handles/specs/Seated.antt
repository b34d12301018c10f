-- What calls on handles of seats come to.
use Rattle.std.specs.Prelude.{◌≡◌, ℕ, true, Result, Err}
use Rattle.pw_embed.specs.declared.status.Status.{Status}
use Rattle.pw_embed.specs.declared.status.Status.TheVariants.{Kind}
use Rattle.pw_embed.specs.declared.seat.Seat.{Seat}
use Rattle.pw_embed.specs.Seats.{AreOfOneSeat, JoinsSeats, OpensSeat, SplitsOff}
use Rattle.pw_handles.specs.declared.handle.Handle.{Handle}
use Rattle.pw_handles.specs.declared.kept.Kept.{Kept}
use Rattle.pw_handles.specs.declared.kept.Kept.TheVariants as kept
use Rattle.pw_handles.specs.Handled.{BecomesBy, Handled, JoinedAs, JoinsFrom, OpensFrom, SplitsFrom}

unfoldable pub AtSeat : Kept → Kept → Status → Type 0 → (Seat → Seat → Status → Type 0) → Type 0
AtSeat (kept.Seat t) k s same P = (u : Seat) × (k ≡ kept.Seat u) × P t u s
AtSeat old k s same P = (k ≡ old) × (s ≡ Kind) × same

-- A call on the handle of a seat, as OnMachine.
abbrev pub OnSeat : Handle → Handle → Status → Type 0 → (Seat → Seat → Status → Type 0) → Type 0
OnSeat h i s same P = Handled h.place.full h.place.value i.place.full i.place.value s same (λ k l t. AtSeat k l t same P)

abbrev pub OpensSeatOf : Handle → Handle → ℕ → Handle → Status → Type 0
OpensSeatOf h machine entries i s =
    OpensFrom kept.Seat (λ m r. OpensSeat m entries r) h.place.full h.place.value machine.place.full machine.place.value i.place.full
    i.place.value s

-- # Splits

-- a seat that is kept gives parts to another
unfoldable pub OfSplit : Kept → ℕ → Kept → Result Seat Status → Type 0
OfSplit (kept.Seat t) parts k r = (u : Seat) × (k ≡ kept.Seat u) × SplitsOff t parts u r
OfSplit old parts k r = (k ≡ old) × (r ≡ Err Kind)

-- a closed handle is opened for the seat that is made
abbrev pub Becomes : Handle → Handle → Result Seat Status → Status → Type 0
Becomes h i r s = BecomesBy kept.Seat r i.place.full i.place.value s

-- another handle is opened for the new seat
abbrev pub SplitsTo : Handle → Handle → ℕ → Handle → Handle → Status → Type 0
SplitsTo h other parts i other' s =
    SplitsFrom kept.Seat (λ k l r. OfSplit k parts l r) h.place.full h.place.value i.place.full i.place.value other.place.full
    other.place.value other'.place.full other'.place.value s

-- # Joins

abbrev pub OweOneKept : Kept → Kept → Type 0
OweOneKept a b = (s t : Seat) → a ≡ kept.Seat s → b ≡ kept.Seat t → AreOfOneSeat s t

-- what the caller owes: open handles of seats are of one coordinator
abbrev pub OweOneCoordinator : Handle → Handle → Type 0
OweOneCoordinator h i = h.place.full ≡ true → i.place.full ≡ true → OweOneKept h.place.value i.place.value

unfoldable pub JoinsKept : Kept → Kept → Kept → Kept → Status → Type 0
JoinsKept (kept.Seat t) (kept.Seat u) new other s =
    (r : Result Seat (Seat × Seat)) × JoinsSeats t u r × JoinedAs kept.Seat Kind r new other s
JoinsKept a b new other s = (new ≡ a) × (other ≡ b) × (s ≡ Kind)

abbrev pub JoinsTo : Handle → Handle → Handle → Handle → Status → Type 0
JoinsTo h other i other' s =
    JoinsFrom JoinsKept h.place.full h.place.value i.place.full i.place.value other.place.full other.place.value other'.place.full
    other'.place.value s
