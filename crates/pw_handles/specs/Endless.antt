-- What calls on handles of seats of coordinators without end come to.
use Rattle.std.specs.Prelude.{◌≡◌, ℕ, true, Result, Err}
use Rattle.pw_embed.specs.declared.endless.Endless.{Endless}
use Rattle.pw_embed.specs.declared.status.Status.{Status}
use Rattle.pw_embed.specs.declared.status.Status.TheVariants.{Begun, Kind}
use Rattle.pw_embed.specs.Endless.{AreOfOneSeat, JoinsSeats, OpensEndless, SplitsOff}
use Rattle.pw_handles.specs.declared.handle.Handle.{Handle}
use Rattle.pw_handles.specs.declared.kept.Kept.{Kept}
use Rattle.pw_handles.specs.declared.kept.Kept.TheVariants as kept
use Rattle.pw_handles.specs.Handled.{BecomesBy, Handled, JoinedAs, JoinsFrom, OpensFrom, SplitsFrom}

unfoldable pub AtEndless : Kept → Kept → Status → Type 0 → (Endless → Endless → Status → Type 0) → Type 0
AtEndless (kept.Endless t) k s same P = (u : Endless) × (k ≡ kept.Endless u) × P t u s
AtEndless old k s same P = (k ≡ old) × (s ≡ Kind) × same

-- A call on its handle, as OnMachine.
abbrev pub OnEndless : Handle → Handle → Status → Type 0 → (Endless → Endless → Status → Type 0) → Type 0
OnEndless h i s same P = Handled h.place.full h.place.value i.place.full i.place.value s same (λ k l t. AtEndless k l t same P)

abbrev pub OpensEndlessOf : Handle → Handle → Handle → Status → Type 0
OpensEndlessOf h machine i s =
    OpensFrom kept.Endless OpensEndless h.place.full h.place.value machine.place.full machine.place.value i.place.full i.place.value s

-- # What callers owe

abbrev pub OwesOne : Kept → Kept → Type 0
OwesOne a b = (s t : Endless) → a ≡ kept.Endless s → b ≡ kept.Endless t → AreOfOneSeat s t

-- open handles of such seats are of one coordinator
abbrev pub OweOneEndless : Handle → Handle → Type 0
OweOneEndless h i = h.place.full ≡ true → i.place.full ≡ true → OwesOne h.place.value i.place.value

-- # Splits

-- a seat that is kept gives parts to another
unfoldable pub OfSplit : Kept → ℕ → Kept → Result Endless Status → Type 0
OfSplit (kept.Endless t) parts k r = (u : Endless) × (k ≡ kept.Endless u) × SplitsOff t parts u r
OfSplit old parts k r = (k ≡ old) × (r ≡ Err Kind)

-- a closed handle is opened for the seat that is made
abbrev pub Becomes : Handle → Handle → Result Endless Status → Status → Type 0
Becomes h i r s = BecomesBy kept.Endless r i.place.full i.place.value s

-- another handle is opened for the new seat
abbrev pub SplitsEndless : Handle → Handle → ℕ → Handle → Handle → Status → Type 0
SplitsEndless h other parts i other' s =
    SplitsFrom kept.Endless (λ k l r. OfSplit k parts l r) h.place.full h.place.value i.place.full i.place.value other.place.full
    other.place.value other'.place.full other'.place.value s

-- # Joins

unfoldable pub JoinsKept : Kept → Kept → Kept → Kept → Status → Type 0
JoinsKept (kept.Endless t) (kept.Endless u) new other s =
    (r : Result Endless (Endless × Endless)) × JoinsSeats t u r × JoinedAs kept.Endless Begun r new other s
JoinsKept a b new other s = (new ≡ a) × (other ≡ b) × (s ≡ Kind)

abbrev pub JoinsEndless : Handle → Handle → Handle → Handle → Status → Type 0
JoinsEndless h other i other' s =
    JoinsFrom JoinsKept h.place.full h.place.value i.place.full i.place.value other.place.full other.place.value other'.place.full
    other'.place.value s
