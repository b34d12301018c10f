-- What calls on handles come to.
use Rattle.std.specs.Prelude.{◌≡◌, ◌⊎◌, Bool, true, false, Result, Ok, Err}
use Rattle.pw_embed.specs.declared.cppc.Cppc.{Cppc}
use Rattle.pw_embed.specs.declared.machine.Machine.{Machine}
use Rattle.pw_embed.specs.declared.status.Status.{Status}
use Rattle.pw_embed.specs.declared.status.Status.TheVariants.{Begun, Closed, Done, Kind, NoMemory, Open}
use Rattle.pw_embed.specs.Endless.{is_begun}
use Rattle.pw_embed.specs.Machines.{Steers}
use Rattle.pw_handles.specs.declared.handle.Handle.{Handle}
use Rattle.pw_handles.specs.declared.kept.Kept.{Kept}
use Rattle.pw_handles.specs.declared.kept.Kept.TheVariants as kept

-- # One handle

-- what a call on what a handle keeps comes to: a closed one stays so, and answers that
unfoldable pub Handled : Bool → Kept → Bool → Kept → Status → Type 0 → (Kept → Kept → Status → Type 0) → Type 0
Handled false old full new s same P = (full ≡ false) × (s ≡ Closed) × same
Handled true old full new s same P = (full ≡ true) × P old new s

-- what a call on a machine comes to: what is kept besides stays as it was
unfoldable pub AtMachine : Kept → Kept → Status → Type 0 → (Machine → Machine → Status → Type 0) → Type 0
AtMachine (kept.Machine m) k s same P = (n : Machine) × (k ≡ kept.Machine n) × P m n s
AtMachine old k s same P = (k ≡ old) × (s ≡ Kind) × same

-- A call on the handle of a machine: this comes of the machine; or the handle is closed or another's, and nothing changes.
abbrev pub OnMachine : Handle → Handle → Status → Type 0 → (Machine → Machine → Status → Type 0) → Type 0
OnMachine h i s same P = Handled h.place.full h.place.value i.place.full i.place.value s same (λ k l t. AtMachine k l t same P)

-- a closed handle is opened for this, or stays closed for want of memory
unfoldable pub Filled : Bool → Kept → Status → (Kept → Type 0) → Type 0
Filled full new Done P = (full ≡ true) × P new
Filled full new NoMemory P = full ≡ false
Filled full new _ P = ⊥

abbrev pub Opened : Handle → Handle → Status → (Kept → Type 0) → Type 0
Opened h i s P = Filled i.place.full i.place.value s P

-- a handle is opened for this; or it was open, and stays so
unfoldable pub OpenedBy : Bool → Kept → Bool → Kept → Status → (Kept → Type 0) → Type 0
OpenedBy true old full new s P = (full ≡ true) × (new ≡ old) × (s ≡ Open)
OpenedBy false old full new s P = Filled full new s P

abbrev pub Opens : Handle → Handle → Status → (Kept → Type 0) → Type 0
Opens h i s P = OpenedBy h.place.full h.place.value i.place.full i.place.value s P

-- what is kept is a seat that has begun a request
abbrev pub has_begun : Kept → Bool
has_begun (kept.Endless e) = is_begun e
has_begun k = false

-- a handle that has begun a request stays open; any other is closed, or was
unfoldable pub ClosedBy : Bool → Bool → Kept → Bool → Kept → Status → Type 0
ClosedBy false begun old full new s = (full ≡ false) × (s ≡ Closed)
ClosedBy true false old full new s = (full ≡ false) × (s ≡ Done)
ClosedBy true true old full new s = (full ≡ true) × (new ≡ old) × (s ≡ Begun)

abbrev pub Closes : Handle → Handle → Status → Type 0
Closes h i s = ClosedBy h.place.full (has_begun h.place.value) h.place.value i.place.full i.place.value s

-- # A coordinator by `_CPC`

unfoldable pub AtCppc : Kept → Kept → Status → Type 0 → (Cppc → Cppc → Status → Type 0) → Type 0
AtCppc (kept.Cppc c) k s same P = (d : Cppc) × (k ≡ kept.Cppc d) × P c d s
AtCppc old k s same P = (k ≡ old) × (s ≡ Kind) × same

-- A call on its handle, as OnMachine.
abbrev pub OnCppc : Handle → Handle → Status → Type 0 → (Cppc → Cppc → Status → Type 0) → Type 0
OnCppc h i s same P = Handled h.place.full h.place.value i.place.full i.place.value s same (λ k l t. AtCppc k l t same P)

-- # What is opened from a machine

-- an open handle keeps what it has, and a closed one stays closed
unfoldable pub KeptBy : Bool → Kept → Bool → Kept → Type 0
KeptBy true old full new = (full ≡ true) × (new ≡ old)
KeptBy false old full new = full ≡ false

abbrev pub KeptSo : Handle → Handle → Type 0
KeptSo h i = KeptBy h.place.full h.place.value i.place.full i.place.value

-- what is made of a machine that is kept
unfoldable pub OfMachine : {A : Type 0} → Kept → Result A Status → (Machine → Result A Status → Type 0) → Type 0
OfMachine (kept.Machine m) r P = P m r
OfMachine k r P = r ≡ Err Kind

-- what is made opens a closed handle, where there is memory for its box; or it isn't made, for this reason
abbrev pub BecomesBy : {A : Type 0} → (A → Kept) → Result A Status → Bool → Kept → Status → Type 0
BecomesBy in_handle (Ok x) full new s = Filled full new s (λ k. k ≡ in_handle x)
BecomesBy in_handle (Err e) full new s = (full ≡ false) × (s ≡ e)

-- of the machine of another handle, where that is open, and where this one isn't
unfoldable pub OpensFrom : {A : Type 0} → (A → Kept) → (Machine → Result A Status → Type 0) → Bool → Kept → Bool → Kept → Bool → Kept
    → Status → Type 0
OpensFrom in_handle P true old full' k full new s = (full ≡ true) × (new ≡ old) × (s ≡ Open)
OpensFrom in_handle P false old false k full new s = (full ≡ false) × (s ≡ Closed)
OpensFrom {A} in_handle P false old true k full new s = (r : Result A Status) × OfMachine k r P × BecomesBy in_handle r full new s

abbrev pub OpensCppc : Handle → Handle → Handle → Status → Type 0
OpensCppc h machine i s =
    OpensFrom kept.Cppc Steers h.place.full h.place.value machine.place.full machine.place.value i.place.full i.place.value s

-- # Splits

-- Another handle is opened for what this gives of what one keeps, where the other is closed, and there is memory; else both keep what they
-- have.
unfoldable pub SplitsFrom : {A : Type 0} → (A → Kept) → (Kept → Kept → Result A Status → Type 0) → Bool → Kept → Bool → Kept → Bool → Kept
    → Bool → Kept → Status → Type 0
SplitsFrom in_handle P full old full' new true o of' o' s = KeptBy full old full' new × (of' ≡ true) × (o' ≡ o) × (s ≡ Open)
SplitsFrom in_handle P false old full' new false o of' o' s = (full' ≡ false) × (of' ≡ false) × (s ≡ Closed)
SplitsFrom {A} in_handle P true old full' new false o of' o' s =
    (full' ≡ true)
    × (((new ≡ old) × (of' ≡ false) × (s ≡ NoMemory)) ⊎ ((r : Result A Status) × P old new r × BecomesBy in_handle r of' o' s))

-- # Joins

-- one keeps what is made of both, and of the other nothing is left; or both keep theirs, for this reason
abbrev pub JoinedAs : {A : Type 0} → (A → Kept) → Status → Result A (A × A) → Kept → Kept → Status → Type 0
JoinedAs in_handle why (Ok x) new other s = (new ≡ in_handle x) × (s ≡ Done)
JoinedAs in_handle why (Err both) new other s = (new ≡ in_handle both.0) × (other ≡ in_handle both.1) × (s ≡ why)

-- the other handle is closed where both are joined, and else has what is left
unfoldable pub LeftBy : Status → Kept → Bool → Kept → Type 0
LeftBy Done k full new = full ≡ false
LeftBy s k full new = (full ≡ true) × (new ≡ k)

-- This comes of what two open handles keep; or one is closed, and both keep what they have.
unfoldable pub JoinsFrom : (Kept → Kept → Kept → Kept → Status → Type 0) → Bool → Kept → Bool → Kept → Bool → Kept → Bool → Kept → Status
    → Type 0
JoinsFrom P true old full' new true o of' o' s = (full' ≡ true) × ((k : Kept) × P old o new k s × LeftBy s k of' o')
JoinsFrom P full old full' new other o of' o' s = KeptBy full old full' new × KeptBy other o of' o' × (s ≡ Closed)
