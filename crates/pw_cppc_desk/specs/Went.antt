-- The steps of the desk's machine that a seat takes in a call, as its own list of them grows and those of joined seats stay.
use Rattle.std.specs.Prelude.{◌≡◌, ℕ, ◌+◌, List, [], ◌∷◌, ◌++◌, replicate, Result, Ok, Err}
use Rattle.pw_cppc.specs.declared.request.CppcRequest.{CppcRequest}
use Rattle.pw_cppc.specs.declared.entry.CppcEntry.{CppcEntry}
use Rattle.pw_cppc_desk.specs.Entries.{entry_as}
use Rattle.pw_books.specs.declared.view.View.{View}
use Rattle.pw_books.specs.Steps.{Kind, take_turn, find_held, slot_out, slot_back, release_with_entry, release_without_entry}
use Rattle.pw_books.specs.Steps.{draw_number, miss_draw, split_seat, join_seats, read_made}
use Rattle.pw_cppc_desk.specs.Tracks.{Track, Keeping, keeping, more}
use Rattle.pw_cppc_desk.specs.declared.desk.CppcSeat.{CppcSeat}
use Rattle.pw_cppc_desk.specs.declared.requests.CppcTry.{CppcTry}
use Rattle.pw_cppc_desk.specs.declared.requests.CppcTry.TheVariants as tried
use Rattle.pw_cppc_desk.specs.declared.serving.CppcDone.{CppcDone}
use Rattle.pw_cppc_desk.specs.declared.serving.CppcDone.TheVariants.{Answer, Full, RegisterFault, Stopped}
use Rattle.pw_cppc_desk.specs.declared.seats.CppcSplitFault.{CppcSplitFault}
use Rattle.pw_cppc_desk.specs.declared.seats.CppcSplitFault.TheVariants.{Many}

-- the steps that a seat took, and those of each that was joined into it
abbrev pub keeping_in : List Track → Keeping
keeping_in [] = ([], [])
keeping_in (t ∷ ts) = keeping t

abbrev pub OneMore : Keeping → Kind CppcEntry → Keeping → Type 0
OneMore old k new = new ≡ more (k ∷ []) old

-- # The start

-- the empty slot is taken and put back full, and the turn released
abbrev pub Opened : Keeping → ℕ → Keeping → Type 0
Opened old count new = new ≡ more (slot_back ∷ release_without_entry count ∷ []) (more (slot_out ∷ []) old)

-- so the first seat opened the desk, and it took no other step
abbrev pub OpeningSteps : Keeping → Type 0
OpeningSteps new = (count : ℕ) × Opened ([], []) count new

-- # A request

-- the turn was taken
abbrev pub TookTurn : Keeping → Keeping → Type 0
TookTurn old new = (first : ℕ) × OneMore old (take_turn first) new

-- how it gives the turn back
abbrev pub Released : ℕ → CppcRequest → CppcDone → Kind CppcEntry → Type 0
Released number q (Answer reply) k = (count : ℕ) × (k ≡ release_with_entry (entry_as number q 0) count)
Released number q (Full capacity) k = (count : ℕ) × (k ≡ release_without_entry count)
Released number q (RegisterFault done) k = (count : ℕ) × (k ≡ release_with_entry (entry_as number q (done + 1)) count)
Released number q (Stopped at) k = (count : ℕ) × (k ≡ release_without_entry count)

abbrev pub Served : ℕ → CppcRequest → CppcDone → Keeping → Keeping → Type 0
Served number q r old new = (k : Kind CppcEntry) × OneMore old k new × Released number q r k

-- it takes the turn and gives it back
abbrev pub InTurn : ℕ → CppcRequest → CppcDone → Keeping → Keeping → Type 0
InTurn number q r old new = (mid : Keeping) × TookTurn old mid × Served number q r mid new

-- a request that doesn't wait finds the turn held, and does nothing more
abbrev pub WentOnce : ℕ → CppcRequest → CppcTry → Keeping → Keeping → Type 0
WentOnce number q (tried.Answer reply) old new = InTurn number q (Answer reply) old new
WentOnce number q (tried.Busy holder) old new = OneMore old find_held new
WentOnce number q (tried.Full capacity) old new = InTurn number q (Full capacity) old new
WentOnce number q (tried.RegisterFault done) old new = InTurn number q (RegisterFault done) old new
WentOnce number q (tried.Stopped at) old new = InTurn number q (Stopped at) old new

-- one that waits may find it held so often before
abbrev pub TookLater : Keeping → Keeping → Type 0
TookLater old new = (founds : ℕ) × TookTurn (more (replicate founds find_held) old) new

abbrev pub WentOn : ℕ → CppcRequest → CppcDone → Keeping → Keeping → Type 0
WentOn number q r old new = (founds : ℕ) × InTurn number q r (more (replicate founds find_held) old) new

-- # Seats

-- it tried so often in vain to draw a number, and then drew one, or all were given
abbrev pub Drew : Keeping → Result ℕ ℕ → Keeping → Type 0
Drew old (Ok n) new = (k : ℕ) × OneMore (more (replicate k miss_draw) old) draw_number new
Drew old (Err made) new = (k : ℕ) × (new ≡ more (replicate k miss_draw) old)

-- a split reads, draws and splits, and the new seat took no step yet
abbrev pub SplitSteps : ℕ → Keeping → Result CppcSeat CppcSplitFault → Keeping → Type 0
SplitSteps parts old (Ok seat) new =
    (keeping_in seat.badge.views ≡ ([], []))
    × ((k : ℕ) × OneMore (more (draw_number ∷ []) (more (replicate k miss_draw) (more (read_made ∷ []) old)))
    (split_seat seat.number parts) new)
SplitSteps parts old (Err (Many made)) new = (k : ℕ) × (new ≡ more (replicate k miss_draw) (more (read_made ∷ []) old))

-- the other is joined, and all that it had in keeping stays with the seat
abbrev pub KeepsBoth : Keeping → View CppcEntry → Keeping → Keeping → Type 0
KeepsBoth old other others new = new ≡ more (join_seats 0 other ∷ []) (old.0, old.1 ++ others.0 ∷ others.1)

-- a join joins, and then reads
abbrev pub JoinSteps : Keeping → View CppcEntry → Keeping → Keeping → Type 0
JoinSteps old other others new = (mid : Keeping) × KeepsBoth old other others mid × OneMore mid read_made new
