-- Each step on a word of the table is a step of the machine, or two, and tells its seat what it found.
use Rattle.std.specs.Prelude.{map, ◌≡◌, ◌==◌, ℕ, suc, ◌+◌, ◌<◌, List, [], ◌∷◌, true, false, Option, Some, None, length}
use mathlib.Core.Option.{some, none}
use lib.ListN.{get_elem?}
use prog.Atomic.{either}
use Rattle.atomic_table.specs.Table.{Allows, Final, Joins, Seen, Splits, State, opening, step}
use Rattle.pw_regs.specs.declared.registers.Registers.{Ghosts as Registers}
use Rattle.pw_cppc.specs.declared.entry.CppcEntry.{CppcEntry}
use Rattle.pw_cppc_desk.specs.Ledgered.{Ledgered}
use Rattle.pw_books.specs.declared.view.View.{View}
use Rattle.pw_books.specs.Books.{Knows, count_in, entries_of, furthest}
use Rattle.pw_books.specs.Steps.{IsIdle, IsSpare}
use Rattle.pw_cppc_desk.specs.declared.setup.Setup.{Setup}
use Rattle.pw_cppc_desk.specs.Slots.{Given, Homes, IsHeld, seat_of}
use Rattle.pw_cppc_desk.specs.Rule.{Ruled, first_of, given_of}
use Rattle.pw_cppc_desk.specs.Plays.{IsFirst, IsFound, IsGrown, Tracked}
use Rattle.pw_cppc_desk.specs.Plays.{claimed_step, drew_step, gone_step, led_step, looked_step, opened_step, put_step}
use Rattle.pw_cppc_desk.specs.Tracks.{Track, joined_track, left_track, right_track, spent_track}

module _ {R : Type 0} (by : Registers R) where
  -- # The start

  -- one seat is made, the turn is seat 0's, and the slot is empty
  abbrev pub TableBegins : Type 0
  TableBegins = (key : Setup R) → Ruled by key (opening (1 ∷ 1 ∷ []) (None ∷ []) (first_of key))

  -- it takes the slot in hand
  abbrev pub SlotIsClaimed : Type 0
  SlotIsClaimed = (n : ℕ) (key : Setup R) (id : ℕ) (m : Tracked R) (a b : ℕ) → m.0.view.mark ≡ true → m.0.view.out ≡ false
      → Allows (Ruled by key) n id m 1 (λ y. y) (claimed_step (step n 1 a b none) m)

  -- and puts the value there
  abbrev pub DeskIsOpened : Type 0
  DeskIsOpened = (n : ℕ) (key : Setup R) (id : ℕ) (x : Track) (more : List (ℕ × Option (Ledgered R))) (w : Ledgered R) (m : Tracked R)
      → 0 < n → m ≡ (x, (0, Some w) ∷ more) → IsFirst by (given_of by key) x.view w
      → Allows (Ruled by key) n id m 1 (λ _. 0) (λ r. opened_step (by.faults w.regs) (step n 1 0 0 none) m r)

  -- # A request

  abbrev pub TurnIsTaken : Type 0
  TurnIsTaken = (n : ℕ) (key : Setup R) (id : ℕ) (m : Tracked R) (new : ℕ) → new ≡ suc m.0.view.number → IsIdle m.0.view
      → Allows (Ruled by key) n id m 1 (λ y. either (y == 0) new y) (led_step by (given_of by key) (step n 1 0 new none) m)

  abbrev pub EntryIsMade : Type 0
  EntryIsMade = (n : ℕ) (key : Setup R) (id : ℕ) (x : Track) (more : List (ℕ × Option (Ledgered R))) (w : Ledgered R) (e : CppcEntry)
      (m : Tracked R)
      → 0 < n → m ≡ (x, (0, Some w) ∷ more) → IsGrown by (given_of by key) x.view e w
      → Allows (Ruled by key) n id m 1 (λ _. 0) (λ r. put_step e (by.faults w.regs) (step n 1 0 0 none) m r)

  abbrev pub TurnIsLetGo : Type 0
  TurnIsLetGo = (n : ℕ) (key : Setup R) (id : ℕ) (x : Track) (more : List (ℕ × Option (Ledgered R))) (w : Ledgered R) (m : Tracked R)
      → 0 < n → m ≡ (x, (0, Some w) ∷ more) → IsFound by (given_of by key) x.view w
      → Allows (Ruled by key) n id m 1 (λ _. 0) (λ r. gone_step (by.faults w.regs) (step n 1 0 0 none) m r)

  -- # Seats

  abbrev pub NumberIsDrawn : Type 0
  NumberIsDrawn = (n : ℕ) (key : Setup R) (id : ℕ) (m : Tracked R) (made new : ℕ) → new ≡ made + 1 → made < 65536 → IsIdle m.0.view
      → m.0.view.read ≡ Some made
      → Allows (Ruled by key) n id m 0 (λ y. either (y == made) new y) (drew_step (step n 0 made new none) m)

  abbrev pub NumberIsRead : Type 0
  NumberIsRead = (n : ℕ) (key : Setup R) (id : ℕ) (m : Tracked R) → IsIdle m.0.view
      → Allows (Ruled by key) n id m 0 (λ y. y) (looked_step (given_of by key) (step n 0 0 0 none) m)

  abbrev pub SeatIsSplit : Type 0
  SeatIsSplit = (key : Setup R) (id : ℕ) (x : Track) (n parts : ℕ) → IsIdle x.view → x.view.told ≡ None → IsSpare n x.view
      → 0 < parts → parts < x.view.parts
      → Splits (Ruled by key) id x (left_track n parts x) (right_track n parts x)

  abbrev pub SeatsAreJoined : Type 0
  SeatsAreJoined = (key : Setup R) (id : ℕ) (x : Track) (other : ℕ) (y : Track) → IsIdle x.view → IsIdle y.view → x.view.told ≡ None
      → y.view.told ≡ None
      → Joins (Ruled by key) id x other y (joined_track x y) spent_track

  -- # The end

  -- What the slot has where an idle seat has all parts: the history that the seat knows.
  pub record IsWhole (given : Given) (v : View CppcEntry) (hs : Homes R) : Type 0 where
    pub ledger : Ledgered R
    pub there : get_elem? hs 0 ≡ some (some (Some ledger))
    pub held : IsHeld by given ledger
    pub seen : furthest v.told v.seen ≡ ledger.entries
    -- the seat's book has the entries of each of its numbers, and has each number once that made one
    pub book : Knows seat_of v.book ledger.entries
    pub seats : (n : ℕ) → 0 < length (entries_of seat_of n ledger.entries) → count_in n v.book ≡ 1

  abbrev pub AloneHasAll : Type 0
  AloneHasAll = (key : Setup R) (s : State (Option (Ledgered R)) Track) (id : ℕ) (x : Track) → Ruled by key s
      → get_elem? s.views id ≡ some x → IsIdle x.view → x.view.parts ≡ 65536 → IsWhole (given_of by key) x.view s.homes

  -- so it is with the slot of a table that was closed with such a seat
  abbrev pub TableCloses : Type 0
  TableCloses = (key : Setup R) (id : ℕ) (x : Track) (ws : List ℕ) (xs : List (Option (Ledgered R)))
      → Final (Seen (Ruled by key) id x) ws xs → IsIdle x.view → x.view.parts ≡ 65536 → IsWhole (given_of by key) x.view (map some xs)
