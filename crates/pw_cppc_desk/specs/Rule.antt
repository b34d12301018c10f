-- The rule of the table: it shows a desk's machine.
use Rattle.std.specs.Prelude.{◌≡◌, ℕ, List, [], ◌∷◌, true, false, Option, Some, None}
use mathlib.Core.Option.{some}
use lib.ListN.{get_elem?}
use Rattle.atomic_table.specs.Table.{State}
use Rattle.pw_regs.specs.declared.registers.Registers.{Ghosts as Registers}
use Rattle.pw_regs.specs.Seen.{registers_seen}
use Rattle.pw_cppc.specs.declared.entry.CppcEntry.{CppcEntry}
use Rattle.pw_cppc_desk.specs.Ledgered.{Ledgered}
use Rattle.pw_books.specs.declared.view.View.{View}
use Rattle.pw_books.specs.Machine.{Machine}
use Rattle.pw_books.specs.Steps.{Kind}
use Rattle.pw_books.specs.Law.{desk, first_view, opened}
use Rattle.pw_books.specs.Ruled.{Showing, Shows}
use Rattle.pw_books.specs.Tracks.{fresh}
use Rattle.pw_cppc_desk.specs.Tracks.{Track, own_kind}
use Rattle.pw_cppc_desk.specs.declared.setup.Setup.{Setup}
use Rattle.pw_cppc_desk.specs.Slots.{Given, Homes, IsHeld, MayBe, seat_of}

-- the first seat, which took no step yet
abbrev pub first_of : {R : Type 0} → Setup R → Track
first_of key = fresh first_view

-- how many seats are made, and the turn
abbrev pub words_of : Machine CppcEntry → List ℕ
words_of m = m.made ∷ m.turn ∷ []

-- over registers of which `by` says whether they tell what was done, what they log, how much room they have and how many failed
module _ {R : Type 0} (by : Registers R) where
  abbrev pub given_of : Setup R → Given
  given_of key = record { plan = key.plan; capacity = key.capacity; regs = registers_seen by key.regs.value }

  -- Where the turn is free the slot is at home, with the machine's history. While the desk is being opened it is at home and empty
  -- until the seat has it in hand.
  pub record IsHome (given : Given) (m : Machine CppcEntry) (hs : Homes R) : Type 0 where
    pub free : m.turn ≡ 0 → (w : Ledgered R) × (get_elem? hs 0 ≡ some (some (Some w))) × IsHeld by given w × (w.entries ≡ m.history)
    pub blank : (j : ℕ) (v : View CppcEntry) → get_elem? m.views j ≡ some v → v.mark ≡ true → v.out ≡ false
        → get_elem? hs 0 ≡ some (some None)

  -- What the table shows of the machine.
  abbrev pub showing : Setup R → Showing (Machine CppcEntry) (View CppcEntry) (Kind CppcEntry) (Homes R)
  showing key = record {
    turning = desk seat_of (MayBe (given_of key));
    parts = λ v. v.parts;
    own_kind = own_kind;
    words_of = words_of;
    IsHome = IsHome (given_of key);
  }

  -- the table shows a machine that comes about from the opened one
  abbrev pub Ruled : Setup R → State (Option (Ledgered R)) Track → Type 0
  Ruled key s = Shows (showing key) opened s.words s.homes s.views
