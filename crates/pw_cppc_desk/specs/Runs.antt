-- What the run tells that the table's rule speaks of.
use Rattle.std.specs.Prelude.{◌≡◌, ◌≢◌, ℕ, suc, ◌<◌, List, [], length, Option, Some}
use mathlib.Core.Option.{some}
use lib.ListN.{get_elem?}
use Rattle.atomic_table.specs.Table.{State}
use Rattle.pw_regs.specs.declared.registers.Registers.{Ghosts as Registers}
use Rattle.pw_cppc.specs.declared.entry.CppcEntry.{CppcEntry}
use Rattle.pw_cppc_desk.specs.Ledgered.{Ledgered}
use Rattle.pw_books.specs.declared.view.View.{View}
use Rattle.pw_books.specs.Sums.{total}
use Rattle.pw_books.specs.Runs.{FoundLast as LastFound, NoFind}
use Rattle.pw_books.specs.Tracks.{in_keeping}
use Rattle.pw_books.specs.Machine.{Invariant, Machine}
use Rattle.pw_books.specs.Steps.{Kind, after, find_held}
use Rattle.pw_books.specs.Law.{opened}
use Rattle.pw_cppc_desk.specs.declared.setup.Setup.{Setup}
use Rattle.pw_cppc_desk.specs.Slots.{MayBe, seat_of}
use Rattle.pw_cppc_desk.specs.Tracks.{Track}
use Rattle.pw_cppc_desk.specs.Rule.{Ruled, given_of}

-- a step that finds the turn held
abbrev pub IsFind : Kind CppcEntry → Type 0
IsFind find_held = Unit {0}
IsFind k = ⊥

-- it finds it held by this seat
abbrev pub FindsHeld : Machine CppcEntry → Kind CppcEntry → ℕ → Type 0
FindsHeld m find_held holder = m.turn ≡ suc holder
FindsHeld m k holder = ⊥

-- where the seat at this place last finds the turn held, it finds it held by this seat
abbrev pub FoundLast : Machine CppcEntry → List (ℕ × View CppcEntry × Kind CppcEntry) → ℕ → ℕ → Type 0
FoundLast = LastFound (after seat_of) IsFind FindsHeld

module _ {R : Type 0} (by : Registers R) where
  -- the machine has its invariant
  abbrev pub RuleHasInvariant : Type 0
  RuleHasInvariant = (key : Setup R) (s : State (Option (Ledgered R)) Track) (o : Ruled by key s)
      → Invariant seat_of (MayBe (given_of by key)) o.machine

  -- no step of the run is in nobody's keeping: they are as many as those that the seats have
  abbrev pub StepsAreKept : Type 0
  StepsAreKept = (key : Setup R) (s : State (Option (Ledgered R)) Track) (o : Ruled by key s)
      → length o.run ≡ total (in_keeping length) s.views

  -- the seat that a seat met is the one that it last found with the turn
  abbrev pub MetWasFound : Type 0
  MetWasFound = (key : Setup R) (s : State (Option (Ledgered R)) Track) (o : Ruled by key s) (j : ℕ) (t : Track) (holder : ℕ)
      → get_elem? s.views j ≡ some t → t.view.met ≡ Some holder → FoundLast opened o.run j holder

  -- while each other seat is live and took no step yet, a seat has found no turn held
  abbrev pub QuietAreNotMet : Type 0
  QuietAreNotMet = (key : Setup R) (s : State (Option (Ledgered R)) Track) → Ruled by key s → (j : ℕ) (t : Track)
      → get_elem? s.views j ≡ some t → 0 < t.view.parts
      → ((i : ℕ) (u : Track) → i ≢ j → get_elem? s.views i ≡ some u → (0 < u.view.parts) × (u.own ≡ [])) → NoFind IsFind t.own
