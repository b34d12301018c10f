-- No reachable machine is stuck: where a seat waits, a seat that holds a turn can go on.
use Rattle.std.specs.Prelude.{◌≡◌, ◌⊎◌, ℕ, ◌<◌, true, List, length}
use mathlib.Core.Option.{some}
use lib.ListN.{get_elem?}
use Rattle.pw_model.specs.Records.{Part}
use Rattle.pw_model.specs.Records.{record_count}
use Rattle.pw_machine.specs.declared.view.View.{View}
use Rattle.pw_machine.specs.Machine.{Given, Machine}
use Rattle.pw_machine.specs.Steps.{Kind, take_record, find_record_held, record_back, release_record, take_journal, find_journal_held, journal_back, release_without_entry, May}
use Rattle.pw_machine.specs.Law.{opened, Steps}

-- the step finds a turn held
abbrev pub Waits : Kind → Type 0
Waits (find_record_held t q gives_up) = Unit {0}
Waits (find_journal_held q gives_up) = Unit {0}
Waits _ = ⊥

-- the step takes a turn, releases one, or puts a slot's value back
abbrev pub GoesOn : Kind → Type 0
GoesOn (take_record t q part) = Unit {0}
GoesOn (take_journal q) = Unit {0}
GoesOn (record_back t) = Unit {0}
GoesOn journal_back = Unit {0}
GoesOn (release_record t part) = Unit {0}
GoesOn (release_without_entry count) = Unit {0}
GoesOn _ = ⊥

-- a seat that holds a turn can go on
pub record CanGoOn (m : Machine) : Type 0 where
  pub place : ℕ
  pub view : View
  pub kind : Kind
  pub there : get_elem? m.views place ≡ some view
  pub holds_turn : (0 < length view.held) ⊎ (view.leads ≡ true)
  pub goes_on : GoesOn kind
  pub may : May m place view kind

abbrev pub NoDeadlock : Type 0
NoDeadlock = (given : Given) (values : List Part) (steps : List (ℕ × View × Kind)) (end : Machine) → length values ≡ record_count given.plan
    → Steps (opened given values) steps end
    → (j : ℕ) (v : View) (k : Kind) → get_elem? end.views j ≡ some v → May end j v k → Waits k → CanGoOn end
