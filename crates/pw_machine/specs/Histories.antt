-- Which histories come about: exactly the legal ones that have room and whose seats have numbers.
use Rattle.std.specs.Prelude.{◌≡◌, ◌↔◌, ℕ, ◌<◌, ◌≤◌, List, length}
use Rattle.std.specs.List.{AllByRecursion}
use Rattle.pw_model.specs.declared.entry.HistoryEntry.{HistoryEntry}
use Rattle.pw_model.specs.History.{Legal}
use Rattle.pw_model.specs.Records.{Part, record_count}
use Rattle.pw_machine.specs.declared.view.View.{View}
use Rattle.pw_machine.specs.Machine.{Given, Machine}
use Rattle.pw_machine.specs.Steps.{Kind}
use Rattle.pw_machine.specs.Law.{opened, Steps}

-- some list of allowed steps leads to the history
pub record ComesAbout (given : Given) (values : List Part) (history : List HistoryEntry) : Type 0 where
  pub steps : List (ℕ × View × Kind)
  pub end : Machine
  pub allowed : Steps (opened given values) steps end
  pub ends : end.history ≡ history

pub record MayComeAbout (given : Given) (history : List HistoryEntry) : Type 0 where
  pub legal : Legal given.plan history
  pub room : length history ≤ given.capacity
  pub numbers : AllByRecursion (λ (e : HistoryEntry). e.seat < 65536) history

abbrev pub HistoriesComeAbout : Type 0
HistoriesComeAbout = (given : Given) (values : List Part) (history : List HistoryEntry) → length values ≡ record_count given.plan
    → ComesAbout given values history ↔ MayComeAbout given history
