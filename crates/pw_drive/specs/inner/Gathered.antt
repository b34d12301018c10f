-- Seats that become one.
use Rattle.std.specs.Prelude.{◌≡◌, ◌+◌, List, map, length}
use Rattle.std.specs.List.{AllByRecursion}
use Rattle.atomic_table.specs.Seated.{TableId}
use Rattle.pw_model.specs.declared.entry.HistoryEntry.{HistoryEntry}
use Rattle.pw_machine.specs.declared.view.View.{View}
use Rattle.pw_books.specs.Books.{Begins}
use Rattle.pw_machine.specs.Machine.{Given}
use Rattle.pw_regs.specs.declared.registers.Registers.{Ghosts as Registers}
use Rattle.pw_turns.specs.Owning.{Owns}
use Rattle.pw_rule.specs.Promises.{Promise}
use Rattle.pw_turns.specs.Ends.{Ends}
use Rattle.pw_books.specs.Workers.{joined_down}
use Rattle.pw_drive.specs.declared.working.Worker.{Worker}
use Rattle.pw_drive.specs.inner.Workers.{gathered, view_of}

-- the worker's seat is one of the table's, and has one part
pub record IsMember (id : TableId) (w : Worker) : Type 0 where
  pub owns : Owns id w.seat
  pub part : (view_of w).parts ≡ 1

-- a seat that has seen what all have seen, and has the books and parts of all
pub record IsGathered (v : View) (ws : List Worker) (r : View) : Type 0 where
  pub seen : Begins r.seen v.seen
  pub saw : AllByRecursion (λ w. Begins r.seen (view_of w).seen) ws
  pub book : r.book ≡ joined_down v.book (map gathered ws)
  pub parts : r.parts ≡ v.parts + length ws

-- with it the coordinator ended
pub record EndsWith {R : Type 0} (by : Registers R) (promise : Promise) (given : Given) (v : View) (ws : List Worker)
    (entries : List HistoryEntry) (regs : R) : Type 0 where
  pub last : View
  pub gathered : IsGathered v ws last
  pub ends : Ends by promise given last entries regs
