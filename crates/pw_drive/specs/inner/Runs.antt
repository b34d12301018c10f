-- What comes of workers that were seated.
use Rattle.std.specs.Prelude.{◌≡◌, List, Vec, [], length}
use Rattle.std.specs.List.{AllByRecursion}
use Rattle.std.specs.declared.alloc.Global.{Global}
use Rattle.pw_plan.specs.declared.request.Request.{Request}
use Rattle.pw_plan.specs.Requests.{Has}
use Rattle.pw_model.specs.declared.entry.HistoryEntry.{HistoryEntry}
use Rattle.pw_model.specs.declared.reply.Reply.{Reply}
use Rattle.pw_machine.specs.declared.view.View.{View}
use Rattle.pw_machine.specs.Machine.{Given}
use Rattle.pw_regs.specs.declared.registers.Registers.{Ghosts as Registers}
use Rattle.pw_rule.specs.Promises.{Promise}
use Rattle.pw_turns.specs.Ends.{Ends}
use Rattle.pw_books.specs.Workers.{MadeByWorkers}
use Rattle.pw_books.specs.Workers.{Worker as Gathered}
use Rattle.pw_drive.specs.inner.Lists.{AreLists}
use Rattle.pw_drive.specs.inner.Replying.{AreReplies}
use Rattle.pw_drive.specs.inner.Telling.{telling}

module _ {R : Type 0} (by : Registers R) (promise : Promise) (given : Given) where
  -- The history was made by workers with these lists, whatever they are the lists of, where it had room for all.
  pub record Makes (lists : List (Vec Request Global)) (each : List (Vec Reply Global)) (entries : List HistoryEntry) (regs : R) : Type 0
    where
      pub last : View
      pub ends : Ends by promise given last entries regs
      pub workers : List (Gathered HistoryEntry)
      pub made : (asked : List Request) → AllByRecursion (Has given.plan) asked → AreLists asked (length given.plan.cpus) lists
          → given.capacity ≡ length asked → MadeByWorkers telling asked workers last.book entries
      -- and their replies lie in the other lists, each at its processor's place
      pub told : (asked : List Request) → AllByRecursion (Has given.plan) asked → AreLists asked (length given.plan.cpus) lists
          → given.capacity ≡ length asked → AreReplies given.plan entries each

  -- no request was made
  pub record LeavesNone (regs : R) : Type 0 where
    pub last : View
    pub ends : Ends by promise given last [] regs
