-- What comes of workers that were seated.
use Rattle.std.specs.Prelude.{◌≡◌, ℕ, List, Vec, length}
use Rattle.std.specs.List.{AllByRecursion}
use Rattle.std.specs.declared.alloc.Global.{Global}
use Rattle.pw_regs.specs.declared.registers.Registers.{Ghosts as Registers}
use Rattle.pw_books.specs.declared.view.View.{View}
use Rattle.pw_books.specs.Workers.{MadeByWorkers}
use Rattle.pw_books.specs.Workers.{Worker as Gathered}
use Rattle.pw_cppc.specs.declared.plan.CppcPlan.{CppcPlan}
use Rattle.pw_cppc.specs.declared.request.CppcRequest.{CppcRequest}
use Rattle.pw_cppc.specs.Requests.{Has}
use Rattle.pw_cppc.specs.declared.entry.CppcEntry.{CppcEntry}
use Rattle.pw_cppc_desk.specs.Ends.{Ends}
use Rattle.pw_cppc_drive.specs.Lawful.{telling}
use Rattle.pw_cppc_drive.specs.inner.Lists.{AreLists}

-- The history was made by workers with these lists, whatever they are the lists of, where it had room for all.
pub record Makes {R : Type 0} (by : Registers R) (P : CppcPlan) (room : ℕ) (given : R) (lists : List (Vec CppcRequest Global))
    (entries : List CppcEntry) (regs : R) : Type 0 where
  pub last : View CppcEntry
  pub ends : Ends by P room given last entries regs
  pub workers : List (Gathered CppcEntry)
  pub made : (asked : List CppcRequest) → AllByRecursion (Has P) asked → AreLists asked (length P.cpus) lists
      → room ≡ length asked → MadeByWorkers telling asked workers last.book entries
