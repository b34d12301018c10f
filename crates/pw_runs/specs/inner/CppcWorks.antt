-- What comes of lines that workers make on a machine.
use Rattle.std.specs.Prelude.{◌≡◌, ℕ, List, [], codes, Option, None}
use Rattle.pw_regs.specs.Seen.{RegistersSeen}
use Rattle.pw_load.specs.Seen.{Outputs}
use Rattle.pw_cppc.specs.declared.plan.CppcPlan.{CppcPlan}
use Rattle.pw_cppc.specs.Requests.{opening_bound}
use Rattle.pw_cppc.specs.declared.entry.CppcEntry.{CppcEntry}
use Rattle.pw_cppc_drive.specs.declared.script.CppcLine.{CppcLine}
use Rattle.pw_cppc_drive.specs.Driven.{OperatesFor}
use Rattle.pw_runs.specs.CppcRuns.{PrintsRun}
use Rattle.pw_runs.specs.CppcWorkers.{IsRunBy}

-- nothing for want of memory, before or behind the operations at the start, or a run whose history was printed
pub data Works (P : CppcPlan) (lines : List CppcLine) (before after : Outputs) (old new : RegistersSeen) : ℕ → List ℕ → List ℕ
    → Type 0 where
  undone : new ≡ old → Works P lines before after old new 6 [] (codes "no memory\n")
  opened : OperatesFor P (opening_bound P) None [] old new → Works P lines before after old new 6 [] (codes "no memory\n")
  worked : {status : ℕ} {written text : List ℕ} {opening : Option ℕ} {es : List CppcEntry} → IsRunBy P lines opening es old new
      → PrintsRun P opening es before after status written text → Works P lines before after old new status written text
