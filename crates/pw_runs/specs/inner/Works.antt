-- What comes of lines that workers make on a machine.
use Rattle.std.specs.Prelude.{◌≡◌, ℕ, List, [], codes, Option, None}
use Rattle.pw_plan.specs.declared.plan.Plan.{Plan}
use Rattle.pw_model.specs.declared.entry.HistoryEntry.{HistoryEntry}
use Rattle.pw_regs.specs.Seen.{RegistersSeen}
use Rattle.pw_turns.specs.declared.close.Sealed.{Sealed}
use Rattle.pw_script.specs.declared.script.Line.{Line as line}
use Rattle.pw_drive.specs.Drives.{Opens, Runs}
use Rattle.pw_load.specs.Seen.{Outputs}
use Rattle.pw_runs.specs.Runs.{PrintsRun}
use Rattle.pw_runs.specs.Workers.{Seals}

-- nothing for want of memory, before or behind the operations at the start, or a run whose history was printed
pub data Works (P : Plan) (lines : List line) (sealed : Option Sealed) (before after : Outputs) (old new : RegistersSeen) : ℕ → List ℕ
    → List ℕ → Type 0 where
  undone : new ≡ old → sealed ≡ None → Works P lines sealed before after old new 6 [] (codes "no memory\n")
  opened : Opens P old new → sealed ≡ None → Works P lines sealed before after old new 6 [] (codes "no memory\n")
  worked : {status : ℕ} {written text : List ℕ} {opening : Option ℕ} {es : List HistoryEntry} → Runs P lines opening es old new
      → PrintsRun P opening es before after status written text → Seals P opening es status sealed
      → Works P lines sealed before after old new status written text
