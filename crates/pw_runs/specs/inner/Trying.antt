-- What comes of a load on a machine.
use Rattle.std.specs.Prelude.{◌≡◌, ℕ, List, [], codes, take, Option, Some, None}
use Rattle.pw_base.specs.Outside.{Rose}
use Rattle.pw_plan.specs.declared.plan.Plan.{Plan}
use Rattle.pw_model.specs.declared.entry.HistoryEntry.{HistoryEntry}
use Rattle.pw_regs.specs.Seen.{RegistersSeen}
use Rattle.pw_turns.specs.declared.close.Sealed.{Sealed}
use Rattle.pw_script.specs.declared.script.Line.{Line as line}
use Rattle.pw_drive.specs.Driven.{stopped_at}
use Rattle.pw_drive.specs.Drives.{Opens, Runs}
use Rattle.pw_generate.specs.Summary.{summary_text}
use Rattle.pw_load.specs.Seen.{Outputs}
use Rattle.pw_runs.specs.Workers.{Seals}
use Rattle.pw_runs.specs.Runs.{register_line}

-- the summary of a history was printed, whole or a beginning of it, or a register failed
pub data SumsUp (P : Plan) (opening : Option ℕ) (es : List HistoryEntry) (before after : Outputs) : ℕ → List ℕ → List ℕ → Type 0 where
  whole : stopped_at opening es ≡ None → SumsUp P opening es before after 0 (summary_text P es) []
  write_fault : (m : ℕ) → stopped_at opening es ≡ None → Rose before.out.faults after.out.faults
      → SumsUp P opening es before after 4 (take m (summary_text P es)) (codes "write fault\n")
  failed : {k : ℕ} → stopped_at opening es ≡ Some k → SumsUp P opening es before after 5 [] (register_line k)
  without_memory : SumsUp P opening es before after 6 [] (codes "no memory\n")

-- nothing for want of memory, before or behind the operations at the start, or a run of which a summary was printed
pub data Tries (P : Plan) (lines : List line) (sealed : Option Sealed) (before after : Outputs) (old new : RegistersSeen) : ℕ → List ℕ
    → List ℕ → Type 0 where
  undone : new ≡ old → sealed ≡ None → Tries P lines sealed before after old new 6 [] (codes "no memory\n")
  opened : Opens P old new → sealed ≡ None → Tries P lines sealed before after old new 6 [] (codes "no memory\n")
  ran : {status : ℕ} {written text : List ℕ} {opening : Option ℕ} {es : List HistoryEntry} → Runs P lines opening es old new
      → SumsUp P opening es before after status written text → Seals P opening es status sealed
      → Tries P lines sealed before after old new status written text
