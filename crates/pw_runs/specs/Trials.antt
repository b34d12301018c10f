-- What comes of a load on a machine that are generated.
use Rattle.std.specs.Prelude.{◌≡◌, ◌≤◌, ℕ, false, List, [], ◌∷◌, codes, take, Option, Some, None}
use Rattle.pw_base.specs.Outside.{Rose}
use Rattle.acpi_space.specs.Namespace.{entries_in}
use Rattle.pw_text.specs.declared.script.TheConstants.{MOST_OPERATIONS}
use Rattle.acpi_build.specs.declared.note.Note.{Note}
use Rattle.acpi_build.specs.Planning.{IsPlanFrom}
use Rattle.pw_plan.specs.declared.plan.Plan.{Plan}
use Rattle.pw_model.specs.declared.entry.HistoryEntry.{HistoryEntry}
use Rattle.pw_regs.specs.Seen.{RegistersSeen}
use Rattle.pw_turns.specs.declared.close.Sealed.{Sealed}
use Rattle.pw_script.specs.Reading.{operations, requests_of}
use Rattle.pw_drive.specs.Driven.{stopped_at}
use Rattle.pw_drive.specs.Drives.{Opens, Runs}
use Rattle.pw_generate.specs.Loads.{machine_load}
use Rattle.pw_generate.specs.Machines.{machine_block}
use Rattle.pw_generate.specs.Summary.{script_summary, summary_text}
use Rattle.pw_load.specs.Seen.{Outputs}
use Rattle.pw_load.specs.Ends.{Work}
use Rattle.pw_runs.specs.Runs.{register_line}
use Rattle.pw_runs.specs.Workers.{Seals}

-- # What is printed where no register fails

-- It is the plan of the machine of n containers, with some notes.
pub record IsMachine (n : ℕ) (P : Plan) : Type 0 where
  pub notes : List Note
  pub made : IsPlanFrom (entries_in (machine_block n ∷ [])) P notes

-- The text is the summary of the load on that machine: of its lines' requests, made in their order.
pub record IsSummaryOf (n : ℕ) (text : List ℕ) : Type 0 where
  pub plan : Plan
  pub machine : IsMachine n plan
  pub says : text ≡ script_summary plan (requests_of (machine_load n).lines)

-- to generate: it refuses nothing, and reads no file
abbrev pub trying : ℕ → Work
trying n = record { text = IsSummaryOf n; refusal = λ status line. ⊥; read_fault = ⊥; in_pieces = false }

-- # How it ends

-- The summary of a history was printed, which is that of the load, whole or a beginning of it; where a register failed nothing was, and
-- that is what the status and the line say.
pub data PrintsSummary (n : ℕ) (P : Plan) (opening : Option ℕ) (es : List HistoryEntry) (before after : Outputs)
    : ℕ → List ℕ → List ℕ → Type 0 where
  whole : stopped_at opening es ≡ None → IsSummaryOf n (summary_text P es)
      → PrintsSummary n P opening es before after 0 (summary_text P es) []
  write_fault : (m : ℕ) → stopped_at opening es ≡ None → IsSummaryOf n (summary_text P es) → Rose before.out.faults after.out.faults
      → PrintsSummary n P opening es before after 4 (take m (summary_text P es)) (codes "write fault\n")
  failed : {k : ℕ} → stopped_at opening es ≡ Some k → PrintsSummary n P opening es before after 5 [] (register_line k)
  without_memory : PrintsSummary n P opening es before after 6 [] (codes "no memory\n")

-- The load, which is no longer than a script may be, was run on the machine by workers, or memory ran out before a request was made.
pub data Generates (n : ℕ) (sealed : Option Sealed) (before after : Outputs) (old new : RegistersSeen) : ℕ → List ℕ → List ℕ → Type 0 where
  undone : new ≡ old → sealed ≡ None → Generates n sealed before after old new 6 [] (codes "no memory\n")
  -- it ran out behind the operations at the start
  opened : {P : Plan} → IsMachine n P → operations P (machine_load n).lines ≤ MOST_OPERATIONS → Opens P old new → sealed ≡ None
      → Generates n sealed before after old new 6 [] (codes "no memory\n")
  drove : {status : ℕ} {written text : List ℕ} {P : Plan} {opening : Option ℕ} {es : List HistoryEntry}
      → IsMachine n P → operations P (machine_load n).lines ≤ MOST_OPERATIONS → Runs P (machine_load n).lines opening es old new
      → PrintsSummary n P opening es before after status written text → Seals P opening es status sealed
      → Generates n sealed before after old new status written text
