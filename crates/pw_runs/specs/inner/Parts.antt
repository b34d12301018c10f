-- What the parts of a drive do.
use Rattle.std.specs.Prelude.{◌≡◌, ◌≢◌, ℕ, Bool, false, List, [], codes, Option}
use Rattle.pw_base.specs.Outside.{Rose}
use Rattle.pw_base.specs.Seen.{FilesSeen, OfFiles}
use Rattle.aml_block.specs.declared.block.Block.{Block}
use Rattle.acpi_space.specs.Distinct.{IsDistinct}
use Rattle.acpi_space.specs.Namespace.{entries_in, places_of}
use Rattle.pw_text.specs.declared.script.ScriptFault.{ScriptFault}
use Rattle.pw_text.specs.declared.script.ScriptFault.TheVariants.{Memory}
use Rattle.acpi_build.specs.declared.note.Note.{Note}
use Rattle.acpi_build.specs.Planning.{IsPlanFrom}
use Rattle.pw_plan.specs.declared.plan.Plan.{Plan}
use Rattle.pw_model.specs.declared.entry.HistoryEntry.{HistoryEntry}
use Rattle.pw_regs.specs.Seen.{RegistersSeen}
use Rattle.pw_script.specs.declared.script.Line.{Line as line}
use Rattle.pw_load.specs.Seen.{Outputs}
use Rattle.pw_load.specs.Ends.{Work}
use Rattle.pw_load.specs.Steps.{AreHeldBy, IsNoPlanOf, IsOneUnread, IsUnspelled}
use Rattle.pw_runs.specs.declared.script.Missing.{Missing}
use Rattle.pw_runs.specs.declared.script.Missing.TheVariants.{Unread, Fault}
use Rattle.pw_runs.specs.Scripts.{HoldsNoScript, IsNoScript, script_line}
use Rattle.pw_runs.specs.Runs.{IsSerialRun, PrintsRun}

-- # The plan

-- the plan that blocks make, with its notes
pub record IsPlanBy (blocks : List Block) (P : Plan) : Type 0 where
  pub distinct : IsDistinct (places_of (entries_in blocks))
  pub notes : List Note
  pub made : IsPlanFrom (entries_in blocks) P notes

-- to make a plan of blocks
abbrev pub mapping : List Block → Work
mapping blocks = record { text = λ text. ⊥; refusal = IsNoPlanOf blocks; read_fault = ⊥; in_pieces = false }

-- Blocks under these names aren't spelled, or make no plan.
pub data IsNoPlanIn (files : FilesSeen) (names : List (List ℕ)) (status : ℕ) (text : List ℕ) : Type 0 where
  unspelled : IsUnspelled files names status text → IsNoPlanIn files names status text
  unplanned : (blocks : List Block) → AreHeldBy files names blocks → IsNoPlanOf blocks status text → IsNoPlanIn files names status text

-- to make a plan of the blocks in files
abbrev pub readying : FilesSeen → FilesSeen → List (List ℕ) → Work
readying before after names = record {
  text = λ text. ⊥;
  refusal = IsNoPlanIn before names;
  read_fault = IsOneUnread before after names;
  in_pieces = false;
}

-- # The script

-- why bytes give no script
abbrev pub IsWhyNone : Plan → Bool → List ℕ → Missing → Type 0
IsWhyNone P step bytes Unread = ⊥
IsWhyNone P step bytes (Fault fault) = fault ≢ Memory → IsNoScript P step bytes fault

-- why there is no script under a name: a read of it failed, or what is held is none
abbrev pub IsWhyMissing : FilesSeen → FilesSeen → List ℕ → Plan → Bool → Missing → Type 0
IsWhyMissing before after name P step Unread = Rose (before.faults name) (after.faults name)
IsWhyMissing before after name P step (Fault fault) = fault ≢ Memory → OfFiles before (λ holds. HoldsNoScript (holds name) P step fault)

-- under this name no script of the plan is held
pub record IsNotScripted (files : FilesSeen) (P : Plan) (step : Bool) (name : List ℕ) (status : ℕ) (text : List ℕ) : Type 0 where
  pub is : status ≡ 7
  pub fault : ScriptFault
  pub of_bytes : fault ≢ Memory
  pub held : OfFiles files (λ holds. HoldsNoScript (holds name) P step fault)
  pub says : text ≡ script_line fault

-- to read the script of a plan
abbrev pub scripting : FilesSeen → FilesSeen → Plan → Bool → List ℕ → Work
scripting before after P step name = record {
  text = λ text. ⊥;
  refusal = IsNotScripted before P step name;
  read_fault = Rose (before.faults name) (after.faults name);
  in_pieces = false;
}

-- # The run

-- What came of the lines, and what was printed: nothing for want of memory, or a run.
pub data RunsSerially (P : Plan) (lines : List line) (before after : Outputs) (old new : RegistersSeen) : ℕ → List ℕ → List ℕ → Type 0 where
  undone : new ≡ old → RunsSerially P lines before after old new 6 [] (codes "no memory\n")
  ran : {status : ℕ} {written text : List ℕ} {opening : Option ℕ} {es : List HistoryEntry} → IsSerialRun P lines opening es old new
      → PrintsRun P opening es before after status written text → RunsSerially P lines before after old new status written text
