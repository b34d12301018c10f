-- What comes of a script's lines on the machine that blocks describe.
use Rattle.std.specs.Prelude.{◌≡◌, ◌≢◌, ◌≤◌, ℕ, Bool, false, List, [], ◌∷◌, codes, decimal, map, take, Option, Some, None}
use Rattle.std.specs.List.{AllByRecursion}
use Rattle.std.proofs.Common.{◌⊎◌}
use Rattle.pw_base.specs.Outside.{Rose}
use Rattle.pw_base.specs.Seen.{FilesSeen, OfFiles}
use Rattle.aml_block.specs.declared.block.Block.{Block}
use Rattle.acpi_space.specs.Distinct.{IsDistinct}
use Rattle.acpi_space.specs.Namespace.{entries_in, places_of}
use Rattle.acpi_build.specs.declared.note.Note.{Note}
use Rattle.acpi_build.specs.Planning.{IsPlanFrom}
use Rattle.pw_plan.specs.declared.plan.Plan.{Plan}
use Rattle.pw_plan.specs.declared.request.Request.{Request}
use Rattle.pw_model.specs.declared.entry.HistoryEntry.{HistoryEntry}
use Rattle.pw_model.specs.History.{entry_of}
use Rattle.pw_regs.specs.Seen.{RegistersSeen}
use Rattle.pw_text.specs.Lines.{line_of}
use Rattle.pw_text.specs.declared.script.ScriptFault.{ScriptFault}
use Rattle.pw_text.specs.declared.script.ScriptFault.TheVariants.{Memory}
use Rattle.pw_text.specs.declared.script.TheConstants.{MOST_OPERATIONS}
use Rattle.pw_script.specs.declared.script.Line.{Line as line}
use Rattle.pw_script.specs.HistoryText.{history_text}
use Rattle.pw_script.specs.Lawful.{LawfulSerial}
use Rattle.pw_script.specs.Reading.{operations, requests_of}
use Rattle.pw_drive.specs.Driven.{OperatesFor, stopped_at}
use Rattle.pw_load.specs.Seen.{Outputs, Seen}
use Rattle.pw_load.specs.Ends.{Stops, Work}
use Rattle.pw_load.specs.Steps.{AreHeldBy, IsNoPlanOf, IsOneUnread, IsUnspelled}
use Rattle.pw_runs.specs.Scripts.{HoldsNoScript, HoldsScript, script_line}

-- # What is driven

-- The files hold blocks under these names, where they tell, and the objects of these make the plan.
pub record ArePlanned (files : FilesSeen) (names : List (List ℕ)) (P : Plan) : Type 0 where
  pub blocks : List Block
  pub held : AreHeldBy files names blocks
  pub distinct : IsDistinct (places_of (entries_in blocks))
  pub notes : List Note
  pub made : IsPlanFrom (entries_in blocks) P notes

-- This is the plan of the blocks, and these are the lines of the script: of what files hold that tell. No more operations
-- may come of them than of any script.
pub record AreGiven (files : FilesSeen) (step : Bool) (script : List ℕ) (names : List (List ℕ)) (P : Plan) (lines : List line) : Type 0
  where
    pub planned : ArePlanned files names P
    pub scripted : OfFiles files (λ holds. HoldsScript (holds script) P step lines)
    pub few : operations P lines ≤ MOST_OPERATIONS

-- # Without a fault of a register

-- the history of all requests, one after the other
abbrev pub entries_of : List Request → List HistoryEntry
entries_of asked = map (entry_of 0) asked

-- The text of a serial drive in which no register fails: the history of the script's lines, in their order.
pub record IsTextOn (files : FilesSeen) (step : Bool) (script : List ℕ) (names : List (List ℕ)) (text : List ℕ) : Type 0 where
  pub plan : Plan
  pub lines : List line
  pub given : AreGiven files step script names plan lines
  pub says : text ≡ history_text plan None (entries_of (requests_of lines))

-- # Why it is refused

-- Under the script's name no script is held, of a plan that the blocks make.
pub record IsUnscripted (files : FilesSeen) (step : Bool) (script : List ℕ) (names : List (List ℕ)) (status : ℕ) (text : List ℕ) : Type 0
  where
    pub is : status ≡ 7
    pub plan : Plan
    pub planned : ArePlanned files names plan
    pub fault : ScriptFault
    pub of_bytes : fault ≢ Memory
    pub held : OfFiles files (λ holds. HoldsNoScript (holds script) plan step fault)
    pub says : text ≡ script_line fault

-- The blocks come before the script: they aren't spelled, they make no plan, or else the script is none.
pub data IsRefusalOn (files : FilesSeen) (step : Bool) (script : List ℕ) (names : List (List ℕ)) (status : ℕ) (text : List ℕ) : Type 0 where
  unspelled : IsUnspelled files names status text → IsRefusalOn files step script names status text
  unplanned : (blocks : List Block) → AreHeldBy files names blocks → IsNoPlanOf blocks status text
      → IsRefusalOn files step script names status text
  unscripted : IsUnscripted files step script names status text → IsRefusalOn files step script names status text

-- a read of the script's file failed, once the blocks had made a plan
pub record IsScriptUnread (before after : FilesSeen) (script : List ℕ) (names : List (List ℕ)) : Type 0 where
  pub plan : Plan
  pub planned : ArePlanned before names plan
  pub rose : Rose (before.faults script) (after.faults script)

-- to drive the machine of these blocks by this script, line by line
abbrev pub driving : (step : Bool) → (script : List ℕ) → (names : List (List ℕ)) → FilesSeen → FilesSeen → Work
driving step script names before after = record {
  text = IsTextOn before step script names;
  refusal = IsRefusalOn before step script names;
  read_fault = IsOneUnread before after names ⊎ IsScriptUnread before after script names;
  in_pieces = false;
}

-- # How it ends

-- What came of the lines: a history in their order, with the operations that registers saw.
pub record IsSerialRun (P : Plan) (lines : List line) (opening : Option ℕ) (es : List HistoryEntry) (old new : RegistersSeen) : Type 0 where
  pub lawful : LawfulSerial P (requests_of lines) opening es
  pub seats : AllByRecursion (λ (e : HistoryEntry). e.seat ≡ 0) es
  pub operates : OperatesFor P (operations P lines) opening es old new

-- the line where a register failed after so many operations of the opening or of a request
abbrev pub register_line : ℕ → List ℕ
register_line k = line_of (codes "register" ∷ codes "fault" ∷ codes "after" ∷ decimal k ∷ [])

-- Its history was printed, whole or a beginning of it; where a register failed, that is what the status and the line say.
pub data PrintsRun (P : Plan) (opening : Option ℕ) (es : List HistoryEntry) (before after : Outputs) : ℕ → List ℕ → List ℕ → Type 0 where
  whole : stopped_at opening es ≡ None → PrintsRun P opening es before after 0 (history_text P opening es) []
  write_fault : (n : ℕ) → stopped_at opening es ≡ None → Rose before.out.faults after.out.faults
      → PrintsRun P opening es before after 4 (take n (history_text P opening es)) (codes "write fault\n")
  failed : {k : ℕ} → stopped_at opening es ≡ Some k → PrintsRun P opening es before after 5 (history_text P opening es) (register_line k)
  failed_write_fault : {k : ℕ} (n : ℕ) → stopped_at opening es ≡ Some k → Rose before.out.faults after.out.faults
      → PrintsRun P opening es before after 5 (take n (history_text P opening es)) (register_line k)
  without_memory : PrintsRun P opening es before after 6 [] (codes "no memory\n")

-- A machine was driven line by line, or nothing was done: what is given is refused, a file couldn't be read, or memory ran out.
pub data DrivesSerially (step : Bool) (script : List ℕ) (names : List (List ℕ)) (before after : Seen) : ℕ → List ℕ → List ℕ → Type 0 where
  stopped : {status : ℕ} {text : List ℕ} → Stops (driving step script names before.files after.files) status text → after.regs ≡ before.regs
      → DrivesSerially step script names before after status [] text
  drove : {status : ℕ} {written text : List ℕ} {P : Plan} {lines : List line} {opening : Option ℕ} {es : List HistoryEntry}
      → AreGiven before.files step script names P lines → IsSerialRun P lines opening es before.regs after.regs
      → PrintsRun P opening es before.outputs after.outputs status written text
      → DrivesSerially step script names before after status written text
