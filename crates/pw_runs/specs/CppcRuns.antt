-- What comes of a script of requests for performance on the machine that blocks describe.
use Rattle.std.specs.Prelude.{◌≡◌, ◌≢◌, ◌≤◌, ℕ, false, List, [], codes, map, take, Option, Some, None}
use Rattle.std.specs.List.{AllByRecursion}
use Rattle.std.proofs.Common.{◌⊎◌}
use Rattle.pw_base.specs.Outside.{Rose}
use Rattle.pw_base.specs.Seen.{FilesSeen, OfFiles}
use Rattle.aml_block.specs.declared.block.Block.{Block}
use Rattle.acpi_space.specs.Namespace.{entries_in}
use Rattle.pw_text.specs.declared.script.ScriptFault.{ScriptFault}
use Rattle.pw_text.specs.declared.script.ScriptFault.TheVariants.{Memory}
use Rattle.pw_text.specs.declared.script.TheConstants.{MOST_OPERATIONS}
use Rattle.pw_plan.specs.declared.parts.CpuParts.{CpuParts}
use Rattle.pw_plan.specs.declared.plan.Plan.{Plan}
use Rattle.pw_regs.specs.Seen.{RegistersSeen}
use Rattle.pw_load.specs.Seen.{Outputs, Seen}
use Rattle.pw_load.specs.Ends.{Stops, Work}
use Rattle.pw_load.specs.Steps.{AreHeldBy, IsNoPlanOf, IsOneUnread, IsUnspelled}
use Rattle.pw_runs.specs.Runs.{ArePlanned, register_line}
use Rattle.pw_runs.specs.Scripts.{script_line}
use Rattle.pw_cppc.specs.declared.plan.CppcPlan.{CppcPlan}
use Rattle.pw_cppc.specs.declared.request.CppcRequest.{CppcRequest}
use Rattle.pw_cppc.specs.Machine.{AreCppcParts}
use Rattle.pw_cppc.specs.declared.entry.CppcEntry.{CppcEntry}
use Rattle.pw_cppc.specs.History.{LawfulSerial, entry_of, stopped_at}
use Rattle.pw_cppc_drive.specs.declared.script.CppcLine.{CppcLine}
use Rattle.pw_cppc_drive.specs.HistoryText.{history_text}
use Rattle.pw_cppc_drive.specs.Reading.{operations, requests_of}
use Rattle.pw_cppc_drive.specs.Driven.{OperatesFor}
use Rattle.pw_runs.specs.CppcScripts.{HoldsNoScript, HoldsScript}

-- # What is driven

-- The files hold blocks under these names, where they tell; the objects of these make the plan of a machine, and this is the plan of its
-- processors' performance.
pub record AreSteered (files : FilesSeen) (names : List (List ℕ)) (P : CppcPlan) : Type 0 where
  pub machine : Plan
  pub planned : ArePlanned files names machine
  pub paths : P.paths ≡ map (λ (c : CpuParts). c.path) machine.cpus
  pub parts : AreCppcParts (entries_in planned.blocks) machine P.cpus

-- This is the plan of the blocks, and these are the lines of the script: of what files hold that tell. No more operations
-- may come of them than of any script.
pub record AreGiven (files : FilesSeen) (script : List ℕ) (names : List (List ℕ)) (P : CppcPlan) (lines : List CppcLine) : Type 0 where
  pub steered : AreSteered files names P
  pub scripted : OfFiles files (λ holds. HoldsScript (holds script) P lines)
  pub few : operations P lines ≤ MOST_OPERATIONS

-- # Without a fault of a register

-- the history of all requests, one after the other
abbrev pub entries_of : List CppcRequest → List CppcEntry
entries_of asked = map (entry_of 0) asked

-- The text of a run in which no register fails: the history of the script's lines, in their order.
pub record IsTextOn (files : FilesSeen) (script : List ℕ) (names : List (List ℕ)) (text : List ℕ) : Type 0 where
  pub plan : CppcPlan
  pub lines : List CppcLine
  pub given : AreGiven files script names plan lines
  pub says : text ≡ history_text plan None (entries_of (requests_of lines))

-- # Why it is refused

-- Under the script's name no script is held, of a plan that the blocks make.
pub record IsUnscripted (files : FilesSeen) (script : List ℕ) (names : List (List ℕ)) (status : ℕ) (text : List ℕ) : Type 0 where
  pub is : status ≡ 7
  pub plan : CppcPlan
  pub steered : AreSteered files names plan
  pub fault : ScriptFault
  pub of_bytes : fault ≢ Memory
  pub held : OfFiles files (λ holds. HoldsNoScript (holds script) plan fault)
  pub says : text ≡ script_line fault

-- The blocks come before the script: they aren't spelled, they make no plan, or else the script is none.
pub data IsRefusalOn (files : FilesSeen) (script : List ℕ) (names : List (List ℕ)) (status : ℕ) (text : List ℕ) : Type 0 where
  unspelled : IsUnspelled files names status text → IsRefusalOn files script names status text
  unplanned : (blocks : List Block) → AreHeldBy files names blocks → IsNoPlanOf blocks status text
      → IsRefusalOn files script names status text
  unscripted : IsUnscripted files script names status text → IsRefusalOn files script names status text

-- a read of the script's file failed, once the blocks had made a plan
pub record IsScriptUnread (before after : FilesSeen) (script : List ℕ) (names : List (List ℕ)) : Type 0 where
  pub plan : CppcPlan
  pub steered : AreSteered before names plan
  pub rose : Rose (before.faults script) (after.faults script)

-- to steer the machine of these blocks by this script, line by line
abbrev pub steering : (script : List ℕ) → (names : List (List ℕ)) → FilesSeen → FilesSeen → Work
steering script names before after = record {
  text = IsTextOn before script names;
  refusal = IsRefusalOn before script names;
  read_fault = IsOneUnread before after names ⊎ IsScriptUnread before after script names;
  in_pieces = false;
}

-- # How it ends

-- What came of the lines: a history in their order, with the operations that registers saw.
pub record IsSerialRun (P : CppcPlan) (lines : List CppcLine) (opening : Option ℕ) (es : List CppcEntry) (old new : RegistersSeen) : Type 0
  where
    pub lawful : LawfulSerial P (requests_of lines) opening es
    pub seats : AllByRecursion (λ (e : CppcEntry). e.seat ≡ 0) es
    pub operates : OperatesFor P (operations P lines) opening es old new

-- Its history was printed, whole or a beginning of it; where a register failed, that is what the status and the line say.
pub data PrintsRun (P : CppcPlan) (opening : Option ℕ) (es : List CppcEntry) (before after : Outputs) : ℕ → List ℕ → List ℕ → Type 0 where
  whole : stopped_at opening es ≡ None → PrintsRun P opening es before after 0 (history_text P opening es) []
  write_fault : (n : ℕ) → stopped_at opening es ≡ None → Rose before.out.faults after.out.faults
      → PrintsRun P opening es before after 4 (take n (history_text P opening es)) (codes "write fault\n")
  failed : {k : ℕ} → stopped_at opening es ≡ Some k → PrintsRun P opening es before after 5 (history_text P opening es) (register_line k)
  failed_write_fault : {k : ℕ} (n : ℕ) → stopped_at opening es ≡ Some k → Rose before.out.faults after.out.faults
      → PrintsRun P opening es before after 5 (take n (history_text P opening es)) (register_line k)
  without_memory : PrintsRun P opening es before after 6 [] (codes "no memory\n")

-- A machine was steered line by line, or nothing was done: what is given is refused, a file couldn't be read, or memory ran out.
pub data SteersSerially (script : List ℕ) (names : List (List ℕ)) (before after : Seen) : ℕ → List ℕ → List ℕ → Type 0 where
  stopped : {status : ℕ} {text : List ℕ} → Stops (steering script names before.files after.files) status text → after.regs ≡ before.regs
      → SteersSerially script names before after status [] text
  steered : {status : ℕ} {written text : List ℕ} {P : CppcPlan} {lines : List CppcLine} {opening : Option ℕ} {es : List CppcEntry}
      → AreGiven before.files script names P lines → IsSerialRun P lines opening es before.regs after.regs
      → PrintsRun P opening es before.outputs after.outputs status written text
      → SteersSerially script names before after status written text
