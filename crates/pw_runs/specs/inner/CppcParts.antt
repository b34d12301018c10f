-- What the parts of a run do.
use Rattle.std.specs.Prelude.{◌≡◌, ◌≢◌, ℕ, false, List, [], codes, Option}
use Rattle.pw_base.specs.Outside.{Rose}
use Rattle.pw_base.specs.Seen.{FilesSeen, OfFiles}
use Rattle.aml_block.specs.declared.block.Block.{Block}
use Rattle.acpi_space.specs.Distinct.{IsDistinct}
use Rattle.acpi_space.specs.Namespace.{entries_in, places_of}
use Rattle.pw_text.specs.declared.script.ScriptFault.{ScriptFault}
use Rattle.pw_text.specs.declared.script.ScriptFault.TheVariants.{Memory}
use Rattle.pw_regs.specs.Seen.{RegistersSeen}
use Rattle.pw_load.specs.Seen.{Outputs}
use Rattle.pw_load.specs.Ends.{Work}
use Rattle.pw_runs.specs.Scripts.{script_line}
use Rattle.pw_cppc.specs.declared.plan.CppcPlan.{CppcPlan}
use Rattle.pw_cppc.specs.SpacePlan.{IsPlanOver}
use Rattle.pw_cppc.specs.declared.entry.CppcEntry.{CppcEntry}
use Rattle.pw_cppc_drive.specs.declared.script.CppcLine.{CppcLine}
use Rattle.pw_cppc_drive.specs.Reading.{IsNoScript}
use Rattle.pw_runs.specs.CppcRuns.{IsSerialRun, PrintsRun}
use Rattle.pw_runs.specs.CppcScripts.{HoldsNoScript}

-- # The plan

-- the one that blocks make
pub record IsPlanBy (blocks : List Block) (P : CppcPlan) : Type 0 where
  pub distinct : IsDistinct (places_of (entries_in blocks))
  pub over : IsPlanOver (entries_in blocks) P

-- # The script

-- these bytes are no script of the plan
pub record IsUnparsed (P : CppcPlan) (bytes : List ℕ) (status : ℕ) (text : List ℕ) : Type 0 where
  pub is : status ≡ 7
  pub fault : ScriptFault
  pub of_bytes : fault ≢ Memory
  pub fails : IsNoScript P bytes fault
  pub says : text ≡ script_line fault

-- to parse bytes as a script of a plan
abbrev pub parsing : CppcPlan → List ℕ → Work
parsing P bytes = record { text = λ text. ⊥; refusal = IsUnparsed P bytes; read_fault = ⊥; in_pieces = false }

-- under this name no script of the plan is held
pub record IsNotScripted (files : FilesSeen) (P : CppcPlan) (name : List ℕ) (status : ℕ) (text : List ℕ) : Type 0 where
  pub is : status ≡ 7
  pub fault : ScriptFault
  pub of_bytes : fault ≢ Memory
  pub held : OfFiles files (λ holds. HoldsNoScript (holds name) P fault)
  pub says : text ≡ script_line fault

-- to read the script of a plan
abbrev pub scripting : FilesSeen → FilesSeen → CppcPlan → List ℕ → Work
scripting before after P name = record {
  text = λ text. ⊥;
  refusal = IsNotScripted before P name;
  read_fault = Rose (before.faults name) (after.faults name);
  in_pieces = false;
}

-- # The run

-- What came of the lines, and what was printed: nothing for want of memory, or a run.
pub data RunsSerially (P : CppcPlan) (lines : List CppcLine) (before after : Outputs) (old new : RegistersSeen) : ℕ → List ℕ → List ℕ
    → Type 0 where
  undone : new ≡ old → RunsSerially P lines before after old new 6 [] (codes "no memory\n")
  ran : {status : ℕ} {written text : List ℕ} {opening : Option ℕ} {es : List CppcEntry} → IsSerialRun P lines opening es old new
      → PrintsRun P opening es before after status written text → RunsSerially P lines before after old new status written text
