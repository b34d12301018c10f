-- What comes of a script of requests for performance on the machine that blocks describe, where workers make them: one for each processor.
use Rattle.std.specs.Prelude.{◌≡◌, ℕ, false, List, [], codes, Option, None}
use Rattle.std.proofs.Common.{◌⊎◌}
use Rattle.pw_base.specs.Seen.{FilesSeen}
use Rattle.pw_regs.specs.Seen.{RegistersSeen}
use Rattle.pw_load.specs.Seen.{Seen}
use Rattle.pw_load.specs.Ends.{Stops, Work}
use Rattle.pw_load.specs.Steps.{IsOneUnread}
use Rattle.pw_cppc.specs.declared.plan.CppcPlan.{CppcPlan}
use Rattle.pw_cppc.specs.Requests.{opening_bound}
use Rattle.pw_cppc.specs.declared.entry.CppcEntry.{CppcEntry}
use Rattle.pw_cppc.specs.History.{Faultless}
use Rattle.pw_cppc_drive.specs.declared.script.CppcLine.{CppcLine}
use Rattle.pw_cppc_drive.specs.HistoryText.{history_text}
use Rattle.pw_cppc_drive.specs.Reading.{operations, requests_of}
use Rattle.pw_cppc_drive.specs.Driven.{OperatesFor}
use Rattle.pw_cppc_drive.specs.Lawful.{Lawful, TellSeats}
use Rattle.pw_runs.specs.CppcRuns.{AreGiven, IsRefusalOn, IsScriptUnread, PrintsRun}

-- # Without a fault of a register

-- The text of a run by workers in which no register fails: that of a history that the script's lines allow.
pub record IsTextBy (files : FilesSeen) (script : List ℕ) (names : List (List ℕ)) (text : List ℕ) : Type 0 where
  pub plan : CppcPlan
  pub lines : List CppcLine
  pub given : AreGiven files script names plan lines
  pub entries : List CppcEntry
  pub lawful : Lawful plan (requests_of lines) None entries
  pub faultless : Faultless entries
  pub says : text ≡ history_text plan None entries

-- to steer the machine of these blocks by this script, with one worker for each processor: it refuses what a serial run does
abbrev pub steering_together : (script : List ℕ) → (names : List (List ℕ)) → FilesSeen → FilesSeen → Work
steering_together script names before after = record {
  text = IsTextBy before script names;
  refusal = IsRefusalOn before script names;
  read_fault = IsOneUnread before after names ⊎ IsScriptUnread before after script names;
  in_pieces = false;
}

-- # How it ends

-- What came of the lines: a history that they allow, in which each processor has a seat of its own, with the operations that registers saw.
pub record IsRunBy (P : CppcPlan) (lines : List CppcLine) (opening : Option ℕ) (es : List CppcEntry) (old new : RegistersSeen) : Type 0
  where
    pub lawful : Lawful P (requests_of lines) opening es
    -- two entries have the same seat exactly where they have the same processor
    pub seats : TellSeats es
    pub operates : OperatesFor P (operations P lines) opening es old new

-- A machine was steered by workers, or nothing was done: what is given is refused, a file couldn't be read, or memory ran out.
pub data Steers (script : List ℕ) (names : List (List ℕ)) (before after : Seen) : ℕ → List ℕ → List ℕ → Type 0 where
  stopped : {status : ℕ} {text : List ℕ} → Stops (steering_together script names before.files after.files) status text
      → after.regs ≡ before.regs
      → Steers script names before after status [] text
  -- memory ran out behind the operations at the start, before a request was made
  opened : {P : CppcPlan} {lines : List CppcLine} → AreGiven before.files script names P lines
      → OperatesFor P (opening_bound P) None [] before.regs after.regs → Steers script names before after 6 [] (codes "no memory\n")
  steered : {status : ℕ} {written text : List ℕ} {P : CppcPlan} {lines : List CppcLine} {opening : Option ℕ} {es : List CppcEntry}
      → AreGiven before.files script names P lines → IsRunBy P lines opening es before.regs after.regs
      → PrintsRun P opening es before.outputs after.outputs status written text
      → Steers script names before after status written text
