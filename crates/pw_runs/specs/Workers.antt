-- What comes of a script's lines on the machine that blocks describe, where workers make them: one for each processor.
use Rattle.std.specs.Prelude.{◌≡◌, ◌≢◌, ℕ, Bool, true, false, List, [], codes, Option, Some, None, is_some}
use Rattle.std.proofs.Common.{◌⊎◌}
use Rattle.pw_base.specs.Seen.{FilesSeen}
use Rattle.pw_plan.specs.declared.plan.Plan.{Plan}
use Rattle.pw_model.specs.declared.entry.HistoryEntry.{HistoryEntry}
use Rattle.pw_model.specs.History.{Faultless}
use Rattle.pw_turns.specs.declared.close.Sealed.{Sealed}
use Rattle.pw_script.specs.declared.script.Line.{Line as line}
use Rattle.pw_script.specs.HistoryText.{history_text}
use Rattle.pw_script.specs.Lawful.{Lawful}
use Rattle.pw_script.specs.Reading.{requests_of}
use Rattle.pw_drive.specs.Drives.{Opens, Runs}
use Rattle.pw_load.specs.Seen.{Seen}
use Rattle.pw_load.specs.Ends.{Stops, Work}
use Rattle.pw_load.specs.Steps.{IsOneUnread}
use Rattle.pw_runs.specs.Runs.{AreGiven, IsRefusalOn, IsScriptUnread, PrintsRun}

-- # Without a fault of a register

-- The text of a drive by workers in which no register fails: that of a history that the script's lines allow.
pub record IsTextBy (files : FilesSeen) (step : Bool) (script : List ℕ) (names : List (List ℕ)) (text : List ℕ) : Type 0 where
  pub plan : Plan
  pub lines : List line
  pub given : AreGiven files step script names plan lines
  pub entries : List HistoryEntry
  pub lawful : Lawful plan (requests_of lines) None entries
  pub faultless : Faultless entries
  pub says : text ≡ history_text plan None entries

-- to drive the machine of these blocks by this script, with one worker for each processor: it refuses what a serial drive does
abbrev pub working : (step : Bool) → (script : List ℕ) → (names : List (List ℕ)) → FilesSeen → FilesSeen → Work
working step script names before after = record {
  text = IsTextBy before step script names;
  refusal = IsRefusalOn before step script names;
  read_fault = IsOneUnread before after names ⊎ IsScriptUnread before after script names;
  in_pieces = false;
}

-- # How it ends

-- What is handed on of the coordinator: what its closing gave, where the start was made and the status is 0 or 5; else nothing.
pub record Seals (P : Plan) (opening : Option ℕ) (es : List HistoryEntry) (status : ℕ) (sealed : Option Sealed) : Type 0 where
  pub given : opening ≡ None → (status ≡ 0) ⊎ (status ≡ 5) → (s : Sealed) × (sealed ≡ Some s) × (s.plan ≡ P) × (s.entries ≡ es)
  pub unopened : is_some opening ≡ true → sealed ≡ None
  pub unended : status ≢ 0 → status ≢ 5 → sealed ≡ None

-- A machine was driven by workers, or nothing was done: what is given is refused, a file couldn't be read, or memory ran out.
pub data Drives (step : Bool) (script : List ℕ) (names : List (List ℕ)) (sealed : Option Sealed) (before after : Seen) : ℕ → List ℕ → List ℕ
    → Type 0 where
  stopped : {status : ℕ} {text : List ℕ} → Stops (working step script names before.files after.files) status text → after.regs ≡ before.regs
      → sealed ≡ None
      → Drives step script names sealed before after status [] text
  -- memory ran out behind the operations at the start, before a request was made
  opened : {P : Plan} {lines : List line} → AreGiven before.files step script names P lines → Opens P before.regs after.regs → sealed ≡ None
      → Drives step script names sealed before after 6 [] (codes "no memory\n")
  drove : {status : ℕ} {written text : List ℕ} {P : Plan} {lines : List line} {opening : Option ℕ} {es : List HistoryEntry}
      → AreGiven before.files step script names P lines → Runs P lines opening es before.regs after.regs
      → PrintsRun P opening es before.outputs after.outputs status written text → Seals P opening es status sealed
      → Drives step script names sealed before after status written text
