-- A drive by workers as the work of a command, unless a register failed.
use Rattle.std.proofs.Common.{◌≡◌, ℕ, Bool, true, List, Option, Some, None, inl, inr, ◌⊎◌, refl, ap}
use Rattle.std.specs.Prelude.{is_some}
use Rattle.pw_base.specs.Outside.{Rose}
use Rattle.pw_plan.specs.declared.plan.Plan.{Plan}
use Rattle.pw_model.specs.declared.entry.HistoryEntry.{HistoryEntry}
use Rattle.pw_model.proofs.Joining.{fault_none}
use Rattle.pw_turns.specs.declared.close.Sealed.{Sealed}
use Rattle.pw_script.specs.declared.script.Line.{Line as line}
use Rattle.pw_script.specs.HistoryText.{history_text}
use Rattle.pw_script.specs.Reading.{requests_of}
use Rattle.pw_drive.specs.Driven.{stopped_at}
use Rattle.pw_drive.specs.Drives.{Runs}
use Rattle.pw_load.specs.Seen.{Seen}
use Rattle.pw_load.specs.Ends.{Does}
use Rattle.pw_load.specs.Ends.Stops.{without_memory as no_memory}
use Rattle.pw_load.specs.Ends.Prints.{whole as all_printed, write_fault as part_printed}
use Rattle.pw_load.specs.Ends.Does.{stopped as stops, printed as printed_so}
use Rattle.pw_runs.specs.Runs.{AreGiven, IsTextOn, PrintsRun, entries_of}
use Rattle.pw_runs.specs.Runs.PrintsRun.{whole, write_fault, failed, failed_write_fault, without_memory}
use Rattle.pw_runs.specs.Workers.{Drives, IsTextBy, working}
use Rattle.pw_runs.specs.Workers.Drives.{stopped, opened, drove}
use Rattle.pw_runs.proofs.Many.{serial_text_is_one}

-- a register failed, and without that there is a text, where the files tell
pub record Failed (step : Bool) (script : List ℕ) (names : List (List ℕ)) (before after : Seen) (status : ℕ) : Type 0 where
  pub five : status ≡ 5
  pub rose : Rose before.regs.faults after.regs.faults
  pub made : before.files.told ≡ true → (text : List ℕ) × IsTextBy before.files step script names text

module _ (step : Bool) (script : List ℕ) (names : List (List ℕ)) (sealed : Option Sealed) (before after : Seen) where
  -- a run in which no register failed
  text_of : {P : Plan} {lines : List line} (opening : Option ℕ) {es : List HistoryEntry} → AreGiven before.files step script names P lines
      → Runs P lines opening es before.regs after.regs → stopped_at opening es ≡ None → IsTextBy before.files step script names (history_text P opening es)
  text_of (Some k) given run none = absurd (cc)
  text_of {P} {lines} None {es} given run none =
      record { plan = P; lines = lines; given = given; entries = es; lawful = run.lawful; faultless = fault_none es none; says = refl }

  failed_of : {P : Plan} {lines : List line} {opening : Option ℕ} {es : List HistoryEntry} {k : ℕ} → AreGiven before.files step script names P lines
      → Runs P lines opening es before.regs after.regs → stopped_at opening es ≡ Some k → Failed step script names before after 5
  failed_of {P} {lines} {opening} {es} {k} given run at =
      let text = history_text P None (entries_of (requests_of lines)) in
      let serial : IsTextOn before.files step script names text = record { plan = P; lines = lines; given = given; says = refl } in
      record {
        five = refl;
        rose = run.operates.fault (ap is_some at);
        made = λ tells. (text, serial_text_is_one before.files step script names text tells serial);
      }

  -- what was printed of a run
  by_print : (P : Plan) (lines : List line) (opening : Option ℕ) (es : List HistoryEntry) → AreGiven before.files step script names P lines
      → Runs P lines opening es before.regs after.regs → (status : ℕ) (text said : List ℕ) → PrintsRun P opening es before.outputs after.outputs status text said
      → Does (working step script names before.files after.files) before.outputs after.outputs status text said ⊎ Failed step script names before after status
  by_print P lines opening es given run status text said (whole none) = inl (printed_so (text_of opening given run none) all_printed)
  by_print P lines opening es given run status text said (write_fault n none rose) = inl (printed_so (text_of opening given run none) (part_printed n rose))
  by_print P lines opening es given run status text said (failed at) = inr (failed_of given run at)
  by_print P lines opening es given run status text said (failed_write_fault n at rose) = inr (failed_of given run at)
  by_print P lines opening es given run status text said without_memory = inl (stops no_memory)

  -- It stops or prints as a command does, or a register failed.
  pub does_or_failed : (status : ℕ) (text said : List ℕ) → Drives step script names sealed before after status text said
      → Does (working step script names before.files after.files) before.outputs after.outputs status text said ⊎ Failed step script names before after status
  does_or_failed status text said (stopped way same unsealed) = inl (stops way)
  does_or_failed status text said (opened given opens unsealed) = inl (stops no_memory)
  does_or_failed status text said (drove {P = P} {lines = lines} {opening = opening} {es = es} given run prints seals) = by_print P lines opening es given run status text said prints
