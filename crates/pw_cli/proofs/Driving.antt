-- A drive on one thread as the work of a command, unless a register failed.
use Rattle.std.proofs.Common.{◌≡◌, ℕ, Bool, List, Option, Some, None, inl, inr, ◌⊎◌, refl, ap}
use Rattle.std.specs.Prelude.{is_some}
use Rattle.pw_base.specs.Outside.{Rose}
use Rattle.pw_plan.specs.declared.plan.Plan.{Plan}
use Rattle.pw_model.specs.declared.entry.HistoryEntry.{HistoryEntry}
use Rattle.pw_script.specs.declared.script.Line.{Line as line}
use Rattle.pw_script.specs.HistoryText.{history_text}
use Rattle.pw_script.specs.Reading.{requests_of}
use Rattle.pw_drive.specs.Driven.{stopped_at}
use Rattle.pw_load.specs.Seen.{Seen}
use Rattle.pw_load.specs.Ends.{Does}
use Rattle.pw_load.specs.Ends.Stops.{without_memory as no_memory}
use Rattle.pw_load.specs.Ends.Prints.{whole as all_printed, write_fault as part_printed}
use Rattle.pw_load.specs.Ends.Does.{stopped as stops, printed as printed_so}
use Rattle.pw_runs.specs.Runs.{AreGiven, DrivesSerially, IsSerialRun, IsTextOn, PrintsRun, driving, entries_of}
use Rattle.pw_runs.specs.Runs.DrivesSerially.{stopped, drove}
use Rattle.pw_runs.specs.Runs.PrintsRun.{whole, write_fault, failed, failed_write_fault, without_memory}
use Rattle.pw_runs.proofs.Histories.{whole_history}

-- a register failed, and without that there is a text
pub record Failed (step : Bool) (script : List ℕ) (names : List (List ℕ)) (before after : Seen) (status : ℕ) : Type 0 where
  pub five : status ≡ 5
  pub rose : Rose before.regs.faults after.regs.faults
  pub text : List ℕ
  pub made : IsTextOn before.files step script names text

module _ (step : Bool) (script : List ℕ) (names : List (List ℕ)) (before after : Seen) where
  text_of : {P : Plan} {lines : List line} {opening : Option ℕ} {es : List HistoryEntry} → AreGiven before.files step script names P lines
      → IsSerialRun P lines opening es before.regs after.regs → stopped_at opening es ≡ None → IsTextOn before.files step script names (history_text P opening es)
  text_of {P} {lines} {opening} {es} given run none =
      record { plan = P; lines = lines; given = given; says = whole_history P lines opening es before.regs after.regs run none }

  failed_of : {P : Plan} {lines : List line} {opening : Option ℕ} {es : List HistoryEntry} {k : ℕ} → AreGiven before.files step script names P lines
      → IsSerialRun P lines opening es before.regs after.regs → stopped_at opening es ≡ Some k → Failed step script names before after 5
  failed_of {P} {lines} {opening} {es} {k} given run at = record {
    five = refl;
    rose = run.operates.fault (ap is_some at);
    text = history_text P None (entries_of (requests_of lines));
    made = record { plan = P; lines = lines; given = given; says = refl };
  }

  -- what was printed of a run
  by_print : (P : Plan) (lines : List line) (opening : Option ℕ) (es : List HistoryEntry) → AreGiven before.files step script names P lines
      → IsSerialRun P lines opening es before.regs after.regs → (status : ℕ) (text said : List ℕ) → PrintsRun P opening es before.outputs after.outputs status text said
      → Does (driving step script names before.files after.files) before.outputs after.outputs status text said ⊎ Failed step script names before after status
  by_print P lines opening es given run status text said (whole none) = inl (printed_so (text_of given run none) all_printed)
  by_print P lines opening es given run status text said (write_fault n none rose) = inl (printed_so (text_of given run none) (part_printed n rose))
  by_print P lines opening es given run status text said (failed at) = inr (failed_of given run at)
  by_print P lines opening es given run status text said (failed_write_fault n at rose) = inr (failed_of given run at)
  by_print P lines opening es given run status text said without_memory = inl (stops no_memory)

  -- It stops or prints as a command does, or a register failed.
  pub does_or_failed : (status : ℕ) (text said : List ℕ) → DrivesSerially step script names before after status text said
      → Does (driving step script names before.files after.files) before.outputs after.outputs status text said ⊎ Failed step script names before after status
  does_or_failed status text said (stopped way same) = inl (stops way)
  does_or_failed status text said (drove {P = P} {lines = lines} {opening = opening} {es = es} given run prints) = by_print P lines opening es given run status text said prints
