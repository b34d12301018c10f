-- A run as the work of a command, unless a register failed.
use Rattle.std.proofs.Common.{◌≡◌, ℕ, true, List, Option, Some, None, inl, inr, ◌⊎◌, refl, ap}
use Rattle.std.specs.Prelude.{is_some}
use Rattle.pw_base.specs.Outside.{Rose}
use Rattle.pw_load.specs.Seen.{Seen}
use Rattle.pw_load.specs.Ends.{Does, Work}
use Rattle.pw_load.specs.Ends.Stops.{without_memory as no_memory}
use Rattle.pw_load.specs.Ends.Prints.{whole as all_printed, write_fault as part_printed}
use Rattle.pw_load.specs.Ends.Does.{stopped as stops, printed as printed_so}
use Rattle.pw_cppc.specs.declared.plan.CppcPlan.{CppcPlan}
use Rattle.pw_cppc.specs.declared.entry.CppcEntry.{CppcEntry}
use Rattle.pw_cppc.specs.History.{stopped_at}
use Rattle.pw_cppc.proofs.Joining.{fault_none}
use Rattle.pw_cppc_drive.specs.declared.script.CppcLine.{CppcLine}
use Rattle.pw_cppc_drive.specs.HistoryText.{history_text}
use Rattle.pw_cppc_drive.specs.Reading.{requests_of}
use Rattle.pw_cppc_drive.specs.Driven.{OperatesFor}
use Rattle.pw_runs.specs.CppcRuns.{AreGiven, IsTextOn, PrintsRun, SteersSerially, entries_of, steering}
use Rattle.pw_runs.specs.CppcRuns.SteersSerially.{stopped, steered}
use Rattle.pw_runs.specs.CppcRuns.PrintsRun.{whole, write_fault, failed, failed_write_fault, without_memory}
use Rattle.pw_runs.specs.CppcWorkers.{IsRunBy, IsTextBy, Steers, steering_together}
use Rattle.pw_runs.specs.CppcWorkers.Steers.{stopped as stopped_by, opened as opened_by, steered as steered_by}
use Rattle.pw_runs.proofs.CppcHistories.{whole_history}
use Rattle.pw_runs.proofs.CppcMany.{serial_text_is_one}

-- a register failed, and without that there is a text, where the files tell
pub record Failed (work : Work) (before after : Seen) (status : ℕ) : Type 0 where
  pub five : status ≡ 5
  pub rose : Rose before.regs.faults after.regs.faults
  pub made : before.files.told ≡ true → (text : List ℕ) × work.text text

-- what was printed of a run, by what is known of it where no register failed, and where one did
module _ (work : Work) (before after : Seen) (P : CppcPlan) (most : ℕ) (opening : Option ℕ) (es : List CppcEntry)
    (operates : OperatesFor P most opening es before.regs after.regs) (text_of : stopped_at opening es ≡ None → work.text (history_text P opening es))
    (made : before.files.told ≡ true → (text : List ℕ) × work.text text) where
  failed_of : (k : ℕ) → stopped_at opening es ≡ Some k → Failed work before after 5
  failed_of k at = record { five = refl; rose = operates.fault (ap is_some at); made = made }

  by_print : (status : ℕ) (text said : List ℕ) → PrintsRun P opening es before.outputs after.outputs status text said
      → Does work before.outputs after.outputs status text said ⊎ Failed work before after status
  by_print status text said (whole none) = inl (printed_so (text_of none) all_printed)
  by_print status text said (write_fault n none rose) = inl (printed_so (text_of none) (part_printed n rose))
  by_print status text said (failed {k} at) = inr (failed_of k at)
  by_print status text said (failed_write_fault {k} n at rose) = inr (failed_of k at)
  by_print status text said without_memory = inl (stops no_memory)

module _ (script : List ℕ) (names : List (List ℕ)) (before after : Seen) where
  -- the text of lines in their order
  serial_text : (P : CppcPlan) (lines : List CppcLine) → AreGiven before.files script names P lines
      → IsTextOn before.files script names (history_text P None (entries_of (requests_of lines)))
  serial_text P lines given = record { plan = P; lines = lines; given = given; says = refl }

  -- A serial run stops or prints as a command does, or a register failed.
  pub does_or_failed : (status : ℕ) (text said : List ℕ) → SteersSerially script names before after status text said
      → Does (steering script names before.files after.files) before.outputs after.outputs status text said
      ⊎ Failed (steering script names before.files after.files) before after status
  does_or_failed status text said (stopped way same) = inl (stops way)
  does_or_failed status text said (steered {P = P} {lines = lines} {opening = opening} {es = es} given run prints) =
      by_print (steering script names before.files after.files) before after P _ opening es run.operates
      (λ none. record { plan = P; lines = lines; given = given; says = whole_history P lines opening es before.regs after.regs run none })
      (λ tells. (_, serial_text P lines given)) status text said prints

  -- the text of a run by workers in which no register failed
  text_by : (P : CppcPlan) (lines : List CppcLine) (opening : Option ℕ) (es : List CppcEntry) → AreGiven before.files script names P lines
      → IsRunBy P lines opening es before.regs after.regs → stopped_at opening es ≡ None → IsTextBy before.files script names (history_text P opening es)
  text_by P lines (Some k) es given run none = absurd (cc)
  text_by P lines None es given run none =
      record { plan = P; lines = lines; given = given; entries = es; lawful = run.lawful; faultless = fault_none es none; says = refl }

  -- So does a run by workers.
  pub works_or_failed : (status : ℕ) (text said : List ℕ) → Steers script names before after status text said
      → Does (steering_together script names before.files after.files) before.outputs after.outputs status text said
      ⊎ Failed (steering_together script names before.files after.files) before after status
  works_or_failed status text said (stopped_by way same) = inl (stops way)
  works_or_failed status text said (opened_by given opens) = inl (stops no_memory)
  works_or_failed status text said (steered_by {P = P} {lines = lines} {opening = opening} {es = es} given run prints) =
      by_print (steering_together script names before.files after.files) before after P _ opening es run.operates
      (text_by P lines opening es given run)
      (λ tells. (_, serial_text_is_one before.files script names _ tells (serial_text P lines given))) status text said prints
