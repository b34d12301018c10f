-- How a history was printed.
use Rattle.std.proofs.Common.{◌≡◌, ℕ, true, List, [], ◌++◌, Option, Some, None, Result, Ok, Err, OnOk, take, codes, refl, sym, ap, ◌∙◌}
use Rattle.std.proofs.lemmas.List.{append-nil}
use Rattle.pw_base.specs.declared.sink.Sink.{Ghosts as Sink}
use Rattle.pw_base.specs.Outside.{GrewByPart, Rose}
use Rattle.pw_base.specs.Seen.{sink_seen, GrewByLine}
use Rattle.pw_text.specs.declared.fault.PrintFault.{PrintFault}
use Rattle.pw_text.specs.declared.fault.PrintFault.TheVariants as faults
use Rattle.pw_load.specs.Seen.{outputs_seen}
use Rattle.pw_load.specs.Ends.{Ended, print_line, print_status}
use Rattle.pw_load.proofs.Outcomes.{part_taken}
use Rattle.pw_runs.specs.Failing.{failed_line, failed_status}
use Rattle.pw_runs.specs.Runs.{register_line}
use Rattle.pw_cppc.specs.declared.plan.CppcPlan.{CppcPlan}
use Rattle.pw_cppc.specs.declared.entry.CppcEntry.{CppcEntry}
use Rattle.pw_cppc.specs.History.{stopped_at}
use Rattle.pw_cppc_drive.specs.HistoryText.{history_text}
use Rattle.pw_runs.specs.CppcRuns.{PrintsRun}
use Rattle.pw_runs.specs.CppcRuns.PrintsRun.{whole, write_fault, failed, failed_write_fault, without_memory}

module _ {S : Type 0} (K : Sink S) (out out' err err' : S) (P : CppcPlan) (opening : Option ℕ) (es : List CppcEntry) where
  abbrev Printed : ℕ → Type 0
  Printed status =
      Ended (PrintsRun P opening es (outputs_seen K out err) (outputs_seen K out' err')) (outputs_seen K out err) (outputs_seen K out' err') status

  abbrev text : List ℕ
  text = history_text P opening es

  nothing : out' ≡ out → K.told out ≡ true → K.written out' ≡ K.written out ++ []
  nothing same tells = ap K.written same ∙ sym (append-nil (K.written out))

  -- where no register failed
  pub printed_whole : stopped_at opening es ≡ None → (outcome : Result (Unit {0}) PrintFault) → OnOk outcome (K.told out ≡ true → K.written out' ≡ K.written out ++ text)
      → (K.told out ≡ true → GrewByPart (K.written out) (K.written out') text) → (outcome ≡ Err faults.Sink → Rose (K.faults out) (K.faults out'))
      → (outcome ≡ Err faults.Memory → out' ≡ out) → GrewByLine (sink_seen K err) (sink_seen K err') (print_line outcome) → Printed (print_status outcome)
  printed_whole none (Ok x) all part sink memory said = record { text = text; line = []; way = whole none; on_out = all; on_err = said }
  printed_whole none (Err faults.Sink) all part sink memory said =
      let taken = part_taken (K.told out) (K.written out) (K.written out') text part in
      record { text = take taken.0 text; line = codes "write fault\n"; way = write_fault taken.0 none (sink refl); on_out = taken.1; on_err = said }
  printed_whole none (Err faults.Memory) all part sink memory said =
      record { text = []; line = codes "no memory\n"; way = without_memory; on_out = nothing (memory refl); on_err = said }

  -- where one failed after so many operations
  pub printed_failed : (k : ℕ) → stopped_at opening es ≡ Some k → (outcome : Result (Unit {0}) PrintFault)
      → OnOk outcome (K.told out ≡ true → K.written out' ≡ K.written out ++ text)
      → (K.told out ≡ true → GrewByPart (K.written out) (K.written out') text) → (outcome ≡ Err faults.Sink → Rose (K.faults out) (K.faults out'))
      → (outcome ≡ Err faults.Memory → out' ≡ out) → GrewByLine (sink_seen K err) (sink_seen K err') (failed_line k outcome) → Printed (failed_status outcome)
  printed_failed k at (Ok x) all part sink memory said = record { text = text; line = register_line k; way = failed at; on_out = all; on_err = said }
  printed_failed k at (Err faults.Sink) all part sink memory said =
      let taken = part_taken (K.told out) (K.written out) (K.written out') text part in
      record { text = take taken.0 text; line = register_line k; way = failed_write_fault taken.0 at (sink refl); on_out = taken.1; on_err = said }
  printed_failed k at (Err faults.Memory) all part sink memory said =
      record { text = []; line = codes "no memory\n"; way = without_memory; on_out = nothing (memory refl); on_err = said }
