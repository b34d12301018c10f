-- Registers with room for all operations of a script never fail, whoever makes its lines.
use Rattle.std.proofs.Common.{◌≡◌, ◌≤◌, ℕ, List, [], Option, Some, None, inl, inr, ◌⊎◌, ap, arith}
use Rattle.pw_text.specs.declared.script.TheConstants.{MOST_OPERATIONS}
use Rattle.pw_regs.specs.Seen.{RegistersSeen}
use Rattle.pw_load.specs.Seen.{Seen}
use Rattle.pw_load.specs.Ends.{Stops, Work}
use Rattle.pw_load.specs.Ends.Stops.{refused, read_fault}
use Rattle.pw_load.specs.Ends.Stops.{without_memory as no_memory}
use Rattle.pw_cppc.specs.declared.plan.CppcPlan.{CppcPlan}
use Rattle.pw_cppc.specs.Requests.{opening_bound}
use Rattle.pw_cppc.specs.declared.entry.CppcEntry.{CppcEntry}
use Rattle.pw_cppc.specs.History.{stopped_at}
use Rattle.pw_cppc_drive.specs.declared.script.CppcLine.{CppcLine}
use Rattle.pw_cppc_drive.specs.Reading.{operations}
use Rattle.pw_cppc_drive.specs.Driven.{OperatesFor}
use Rattle.pw_runs.specs.CppcRuns.{PrintsRun, SteersSerially, steering}
use Rattle.pw_runs.specs.CppcRuns.SteersSerially.{stopped, steered}
use Rattle.pw_runs.specs.CppcRuns.PrintsRun.{whole, write_fault, failed, failed_write_fault, without_memory}
use Rattle.pw_runs.specs.CppcWorkers.{Steers, steering_together}
use Rattle.pw_runs.specs.CppcWorkers.Steers.{stopped as stopped_by, opened as opened_by, steered as steered_by}
use Rattle.pw_runs.proofs.CppcOne.{refusal_is_1_or_7}

pub none_or_some : {k : ℕ} {at : Option ℕ} → at ≡ None → at ≡ Some k → ⊥
none_or_some e f = absurd (cc)

-- what stops before a register is operated has another status than a register's fault
stops_not_5 : (work : Work) → ((s : ℕ) (l : List ℕ) → work.refusal s l → (s ≡ 1) ⊎ (s ≡ 7)) → (status : ℕ) (line : List ℕ) → Stops work status line
    → status ≡ 5 → ⊥
stops_not_5 work refusals status line (refused r) five = elim (refusals status line r) [
  | inl one ↦ omega (arith, one, five)
  | inr seven ↦ omega (arith, seven, five)
]
stops_not_5 work refusals status line (read_fault u) five = absurd (omega (arith, five))
stops_not_5 work refusals status line no_memory five = absurd (omega (arith, five))

module _ (script : List ℕ) (names : List (List ℕ)) (before after : Seen) (room : MOST_OPERATIONS ≤ before.regs.room) where
  -- so many operations at most, and room for all
  run_spared : (P : CppcPlan) (lines : List CppcLine) (opening : Option ℕ) (es : List CppcEntry) → operations P lines ≤ MOST_OPERATIONS
      → OperatesFor P (operations P lines) opening es before.regs after.regs → (stopped_at opening es ≡ None) × (after.regs.faults ≡ before.regs.faults)
  run_spared P lines opening es few operates = operates.promised (omega (arith, few, room))

  open_spared : (P : CppcPlan) (lines : List CppcLine) → operations P lines ≤ MOST_OPERATIONS
      → OperatesFor P (opening_bound P) None [] before.regs after.regs → after.regs.faults ≡ before.regs.faults
  open_spared P lines few opens = (opens.promised (omega (arith, few, room))).1

  -- what was printed of a run in which none failed
  print_not_5 : (P : CppcPlan) (opening : Option ℕ) (es : List CppcEntry) → stopped_at opening es ≡ None → (status : ℕ) (text said : List ℕ)
      → PrintsRun P opening es before.outputs after.outputs status text said → status ≡ 5 → ⊥
  print_not_5 P opening es held status text said (whole none) five = absurd (omega (arith, five))
  print_not_5 P opening es held status text said (write_fault n none rose) five = absurd (omega (arith, five))
  print_not_5 P opening es held status text said (failed at) five = none_or_some held at
  print_not_5 P opening es held status text said (failed_write_fault n at rose) five = none_or_some held at
  print_not_5 P opening es held status text said without_memory five = absurd (omega (arith, five))

  -- no register's fault was counted
  pub steers_counts : (status : ℕ) (text said : List ℕ) → SteersSerially script names before after status text said → after.regs.faults ≡ before.regs.faults
  steers_counts status text said (stopped way same) = ap (λ (r : RegistersSeen). r.faults) same
  steers_counts status text said (steered {P = P} {lines = lines} {opening = opening} {es = es} given run prints) =
      (run_spared P lines opening es given.few run.operates).1

  -- and the status doesn't say one
  pub steers_not_5 : (status : ℕ) (text said : List ℕ) → SteersSerially script names before after status text said → status ≡ 5 → ⊥
  steers_not_5 status text said (stopped way same) five =
      stops_not_5 (steering script names before.files after.files) (refusal_is_1_or_7 script names before.files) status said way five
  steers_not_5 status text said (steered {P = P} {lines = lines} {opening = opening} {es = es} given run prints) five =
      print_not_5 P opening es (run_spared P lines opening es given.few run.operates).0 status text said prints five

  -- the same of a run by workers
  pub works_counts : (status : ℕ) (text said : List ℕ) → Steers script names before after status text said → after.regs.faults ≡ before.regs.faults
  works_counts status text said (stopped_by way same) = ap (λ (r : RegistersSeen). r.faults) same
  works_counts status text said (opened_by {P = P} {lines = lines} given opens) = open_spared P lines given.few opens
  works_counts status text said (steered_by {P = P} {lines = lines} {opening = opening} {es = es} given run prints) =
      (run_spared P lines opening es given.few run.operates).1

  pub works_not_5 : (status : ℕ) (text said : List ℕ) → Steers script names before after status text said → status ≡ 5 → ⊥
  works_not_5 status text said (stopped_by way same) five =
      stops_not_5 (steering_together script names before.files after.files) (refusal_is_1_or_7 script names before.files) status said way five
  works_not_5 status text said (opened_by given opens) five = absurd (omega (arith, five))
  works_not_5 status text said (steered_by {P = P} {lines = lines} {opening = opening} {es = es} given run prints) five =
      print_not_5 P opening es (run_spared P lines opening es given.few run.operates).0 status text said prints five
