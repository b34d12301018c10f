-- Registers with room for all operations of a script never fail.
use Rattle.std.proofs.Common.{◌≡◌, ◌≤◌, ℕ, Bool, true, false, List, Option, None, inr, refl, ap, arith}
use Rattle.pw_text.specs.declared.script.TheConstants.{MOST_OPERATIONS}
use Rattle.pw_plan.specs.declared.plan.Plan.{Plan}
use Rattle.pw_model.specs.declared.entry.HistoryEntry.{HistoryEntry}
use Rattle.pw_regs.specs.Seen.{RegistersSeen}
use Rattle.pw_words.specs.Words.{Asked}
use Rattle.pw_words.specs.Words.Asked.{on_blocks, drive, audit, cppc, generate}
use Rattle.pw_script.specs.declared.script.Line.{Line as line}
use Rattle.pw_script.specs.Reading.{operations}
use Rattle.pw_drive.specs.Driven.{OperatesFor, stopped_at}
use Rattle.pw_turns.specs.declared.close.Sealed.{Sealed}
use Rattle.pw_drive.specs.Drives.{Opens}
use Rattle.pw_load.specs.Seen.{Seen}
use Rattle.pw_load.specs.Ends.{Does}
use Rattle.pw_load.specs.Ends.Does.{stopped as stops}
use Rattle.pw_runs.specs.Runs.{PrintsRun}
use Rattle.pw_runs.specs.Runs.DrivesSerially.{stopped, drove}
use Rattle.pw_runs.specs.Runs.PrintsRun.{whole, write_fault, failed, failed_write_fault, without_memory}
use Rattle.pw_runs.specs.Workers.Drives.{stopped as work_stopped, opened as work_opened, drove as workers_drove}
use Rattle.pw_generate.specs.Loads.{machine_load}
use Rattle.pw_runs.specs.Trials.{Generates, PrintsSummary}
use Rattle.pw_runs.specs.Trials.Generates.{undone, opened}
use Rattle.pw_runs.specs.Trials.Generates.{drove as tried}
use Rattle.pw_runs.specs.Trials.PrintsSummary.{whole as all_summed, write_fault as part_summed, failed as never_summed, without_memory as unsummed}
use Rattle.pw_runs.proofs.CppcSpared.{steers_counts, steers_not_5, works_counts, works_not_5, none_or_some}
use Rattle.pw_cli.specs.Runs.{DrivesBy, EndsBy, IsSpared, Obeys, Ran, SteersBy, driving_by}
use Rattle.pw_cli.specs.Runs.EndsBy.{misworded, commanded}
use Rattle.pw_cli.specs.Runs.EndsBy.{without_memory as without_memory_of}
use Rattle.pw_cli.proofs.Obeying.{does_not}

counted : (before after : Seen) → after.regs ≡ before.regs → after.regs.faults ≡ before.regs.faults
counted before after same = ap (λ (r : RegistersSeen). r.faults) same

module _ (before after : Seen) (room : MOST_OPERATIONS ≤ before.regs.room) where
  -- so many operations at most, and room for all
  run_spared : {P : Plan} (lines : List line) {opening : Option ℕ} {es : List HistoryEntry} → operations P lines ≤ MOST_OPERATIONS
      → OperatesFor P (operations P lines) opening es before.regs after.regs → (stopped_at opening es ≡ None) × (after.regs.faults ≡ before.regs.faults)
  run_spared lines few operates = operates.promised (omega (arith, few, room))

  open_spared : {P : Plan} (lines : List line) → operations P lines ≤ MOST_OPERATIONS → Opens P before.regs after.regs → after.regs.faults ≡ before.regs.faults
  open_spared lines few opens = opens.promised (omega (arith, few, room))

  module _ (step : Bool) (script : List ℕ) (names : List (List ℕ)) (sealed : Option Sealed) where
    drives_counts : (serial : Bool) (status : ℕ) (text said : List ℕ) → DrivesBy serial step script names sealed before after status text said
        → after.regs.faults ≡ before.regs.faults
    drives_counts true status text said (stopped way_is same, unsealed) = counted before after same
    drives_counts true status text said (drove {lines = lines} given run prints, unsealed) = let few = given.few in (run_spared lines few run.operates).1
    drives_counts false status text said (work_stopped way_is same unsealed) = counted before after same
    drives_counts false status text said (work_opened {lines = lines} given opens unsealed) = let few = given.few in open_spared lines few opens
    drives_counts false status text said (workers_drove {lines = lines} given run prints seals) = let few = given.few in (run_spared lines few run.operates).1

    -- what was printed of a run in which none failed
    print_not_5 : (P : Plan) (opening : Option ℕ) (es : List HistoryEntry) → stopped_at opening es ≡ None → (status : ℕ) (text said : List ℕ)
        → PrintsRun P opening es before.outputs after.outputs status text said → status ≡ 5 → ⊥
    print_not_5 P opening es held status text said (whole none) five = absurd (omega (arith, five))
    print_not_5 P opening es held status text said (write_fault n none rose) five = absurd (omega (arith, five))
    print_not_5 P opening es held status text said (failed at) five = none_or_some held at
    print_not_5 P opening es held status text said (failed_write_fault n at rose) five = none_or_some held at
    print_not_5 P opening es held status text said without_memory five = absurd (omega (arith, five))

    drives_not_5 : (serial : Bool) (status : ℕ) (text said : List ℕ) → DrivesBy serial step script names sealed before after status text said
        → (Does (driving_by serial step script names before.files after.files) before.outputs after.outputs status text said → status ≡ 5 → ⊥) → status ≡ 5 → ⊥
    drives_not_5 true status text said (stopped way_is same, unsealed) not_so five = not_so (stops way_is) five
    drives_not_5 true status text said (drove {P = P} {lines = lines} {opening = opening} {es = es} given run prints, unsealed) not_so five =
        let few = given.few in print_not_5 P opening es (run_spared lines few run.operates).0 status text said prints five
    drives_not_5 false status text said (work_stopped way_is same unsealed) not_so five = not_so (stops way_is) five
    drives_not_5 false status text said (work_opened given opens unsealed) not_so five = absurd (omega (arith, five))
    drives_not_5 false status text said (workers_drove {P = P} {lines = lines} {opening = opening} {es = es} given run prints seals) not_so five =
        let few = given.few in print_not_5 P opening es (run_spared lines few run.operates).0 status text said prints five

  module _ (script : List ℕ) (names : List (List ℕ)) where
    steering_counts : (serial : Bool) (status : ℕ) (text said : List ℕ) → SteersBy serial script names before after status text said
        → after.regs.faults ≡ before.regs.faults
    steering_counts true status text said o = steers_counts script names before after room status text said o
    steering_counts false status text said o = works_counts script names before after room status text said o

    steering_not_5 : (serial : Bool) (status : ℕ) (text said : List ℕ) → SteersBy serial script names before after status text said → status ≡ 5 → ⊥
    steering_not_5 true status text said o five = steers_not_5 script names before after room status text said o five
    steering_not_5 false status text said o five = works_not_5 script names before after room status text said o five

  module _ (n : ℕ) (sealed : Option Sealed) where
    generates_counts : (status : ℕ) (text said : List ℕ) → Generates n sealed before.outputs after.outputs before.regs after.regs status text said
        → after.regs.faults ≡ before.regs.faults
    generates_counts status text said (undone same unsealed) = counted before after same
    generates_counts status text said (opened machine few opens unsealed) = open_spared (machine_load n).lines few opens
    generates_counts status text said (tried machine few run prints seals) = (run_spared (machine_load n).lines few run.operates).1

    summary_not_5 : (P : Plan) (opening : Option ℕ) (es : List HistoryEntry) → stopped_at opening es ≡ None → (status : ℕ) (text said : List ℕ)
        → PrintsSummary n P opening es before.outputs after.outputs status text said → status ≡ 5 → ⊥
    summary_not_5 P opening es held status text said (all_summed none sums) five = absurd (omega (arith, five))
    summary_not_5 P opening es held status text said (part_summed m none sums rose) five = absurd (omega (arith, five))
    summary_not_5 P opening es held status text said (never_summed at) five = none_or_some held at
    summary_not_5 P opening es held status text said unsummed five = absurd (omega (arith, five))

    generates_not_5 : (status : ℕ) (text said : List ℕ) → Generates n sealed before.outputs after.outputs before.regs after.regs status text said → status ≡ 5 → ⊥
    generates_not_5 status text said (undone same unsealed) five = absurd (omega (arith, five))
    generates_not_5 status text said (opened machine few opens unsealed) five = absurd (omega (arith, five))
    generates_not_5 status text said (tried {P = P} {opening = opening} {es = es} machine few run prints seals) five =
        summary_not_5 P opening es (run_spared (machine_load n).lines few run.operates).0 status text said prints five

  obeyed_spared : (asked : Asked) (sealed : Option Sealed) (status : ℕ) (text said : List ℕ) → Obeys asked sealed before after status text said
      → IsSpared before.regs.faults after.regs.faults status
  obeyed_spared (on_blocks task names) sealed status text said o = record {
    status_is = does_not 5 (inr refl) (on_blocks task names) before after status text said o.0;
    count = counted before after o.1;
  }
  obeyed_spared (drive way script names) sealed status text said o = record {
    status_is = drives_not_5 way.step script names sealed way.serial status text said o (does_not 5 (inr refl) (drive way script names) before after status text said);
    count = drives_counts way.step script names sealed way.serial status text said o;
  }
  obeyed_spared (audit review script history names) sealed status text said o = record {
    status_is = does_not 5 (inr refl) (audit review script history names) before after status text said o.0;
    count = counted before after o.1;
  }
  obeyed_spared (cppc serial script names) sealed status text said o = record {
    status_is = steering_not_5 script names serial status text said o.0;
    count = steering_counts script names serial status text said o.0;
  }
  obeyed_spared (generate n) sealed status text said o =
      record { status_is = generates_not_5 n sealed status text said o; count = generates_counts n sealed status text said o }

  ends_spared : (words : List (List ℕ)) (sealed : Option Sealed) (status : ℕ) (text said : List ℕ) → EndsBy words sealed before after status text said
      → IsSpared before.regs.faults after.regs.faults status
  ends_spared words sealed status text said (misworded none same unsealed) = record { status_is = λ five. absurd (omega (arith, five)); count = counted before after same }
  ends_spared words sealed status text said (without_memory_of same unsealed) = record { status_is = λ five. absurd (omega (arith, five)); count = counted before after same }
  ends_spared words sealed status text said (commanded asked is o) = obeyed_spared asked sealed status text said o

-- a run whose registers have room for what a script may ask
pub spared_of : {words : List (List ℕ)} {sealed : Option Sealed} {before after : Seen} {status : ℕ} → Ran words sealed before after status → MOST_OPERATIONS ≤ before.regs.room
    → IsSpared before.regs.faults after.regs.faults status
spared_of {words} {sealed} {before} {after} {status} ran room = ends_spared before after room words sealed status ran.text ran.line ran.way
