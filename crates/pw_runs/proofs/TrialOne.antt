-- What is generated has one summary, and it is printed unless a register failed.
use Rattle.std.proofs.Common.{◌≡◌, ℕ, List, [], ◌∷◌, Option, Some, inl, inr, ◌⊎◌, refl, sym, ap, ◌∙◌}
use Rattle.std.specs.Prelude.{is_some}
use Rattle.pw_base.specs.Outside.{Rose}
use Rattle.acpi_space.specs.Namespace.{entries_in}
use Rattle.acpi_build.proofs.Planned.{same_plan}
use Rattle.pw_plan.specs.declared.plan.Plan.{Plan}
use Rattle.pw_model.specs.declared.entry.HistoryEntry.{HistoryEntry}
use Rattle.pw_regs.specs.Seen.{RegistersSeen}
use Rattle.pw_turns.specs.declared.close.Sealed.{Sealed}
use Rattle.pw_script.specs.Reading.{requests_of}
use Rattle.pw_drive.specs.Driven.{stopped_at}
use Rattle.pw_drive.specs.Drives.{Runs}
use Rattle.pw_generate.specs.Loads.{machine_load}
use Rattle.pw_generate.specs.Machines.{machine_block}
use Rattle.pw_generate.specs.Summary.{script_summary}
use Rattle.pw_load.specs.Seen.{Outputs}
use Rattle.pw_load.specs.Ends.{Does}
use Rattle.pw_load.specs.Ends.Stops.{without_memory as no_memory}
use Rattle.pw_load.specs.Ends.Prints.{whole as all_printed, write_fault as part_printed}
use Rattle.pw_load.specs.Ends.Does.{stopped as stops, printed as printed_so}
use Rattle.pw_load.proofs.Completeness.{IsOne}
use Rattle.pw_runs.proofs.OnePlan.{same_plans}
use Rattle.pw_runs.specs.Trials.{Generates, IsMachine, IsSummaryOf, PrintsSummary, trying}
use Rattle.pw_runs.specs.Trials.Generates.{drove, opened, undone}
use Rattle.pw_runs.specs.Trials.PrintsSummary.{whole, write_fault, failed, without_memory}

-- # One summary

one_machine : (n : ℕ) (P Q : Plan) → IsMachine n P → IsMachine n Q → P ≡ Q
one_machine n P Q p q = same_plans P Q (same_plan (entries_in (machine_block n ∷ [])) P Q p.notes q.notes p.made q.made).0

one_summary : (n : ℕ) (a b : List ℕ) → IsSummaryOf n a → IsSummaryOf n b → a ≡ b
one_summary n a b p q =
    p.says ∙ ap (λ (P : Plan). script_summary P (requests_of (machine_load n).lines)) (one_machine n p.plan q.plan p.machine q.machine) ∙ sym q.says

pub trying_is_one : (n : ℕ) → IsOne (trying n)
trying_is_one n = record {
  texts = one_summary n;
  refusals = λ s t a b p q. absurd p;
  apart = λ status text line made r. absurd r;
}

-- # It is printed

-- a register failed, and without that there is a summary
pub record Failed (n : ℕ) (old new : RegistersSeen) (status : ℕ) : Type 0 where
  pub five : status ≡ 5
  pub rose : Rose old.faults new.faults
  pub text : List ℕ
  pub made : IsSummaryOf n text

module _ (n : ℕ) (sealed : Option Sealed) (before after : Outputs) (old new : RegistersSeen) where
  failed_of : {P : Plan} {opening : Option ℕ} {es : List HistoryEntry} {k : ℕ} → IsMachine n P → Runs P (machine_load n).lines opening es old new
      → stopped_at opening es ≡ Some k → Failed n old new 5
  failed_of {P} {opening} {es} {k} machine run at = record {
    five = refl;
    rose = run.operates.fault (ap is_some at);
    text = script_summary P (requests_of (machine_load n).lines);
    made = record { plan = P; machine = machine; says = refl };
  }

  by_print : (P : Plan) (opening : Option ℕ) (es : List HistoryEntry) → IsMachine n P → Runs P (machine_load n).lines opening es old new
      → (status : ℕ) (text said : List ℕ) → PrintsSummary n P opening es before after status text said
      → Does (trying n) before after status text said ⊎ Failed n old new status
  by_print P opening es machine run status text said (whole none sums) = inl (printed_so sums all_printed)
  by_print P opening es machine run status text said (write_fault m none sums rose) = inl (printed_so sums (part_printed m rose))
  by_print P opening es machine run status text said (failed at) = inr (failed_of machine run at)
  by_print P opening es machine run status text said without_memory = inl (stops no_memory)

  by_way : (status : ℕ) (text said : List ℕ) → Generates n sealed before after old new status text said
      → Does (trying n) before after status text said ⊎ Failed n old new status
  by_way status text said (undone same none) = inl (stops no_memory)
  by_way status text said (opened machine few opens none) = inl (stops no_memory)
  by_way status text said (drove {P = P} {opening = opening} {es = es} machine few run prints seals) = by_print P opening es machine run status text said prints

-- It stops or prints as a command does, or a register failed.
pub does_or_failed : (n : ℕ) (sealed : Option Sealed) (before after : Outputs) (old new : RegistersSeen) (status : ℕ) (text said : List ℕ)
    → Generates n sealed before after old new status text said → Does (trying n) before after status text said ⊎ Failed n old new status
does_or_failed n sealed before after old new = by_way n sealed before after old new
