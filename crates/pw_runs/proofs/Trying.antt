-- A load that was tried is what was generated.
use Rattle.std.proofs.Common.{◌≡◌, ◌≤◌, ℕ, List, [], Option, Some, None, codes, inl, inr, ap, refl}
use Rattle.std.specs.List.{AllByRecursion}
use Rattle.pw_text.specs.declared.script.TheConstants.{MOST_OPERATIONS}
use Rattle.pw_plan.specs.declared.plan.Plan.{Plan}
use Rattle.pw_plan.specs.Requests.{Has}
use Rattle.pw_model.specs.declared.entry.HistoryEntry.{HistoryEntry}
use Rattle.pw_model.proofs.Joining.{fault_none}
use Rattle.pw_regs.specs.declared.registers.Registers.{Ghosts as Registers}
use Rattle.pw_regs.specs.Seen.{RegistersSeen, registers_seen}
use Rattle.pw_turns.specs.declared.close.Sealed.{Sealed}
use Rattle.pw_script.specs.declared.script.Line.{Line as line}
use Rattle.pw_script.specs.Reading.{operations, requests_of}
use Rattle.pw_drive.specs.Driven.{stopped_at}
use Rattle.pw_drive.specs.Drives.{GivesBack, Runs}
use Rattle.pw_generate.specs.declared.tables.TheConstants.{MOST_CONTAINERS}
use Rattle.pw_generate.specs.Loads.{machine_load}
use Rattle.pw_generate.specs.Summary.{script_summary, summary_text}
use Rattle.pw_generate.proofs.Loads.{load_has}
use Rattle.pw_generate.proofs.Summaries.{summary-script}
use Rattle.pw_generate.proofs.Whole.{machine_plans}
use Rattle.pw_load.specs.Seen.{Outputs}
use Rattle.pw_runs.specs.Trials.{Generates, IsMachine, IsSummaryOf, PrintsSummary}
use Rattle.pw_runs.specs.Trials.Generates.{drove}
use Rattle.pw_runs.specs.Trials.Generates.{opened as opened_all, undone as undone_all}
use Rattle.pw_runs.specs.Trials.PrintsSummary.{failed as lost, write_fault as part_printed, whole as all_printed, without_memory as unprinted}
use Rattle.pw_runs.specs.inner.Trying.{SumsUp, Tries}
use Rattle.pw_runs.specs.inner.Trying.SumsUp.{failed, write_fault, whole, without_memory}
use Rattle.pw_runs.specs.inner.Trying.Tries.{opened, ran, undone}
use Rattle.pw_runs.proofs.Many.{asked_have}

-- where workers had no memory
pub tries_none : {R : Type 0} (by : Registers R) (P : Plan) (lines : List line) (before after : Outputs) (regs back : R) → GivesBack by P regs back
    → Tries P lines None before after (registers_seen by regs) (registers_seen by back) 6 [] (codes "no memory\n")
tries_none by P lines before after regs back (inl same) = undone (ap (registers_seen by) same) refl
tries_none by P lines before after regs back (inr opens) = opened opens refl

-- # The summary of the load

-- the processors of the load exist
load_asks : (n : ℕ) (P : Plan) → n ≤ MOST_CONTAINERS → IsMachine n P → AllByRecursion (Has P) (requests_of (machine_load n).lines)
load_asks n P small machine = asked_have P (machine_load n).lines (load_has n P (machine_plans n small P machine.notes machine.made).1)

-- The summary of a run in which no register failed is that of the lines.
summed : (P : Plan) (lines : List line) (opening : Option ℕ) (es : List HistoryEntry) (old new : RegistersSeen) → AllByRecursion (Has P) (requests_of lines)
    → Runs P lines opening es old new → stopped_at opening es ≡ None → summary_text P es ≡ script_summary P (requests_of lines)
summed P lines (Some k) es old new has run none = absurd (cc)
summed P lines None es old new has run none = summary-script P (requests_of lines) es has run.lawful (fault_none es none)

load_summed : (n : ℕ) (P : Plan) (opening : Option ℕ) (es : List HistoryEntry) (old new : RegistersSeen) → n ≤ MOST_CONTAINERS → IsMachine n P
    → Runs P (machine_load n).lines opening es old new → stopped_at opening es ≡ None → IsSummaryOf n (summary_text P es)
load_summed n P opening es old new small machine run none =
    record { plan = P; machine = machine; says = summed P (machine_load n).lines opening es old new (load_asks n P small machine) run none }

summed_so : (n : ℕ) (P : Plan) (opening : Option ℕ) (es : List HistoryEntry) (before after : Outputs) → (stopped_at opening es ≡ None → IsSummaryOf n (summary_text P es))
    → (status : ℕ) (text said : List ℕ) → SumsUp P opening es before after status text said → PrintsSummary n P opening es before after status text said
summed_so n P opening es before after sums status text said (whole none) = all_printed none (sums none)
summed_so n P opening es before after sums status text said (write_fault m none rose) = part_printed m none (sums none) rose
summed_so n P opening es before after sums status text said (failed at) = lost at
summed_so n P opening es before after sums status text said without_memory = unprinted

-- # It was generated

pub tried : (n : ℕ) (P : Plan) (sealed : Option Sealed) (before after : Outputs) (old new : RegistersSeen) → n ≤ MOST_CONTAINERS → IsMachine n P
    → operations P (machine_load n).lines ≤ MOST_OPERATIONS → (status : ℕ) (text line : List ℕ)
    → Tries P (machine_load n).lines sealed before after old new status text line → Generates n sealed before after old new status text line
tried n P sealed before after old new small machine few status text line (undone same none) = undone_all same none
tried n P sealed before after old new small machine few status text line (opened opens none) = opened_all machine few opens none
tried n P sealed before after old new small machine few status text line (ran {opening = opening} {es = es} run sums seals) =
    drove machine few run (summed_so n P opening es before after (load_summed n P opening es old new small machine run) status text line sums) seals
