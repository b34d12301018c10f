-- What the parts of a run do is what a run does.
use Rattle.std.proofs.Common.{◌≡◌, ◌≢◌, ◌≤◌, ℕ, List, [], Result, Ok, Err, IfOk, codes, inl, inr, refl, sym, ap, subst}
use Rattle.std.proofs.lemmas.Bool.{false≢true}
use Rattle.pw_base.specs.declared.files.Files.{Ghosts as Files}
use Rattle.pw_base.specs.Outside.{KeepsFiles}
use Rattle.pw_base.specs.Seen.{FilesSeen, OfFiles, files_seen}
use Rattle.aml_block.specs.declared.block.Block.{Block}
use Rattle.acpi_space.specs.Distinct.{IsDistinct}
use Rattle.acpi_space.specs.Namespace.{Entry, entries_in, places_of}
use Rattle.pw_text.specs.declared.script.ScriptFault.{ScriptFault}
use Rattle.pw_text.specs.declared.script.ScriptFault.TheVariants.{Line, Memory, TooLong}
use Rattle.pw_text.specs.declared.script.TheConstants.{MOST_OPERATIONS}
use Rattle.pw_regs.specs.declared.registers.Registers.{Ghosts as Registers}
use Rattle.pw_regs.specs.Seen.{registers_seen}
use Rattle.pw_load.specs.Seen.{Outputs, Seen}
use Rattle.pw_load.specs.Ends.{Stops}
use Rattle.pw_load.specs.Ends.Stops.{refused, read_fault, without_memory}
use Rattle.pw_load.proofs.Outcomes.{IsWithin}
use Rattle.pw_load.specs.Steps.{AreHeldBy}
use Rattle.pw_runs.specs.Scripts.{script_line, script_status}
use Rattle.pw_runs.specs.inner.Parts.{IsNoPlanIn, readying}
use Rattle.pw_runs.specs.inner.Parts.IsNoPlanIn.{unspelled, unplanned}
use Rattle.pw_runs.proofs.Steps.{held_before, rose_before}
use Rattle.pw_cppc.specs.declared.plan.CppcPlan.{CppcPlan}
use Rattle.pw_cppc_drive.specs.declared.script.CppcLine.{CppcLine}
use Rattle.pw_cppc_drive.specs.declared.script.CppcScript.{CppcScript}
use Rattle.pw_cppc_drive.specs.Reading.{IsNoScript, operations}
use Rattle.pw_cppc_drive.specs.Lawful.{GivesBack}
use Rattle.pw_runs.specs.CppcScripts.{HoldsNoScript, HoldsScript}
use Rattle.pw_runs.specs.CppcRuns.{AreGiven, AreSteered, SteersSerially, steering}
use Rattle.pw_runs.specs.CppcRuns.SteersSerially.{steered, stopped}
use Rattle.pw_runs.specs.CppcRuns.IsRefusalOn.{unplanned as unplanned_on, unscripted, unspelled as unspelled_on}
use Rattle.pw_runs.specs.CppcWorkers.{Steers, steering_together}
use Rattle.pw_runs.specs.CppcWorkers.Steers.{opened as opened_by, steered as steered_together, stopped as stopped_by}
use Rattle.pw_cppc.specs.SpacePlan.{IsPlanOver}
use Rattle.pw_runs.specs.inner.CppcParts.{IsNotScripted, IsPlanBy, RunsSerially, parsing, scripting}
use Rattle.pw_runs.specs.inner.CppcParts.RunsSerially.{ran, undone}
use Rattle.pw_runs.specs.inner.CppcWorks.{Works}
use Rattle.pw_runs.specs.inner.CppcWorks.Works.{opened, worked}
use Rattle.pw_runs.specs.inner.CppcWorks.Works.{undone as undone_by}

-- # The plan

-- the plan of objects that are apart is the plan of the blocks that place them
pub plan_by : (entries : List Entry) (blocks : List Block) (P : CppcPlan) → entries ≡ entries_in blocks → IsDistinct (places_of entries) → IsPlanOver entries P
    → IsPlanBy blocks P
plan_by entries blocks P are distinct over = record {
  distinct = subst (λ (l : List Entry). IsDistinct (places_of l)) are distinct;
  over = subst (λ (l : List Entry). IsPlanOver l P) are over;
}

-- the plan of blocks that are held
pub steered_by : (files : FilesSeen) (names : List (List ℕ)) (blocks : List Block) (P : CppcPlan) → AreHeldBy files names blocks → IsPlanBy blocks P
    → AreSteered files names P
steered_by files names blocks P held by = record {
  machine = by.over.machine;
  planned = record { blocks = blocks; held = held; distinct = by.distinct; notes = by.over.notes; made = by.over.made };
  paths = by.over.paths;
  parts = by.over.parts;
}

-- # The script

-- why bytes were refused
pub stops_parsing : (P : CppcPlan) (bytes : List ℕ) (fault : ScriptFault) → (fault ≢ Memory → IsNoScript P bytes fault)
    → Stops (parsing P bytes) (script_status fault) (script_line fault)
stops_parsing P bytes (TooLong bound) why =
    let own : TooLong bound ≢ Memory = λ e. absurd (cc) in
    refused (record { is = refl; fault = TooLong bound; of_bytes = own; fails = why own; says = refl })
stops_parsing P bytes (Line number reason) why =
    let own : Line number reason ≢ Memory = λ e. absurd (cc) in
    refused (record { is = refl; fault = Line number reason; of_bytes = own; fails = why own; says = refl })
stops_parsing P bytes Memory why = without_memory

-- # Both

-- to make the plan is part of a run
pub readying_within : (script : List ℕ) (names : List (List ℕ)) (before after : FilesSeen) → IsWithin (readying before after names) (steering script names before after)
readying_within script names before after = record {
  texts = λ text never. absurd never;
  refusals = refusing;
  read_faults = λ u. inl u;
  pieces = λ e. absurd (false≢true e);
}
  where
    refusing : (status : ℕ) (text : List ℕ) → IsNoPlanIn before names status text → (steering script names before after).refusal status text
    refusing status text (unspelled without) = unspelled_on without
    refusing status text (unplanned blocks held without) = unplanned_on blocks held without

module _ {S : Type 0} (F : Files S) (old mid new : S) (kept : KeepsFiles F.told F.holds F.faults old mid) where
  -- to read the script is part of a run, once there is a plan
  pub scripting_within : (script : List ℕ) (names : List (List ℕ)) (P : CppcPlan) → AreSteered (files_seen F old) names P
      → IsWithin (scripting (files_seen F mid) (files_seen F new) P script) (steering script names (files_seen F old) (files_seen F new))
  scripting_within script names P planned = record {
    texts = λ text never. absurd never;
    refusals = refusing;
    read_faults = λ rose. inr (record { plan = P; steered = planned; rose = rose_before F old mid new kept script rose });
    pieces = λ e. absurd (false≢true e);
  }
    where
      refusing : (status : ℕ) (text : List ℕ) → IsNotScripted (files_seen F mid) P script status text
          → (steering script names (files_seen F old) (files_seen F new)).refusal status text
      refusing status text r = unscripted (record {
        is = r.is;
        plan = P;
        steered = planned;
        fault = r.fault;
        of_bytes = r.of_bytes;
        held = held_before F old mid new kept script (λ held. HoldsNoScript held P r.fault) r.held;
        says = r.says;
      })

module _ {S : Type 0} (F : Files S) (old mid : S) (kept : KeepsFiles F.told F.holds F.faults old mid) where
  -- the plan, and a script that is held behind it
  given_both : (script : List ℕ) (names : List (List ℕ)) (P : CppcPlan) (lines : List CppcLine) → AreSteered (files_seen F old) names P
      → OfFiles (files_seen F mid) (λ holds. HoldsScript (holds script) P lines) → operations P lines ≤ MOST_OPERATIONS
      → AreGiven (files_seen F old) script names P lines
  given_both script names P lines planned held few =
      record { steered = planned; scripted = held_before F old mid mid kept script (λ h. HoldsScript h P lines) held; few = few }

  -- the same, as an answer
  pub given_by : {E : Type 0} (script : List ℕ) (names : List (List ℕ)) (P : CppcPlan) (r : Result (CppcPlan × CppcScript) E) → AreSteered (files_seen F old) names P
      → IfOk r (λ x. x.0 ≡ P) → IfOk r (λ x. OfFiles (files_seen F mid) (λ holds. HoldsScript (holds script) P x.1.lines))
      → IfOk r (λ x. operations x.0 x.1.lines ≤ MOST_OPERATIONS) → IfOk r (λ x. AreGiven (files_seen F old) script names x.0 x.1.lines)
  given_by script names P (Ok x) planned is held few =
      let bound : operations P x.1.lines ≤ MOST_OPERATIONS = subst (λ (Q : CppcPlan). operations Q x.1.lines ≤ MOST_OPERATIONS) is few in
      subst (λ (Q : CppcPlan). AreGiven (files_seen F old) script names Q x.1.lines) (sym is) (given_both script names P x.1.lines planned held bound)
  given_by script names P (Err e) planned is held few = tt

-- # The whole

-- what came of a plan and of lines that are given is a serial run
pub runs_steer : (script : List ℕ) (names : List (List ℕ)) (before after : Seen) (P : CppcPlan) (lines : List CppcLine)
    → AreGiven before.files script names P lines → (status : ℕ) (written text : List ℕ)
    → RunsSerially P lines before.outputs after.outputs before.regs after.regs status written text → SteersSerially script names before after status written text
runs_steer script names before after P lines given status written text (undone same) = stopped without_memory same
runs_steer script names before after P lines given status written text (ran run prints) = steered given run prints

-- a run by workers stops where a serial one does
pub stops_together : (script : List ℕ) (names : List (List ℕ)) (before after : FilesSeen) {status : ℕ} {line : List ℕ}
    → Stops (steering script names before after) status line → Stops (steering_together script names before after) status line
stops_together script names before after (refused r) = refused r
stops_together script names before after (read_fault u) = read_fault u
stops_together script names before after without_memory = without_memory

-- where workers had no memory
pub works_none : {R : Type 0} (by : Registers R) (P : CppcPlan) (lines : List CppcLine) (before after : Outputs) (regs back : R) → GivesBack by P regs back
    → Works P lines before after (registers_seen by regs) (registers_seen by back) 6 [] (codes "no memory\n")
works_none by P lines before after regs back (inl same) = undone_by (ap (registers_seen by) same)
works_none by P lines before after regs back (inr opens) = opened opens

-- what came of them by workers is a run by workers
pub works_steer : (script : List ℕ) (names : List (List ℕ)) (before after : Seen) (P : CppcPlan) (lines : List CppcLine)
    → AreGiven before.files script names P lines → (status : ℕ) (written text : List ℕ)
    → Works P lines before.outputs after.outputs before.regs after.regs status written text → Steers script names before after status written text
works_steer script names before after P lines given status written text (undone_by same) = stopped_by without_memory same
works_steer script names before after P lines given status written text (opened opens) = opened_by given opens
works_steer script names before after P lines given status written text (worked run prints) = steered_together given run prints
