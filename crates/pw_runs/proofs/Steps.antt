-- What the parts of a drive do is what a drive does.
use Rattle.std.proofs.Common.{◌≡◌, ◌≢◌, ◌≤◌, ℕ, Bool, List, [], Option, None, Result, Ok, Err, IfOk, codes, inl, inr, refl, sym, ap, subst, ◌∙◌, arith}
use Rattle.std.proofs.lemmas.Bool.{false≢true}
use Rattle.pw_base.specs.declared.files.Files.{Ghosts as Files}
use Rattle.pw_base.specs.Outside.{KeepsFiles, Rose}
use Rattle.pw_base.specs.Seen.{FilesSeen, OfFiles, files_seen}
use Rattle.aml_block.specs.declared.block.Block.{Block}
use Rattle.acpi_space.specs.Distinct.{IsDistinct}
use Rattle.acpi_space.specs.Namespace.{Entry, entries_in, places_of}
use Rattle.pw_text.specs.declared.script.TheConstants.{MOST_OPERATIONS}
use Rattle.pw_text.specs.declared.script.ScriptFault.{ScriptFault}
use Rattle.pw_text.specs.declared.script.ScriptFault.TheVariants.{Line, Memory, TooLong}
use Rattle.acpi_build.specs.declared.note.Note.{Note}
use Rattle.acpi_build.specs.Planning.{IsPlanFrom}
use Rattle.pw_plan.specs.declared.plan.Plan.{Plan}
use Rattle.pw_regs.specs.declared.registers.Registers.{Ghosts as Registers}
use Rattle.pw_regs.specs.Seen.{registers_seen}
use Rattle.pw_turns.specs.declared.close.Sealed.{Sealed}
use Rattle.pw_script.specs.declared.script.Line.{Line as line}
use Rattle.pw_script.specs.Reading.{operations}
use Rattle.pw_script.specs.declared.script.Script.{Script}
use Rattle.pw_drive.specs.Drives.{GivesBack}
use Rattle.pw_load.specs.Seen.{Outputs, Seen}
use Rattle.pw_load.specs.Ends.{Stops}
use Rattle.pw_load.specs.Ends.Stops.{refused, read_fault, without_memory}
use Rattle.pw_load.proofs.Outcomes.{IsWithin}
use Rattle.pw_load.specs.Steps.{AreHeldBy, loading, placing, planning}
use Rattle.pw_runs.specs.Scripts.{HoldsNoScript, HoldsScript, script_line, script_status}
use Rattle.pw_runs.specs.Runs.{AreGiven, ArePlanned, DrivesSerially, driving}
use Rattle.pw_runs.specs.Runs.DrivesSerially.{drove, stopped}
use Rattle.pw_runs.specs.Workers.{Drives, working}
use Rattle.pw_runs.specs.Workers.Drives.{drove as drove_by, opened as opened_by, stopped as stopped_by}
use Rattle.pw_runs.specs.Runs.IsRefusalOn.{unplanned as unplanned_on, unscripted, unspelled as unspelled_on}
use Rattle.pw_runs.specs.inner.Parts.{IsNoPlanIn, IsNotScripted, IsPlanBy, RunsSerially, mapping, readying, scripting}
use Rattle.pw_runs.specs.inner.Parts.IsNoPlanIn.{unspelled, unplanned}
use Rattle.pw_runs.specs.inner.Parts.RunsSerially.{ran, undone}
use Rattle.pw_runs.specs.inner.Works.{Works}
use Rattle.pw_runs.specs.inner.Works.Works.{opened, worked}
use Rattle.pw_runs.specs.inner.Works.Works.{undone as undone_by}

-- # The plan

-- to place the objects of blocks is part of making their plan
pub placing_within : (blocks : List Block) → IsWithin (placing (entries_in blocks)) (mapping blocks)
placing_within blocks = record {
  texts = λ text never. absurd never;
  refusals = λ status line twice. inl twice;
  read_faults = λ never. absurd never;
  pieces = λ e. absurd (false≢true e);
}

planning_blocks : (blocks : List Block) → IsDistinct (places_of (entries_in blocks)) → IsWithin (planning (entries_in blocks)) (mapping blocks)
planning_blocks blocks distinct = record {
  texts = λ text never. absurd never;
  refusals = λ status line without. inr (distinct, without);
  read_faults = λ never. absurd never;
  pieces = λ e. absurd (false≢true e);
}

-- to make a plan of objects that are apart is part of it
pub planning_within : (entries : List Entry) (blocks : List Block) → entries ≡ entries_in blocks → IsDistinct (places_of entries)
    → IsWithin (planning entries) (mapping blocks)
planning_within entries blocks are distinct = rw are (planning_blocks blocks (rw are at distinct))

-- to load blocks is part of making their plan
pub loading_within : (before after : FilesSeen) (names : List (List ℕ)) → IsWithin (loading before after names) (readying before after names)
loading_within before after names = record {
  texts = λ text never. absurd never;
  refusals = λ status line without. unspelled without;
  read_faults = λ u. u;
  pieces = λ e. absurd (false≢true e);
}

-- and to make a plan of those that are held
pub mapping_within : (before after : FilesSeen) (names : List (List ℕ)) (blocks : List Block) → AreHeldBy before names blocks
    → IsWithin (mapping blocks) (readying before after names)
mapping_within before after names blocks held = record {
  texts = λ text never. absurd never;
  refusals = λ status line without. unplanned blocks held without;
  read_faults = λ never. absurd never;
  pieces = λ e. absurd (false≢true e);
}

-- the plan of blocks that are held
pub planned_by : (files : FilesSeen) (names : List (List ℕ)) (blocks : List Block) (P : Plan) → AreHeldBy files names blocks → IsPlanBy blocks P
    → ArePlanned files names P
planned_by files names blocks P held by = record { blocks = blocks; held = held; distinct = by.distinct; notes = by.notes; made = by.made }

-- # The script

-- why a script was refused
pub stops_scripting : (before after : FilesSeen) (P : Plan) (step : Bool) (name : List ℕ) (fault : ScriptFault)
    → (fault ≢ Memory → OfFiles before (λ holds. HoldsNoScript (holds name) P step fault))
    → Stops (scripting before after P step name) (script_status fault) (script_line fault)
stops_scripting before after P step name (TooLong bound) why =
    let own : TooLong bound ≢ Memory = λ e. absurd (cc) in
    refused (record { is = refl; fault = TooLong bound; of_bytes = own; held = why own; says = refl })
stops_scripting before after P step name (Line number reason) why =
    let own : Line number reason ≢ Memory = λ e. absurd (cc) in
    refused (record { is = refl; fault = Line number reason; of_bytes = own; held = why own; says = refl })
stops_scripting before after P step name Memory why = without_memory

-- # Both

-- to make the plan is part of a drive
pub readying_within : (step : Bool) (script : List ℕ) (names : List (List ℕ)) (before after : FilesSeen)
    → IsWithin (readying before after names) (driving step script names before after)
readying_within step script names before after = record {
  texts = λ text never. absurd never;
  refusals = refusing;
  read_faults = λ u. inl u;
  pieces = λ e. absurd (false≢true e);
}
  where
    refusing : (status : ℕ) (text : List ℕ) → IsNoPlanIn before names status text → (driving step script names before after).refusal status text
    refusing status text (unspelled without) = unspelled_on without
    refusing status text (unplanned blocks held without) = unplanned_on blocks held without

module _ {S : Type 0} (F : Files S) (old mid new : S) (kept : KeepsFiles F.told F.holds F.faults old mid) where
  -- what is held under a name was held before
  pub held_before : (name : List ℕ) (Q : Option (List ℕ) → Type 0) → OfFiles (files_seen F mid) (λ holds. Q (holds name)) → OfFiles (files_seen F old) (λ holds. Q (holds name))
  held_before name Q held = λ tells. subst Q (kept.same_content name) (held (kept.same_told ∙ tells))

  pub rose_before : (name : List ℕ) → Rose (F.faults mid name) (F.faults new name) → Rose (F.faults old name) (F.faults new name)
  rose_before name rose = λ below. let r = rose below in let le = kept.count name in omega arith

  -- to read the script is part of a drive, once there is a plan
  pub scripting_within : (step : Bool) (script : List ℕ) (names : List (List ℕ)) (P : Plan) → ArePlanned (files_seen F old) names P
      → IsWithin (scripting (files_seen F mid) (files_seen F new) P step script) (driving step script names (files_seen F old) (files_seen F new))
  scripting_within step script names P planned = record {
    texts = λ text never. absurd never;
    refusals = refusing;
    read_faults = λ rose. inr (record { plan = P; planned = planned; rose = rose_before script rose });
    pieces = λ e. absurd (false≢true e);
  }
    where
      refusing : (status : ℕ) (text : List ℕ) → IsNotScripted (files_seen F mid) P step script status text
          → (driving step script names (files_seen F old) (files_seen F new)).refusal status text
      refusing status text r = unscripted (record {
        is = r.is;
        plan = P;
        planned = planned;
        fault = r.fault;
        of_bytes = r.of_bytes;
        held = held_before script (λ held. HoldsNoScript held P step r.fault) r.held;
        says = r.says;
      })

  -- the plan, and a script that is held behind it
  pub given_both : (step : Bool) (script : List ℕ) (names : List (List ℕ)) (P : Plan) (lines : List line) → ArePlanned (files_seen F old) names P
      → OfFiles (files_seen F mid) (λ holds. HoldsScript (holds script) P step lines) → operations P lines ≤ MOST_OPERATIONS
      → AreGiven (files_seen F old) step script names P lines
  given_both step script names P lines planned held few =
      record { planned = planned; scripted = held_before script (λ h. HoldsScript h P step lines) held; few = few }

module _ {S : Type 0} (F : Files S) (old mid : S) (kept : KeepsFiles F.told F.holds F.faults old mid) where
  -- the same, as an answer
  pub given_by : {E : Type 0} (step : Bool) (script : List ℕ) (names : List (List ℕ)) (P : Plan) (r : Result (Plan × Script) E) → ArePlanned (files_seen F old) names P
      → IfOk r (λ x. x.0 ≡ P) → IfOk r (λ x. OfFiles (files_seen F mid) (λ holds. HoldsScript (holds script) P step x.1.lines))
      → IfOk r (λ x. operations x.0 x.1.lines ≤ MOST_OPERATIONS)
      → IfOk r (λ x. AreGiven (files_seen F old) step script names x.0 x.1.lines)
  given_by step script names P (Ok x) planned is held few =
      let bound : operations P x.1.lines ≤ MOST_OPERATIONS = subst (λ (Q : Plan). operations Q x.1.lines ≤ MOST_OPERATIONS) is few in
      subst (λ (Q : Plan). AreGiven (files_seen F old) step script names Q x.1.lines) (sym is) (given_both F old mid mid kept step script names P x.1.lines planned held bound)
  given_by step script names P (Err e) planned is held few = tt

-- # The whole

-- what came of a plan and of lines that are given is a serial drive
pub runs_drive : (step : Bool) (script : List ℕ) (names : List (List ℕ)) (before after : Seen) (P : Plan) (lines : List line)
    → AreGiven before.files step script names P lines → (status : ℕ) (written text : List ℕ)
    → RunsSerially P lines before.outputs after.outputs before.regs after.regs status written text → DrivesSerially step script names before after status written text
runs_drive step script names before after P lines given status written text (undone same) = stopped without_memory same
runs_drive step script names before after P lines given status written text (ran run prints) = drove given run prints

-- a drive by workers stops where a serial one does
pub stops_working : (step : Bool) (script : List ℕ) (names : List (List ℕ)) (before after : FilesSeen) {status : ℕ} {line : List ℕ}
    → Stops (driving step script names before after) status line → Stops (working step script names before after) status line
stops_working step script names before after (refused r) = refused r
stops_working step script names before after (read_fault u) = read_fault u
stops_working step script names before after without_memory = without_memory

-- where workers had no memory
pub works_none : {R : Type 0} (by : Registers R) (P : Plan) (lines : List line) (before after : Outputs) (regs back : R) → GivesBack by P regs back
    → Works P lines None before after (registers_seen by regs) (registers_seen by back) 6 [] (codes "no memory\n")
works_none by P lines before after regs back (inl same) = undone_by (ap (registers_seen by) same) refl
works_none by P lines before after regs back (inr opens) = opened opens refl

-- what came of them by workers is a drive by workers
pub works_drive : (step : Bool) (script : List ℕ) (names : List (List ℕ)) (sealed : Option Sealed) (before after : Seen) (P : Plan) (lines : List line)
    → AreGiven before.files step script names P lines → (status : ℕ) (written text : List ℕ)
    → Works P lines sealed before.outputs after.outputs before.regs after.regs status written text → Drives step script names sealed before after status written text
works_drive step script names sealed before after P lines given status written text (undone_by same none) = stopped_by without_memory same none
works_drive step script names sealed before after P lines given status written text (opened opens none) = opened_by given opens none
works_drive step script names sealed before after P lines given status written text (worked run prints seals) = drove_by given run prints seals

-- # Results

-- the plan of objects that are apart is the plan of the blocks that place them
pub plan_by : (entries : List Entry) (blocks : List Block) (P : Plan) → entries ≡ entries_in blocks → IsDistinct (places_of entries)
    → (notes : List Note) × IsPlanFrom entries P notes → IsPlanBy blocks P
plan_by entries blocks P are distinct made = record {
  distinct = subst (λ (l : List Entry). IsDistinct (places_of l)) are distinct;
  notes = made.0;
  made = subst (λ (l : List Entry). IsPlanFrom l P made.0) are made.1;
}
