-- What the parts of an audit do is what an audit does.
use Rattle.std.proofs.Common.{◌≡◌, ◌≢◌, ℕ, Bool, List, Some, inl, inr, refl, sym, ◌∙◌, arith}
use Rattle.std.proofs.lemmas.Bool.{false≢true}
use Rattle.pw_base.specs.declared.files.Files.{Ghosts as Files}
use Rattle.pw_base.specs.Outside.{KeepsFiles, Rose}
use Rattle.pw_base.specs.Seen.{FilesSeen, OfFiles, files_seen}
use Rattle.pw_history.specs.Wording.{Wording}
use Rattle.pw_script.specs.HistoryText.{power_words}
use Rattle.pw_script.specs.Reading.{requests_of}
use Rattle.pw_script.specs.declared.script.Line.{Line as line}
use Rattle.pw_plan.specs.declared.plan.Plan.{Plan as plan_type}
use Rattle.pw_audit.specs.declared.answer.AuditFault.{AuditFault}
use Rattle.pw_audit.specs.declared.answer.AuditFault.TheVariants.{TooLong, Wrong, Unfinished, Memory}
use Rattle.pw_audit.specs.declared.form.Form.{Form}
use Rattle.pw_cppc.specs.declared.plan.CppcPlan.{CppcPlan}
use Rattle.pw_cppc_drive.specs.declared.script.CppcLine.{CppcLine}
use Rattle.pw_cppc_drive.specs.HistoryText.{performance_words}
use Rattle.pw_cppc_drive.specs.Reading.{requests_of as cppc_requests_of}
use Rattle.pw_load.specs.Ends.{Stops}
use Rattle.pw_load.specs.Ends.Stops.{refused, read_fault, without_memory}
use Rattle.pw_load.proofs.Outcomes.{IsWithin}
use Rattle.pw_runs.specs.Runs.{AreGiven, driving}
use Rattle.pw_runs.specs.CppcRuns.{AreGiven as AreSteered, steering}
use Rattle.pw_runs.specs.Histories.{history_line, history_status}
use Rattle.pw_runs.specs.Texts.{HoldNoText, HoldText}
use Rattle.pw_runs.specs.Reviewing.{IsHistoryUnread, IsLawfulOn, IsUnlawfulOn}
use Rattle.pw_runs.specs.Reviewing.IsRefusalFor.{ungiven, unlawful}
use Rattle.pw_runs.specs.Reviews.{reviewing}
use Rattle.pw_runs.specs.CppcReviews.{reviewing as reviewing_cppc}
use Rattle.pw_runs.specs.inner.AuditParts.{IsRefusedOf, IsToldOf, judging, telling}

module _ {Plan Request Reply Entry State : Type 0} (W : Wording Plan Request Reply Entry State) where
  -- # The history

  -- to tell of a history that is held is part of judging it
  pub telling_within : (form : Form) (before after : FilesSeen) (name : List ℕ) (plan : Plan) (asked : List Request) (entries : ℕ)
      → HoldText W form before name plan asked entries → IsWithin (telling entries) (judging W form before after name plan asked)
  telling_within form before after name plan asked entries held = record {
    texts = λ text says. record { entries = entries; held = held; says = says };
    refusals = λ status line never. absurd never;
    read_faults = λ never. absurd never;
    pieces = λ e. absurd (false≢true e);
  }

  -- why a history was refused
  pub stops_judging : (form : Form) (before after : FilesSeen) (name : List ℕ) (plan : Plan) (asked : List Request) (fault : AuditFault)
      → (fault ≢ Memory → HoldNoText W form before name plan asked fault) → Stops (judging W form before after name plan asked) (history_status fault) (history_line fault)
  stops_judging form before after name plan asked (TooLong bound) why =
      let own : TooLong bound ≢ Memory = λ e. absurd (cc) in
      refused (record { is = refl; fault = TooLong bound; held = why own; says = refl })
  stops_judging form before after name plan asked (Wrong line) why =
      let own : Wrong line ≢ Memory = λ e. absurd (cc) in
      refused (record { is = refl; fault = Wrong line; held = why own; says = refl })
  stops_judging form before after name plan asked (Unfinished lines) why =
      let own : Unfinished lines ≢ Memory = λ e. absurd (cc) in
      refused (record { is = refl; fault = Unfinished lines; held = why own; says = refl })
  stops_judging form before after name plan asked Memory why = without_memory

  -- # What was held before is what is held

  module _ (form : Form) {S : Type 0} (F : Files S) (old mid new : S) (kept : KeepsFiles F.told F.holds F.faults old mid) (name : List ℕ) where
    -- what is held under a name was held before
    held_before : (bytes : List ℕ) → OfFiles (files_seen F mid) (λ holds. holds name ≡ Some bytes) → OfFiles (files_seen F old) (λ holds. holds name ≡ Some bytes)
    held_before bytes held = λ tells. sym (kept.same_content name) ∙ held (kept.same_told ∙ tells)

    history_before : (plan : Plan) (asked : List Request) (entries : ℕ) → HoldText W form (files_seen F mid) name plan asked entries
        → HoldText W form (files_seen F old) name plan asked entries
    history_before plan asked entries h = record { bytes = h.bytes; held = held_before h.bytes h.held; is = h.is }

    none_before : (plan : Plan) (asked : List Request) (fault : AuditFault) → HoldNoText W form (files_seen F mid) name plan asked fault
        → HoldNoText W form (files_seen F old) name plan asked fault
    none_before plan asked fault h = record { bytes = h.bytes; held = held_before h.bytes h.held; fails = h.fails }

    rose_before : Rose (F.faults mid name) (F.faults new name) → Rose (F.faults old name) (F.faults new name)
    rose_before rose = λ below. let r = rose below in let le = kept.count name in omega arith

    -- to judge the history, once the plan and the script are given: what was told, why it is refused, and that a read failed
    module _ {Line : Type 0} (asks : List Line → List Request) (Given : FilesSeen → Plan → List Line → Type 0) (plan : Plan) (lines : List Line)
        (given : Given (files_seen F old) plan lines) where
      pub told_so : (text : List ℕ) → IsToldOf W form (files_seen F mid) name plan (asks lines) text → IsLawfulOn W asks Given form (files_seen F old) name text
      told_so text t =
          record { plan = plan; lines = lines; given = given; entries = t.entries; held = history_before plan (asks lines) t.entries t.held; says = t.says }

      pub refused_so : (status : ℕ) (text : List ℕ) → IsRefusedOf W form (files_seen F mid) name plan (asks lines) status text
          → IsUnlawfulOn W asks Given form (files_seen F old) name status text
      refused_so status text r = record {
        is = r.is;
        plan = plan;
        lines = lines;
        given = given;
        fault = r.fault;
        held = none_before plan (asks lines) r.fault r.held;
        says = r.says;
      }

      pub unread_so : Rose (F.faults mid name) (F.faults new name) → IsHistoryUnread W asks Given (files_seen F old) (files_seen F new) name
      unread_so rose = record { plan = plan; lines = lines; given = given; rose = rose_before rose }

-- # The whole, of `drive`'s histories

-- what stops a drive before it begins stops an audit
pub stops_given : (form : Form) (step : Bool) (script history : List ℕ) (names : List (List ℕ)) (before after : FilesSeen) {status : ℕ} {text : List ℕ}
    → Stops (driving step script names before after) status text → Stops (reviewing form step script history names before after) status text
stops_given form step script history names before after (refused r) = refused (ungiven r)
stops_given form step script history names before after (read_fault (inl u)) = read_fault (inl u)
stops_given form step script history names before after (read_fault (inr u)) = read_fault (inr (inl u))
stops_given form step script history names before after without_memory = without_memory

module _ (form : Form) {S : Type 0} (F : Files S) (old mid new : S) (kept : KeepsFiles F.told F.holds F.faults old mid) (history : List ℕ) where
  -- to judge the history is part of an audit, once the plan and the script are given
  pub judging_within : (step : Bool) (script : List ℕ) (names : List (List ℕ)) (plan : plan_type) (lines : List line)
      → AreGiven (files_seen F old) step script names plan lines
      → IsWithin (judging power_words form (files_seen F mid) (files_seen F new) history plan (requests_of lines))
      (reviewing form step script history names (files_seen F old) (files_seen F new))
  judging_within step script names plan lines given = record {
    texts = told_so power_words form F old mid new kept history requests_of (λ held. AreGiven held step script names) plan lines given;
    refusals = λ status text r. unlawful (refused_so power_words form F old mid new kept history requests_of (λ held. AreGiven held step script names) plan lines given status text r);
    read_faults = λ rose. inr (inr (unread_so power_words form F old mid new kept history requests_of (λ held. AreGiven held step script names) plan lines given rose));
    pieces = λ e. absurd (false≢true e);
  }

-- # And of those of `cppc`

pub stops_steered : (form : Form) (script history : List ℕ) (names : List (List ℕ)) (before after : FilesSeen) {status : ℕ} {text : List ℕ}
    → Stops (steering script names before after) status text → Stops (reviewing_cppc form script history names before after) status text
stops_steered form script history names before after (refused r) = refused (ungiven r)
stops_steered form script history names before after (read_fault (inl u)) = read_fault (inl u)
stops_steered form script history names before after (read_fault (inr u)) = read_fault (inr (inl u))
stops_steered form script history names before after without_memory = without_memory

module _ (form : Form) {S : Type 0} (F : Files S) (old mid new : S) (kept : KeepsFiles F.told F.holds F.faults old mid) (history : List ℕ) where
  pub judging_steered : (script : List ℕ) (names : List (List ℕ)) (plan : CppcPlan) (lines : List CppcLine)
      → AreSteered (files_seen F old) script names plan lines
      → IsWithin (judging performance_words form (files_seen F mid) (files_seen F new) history plan (cppc_requests_of lines))
      (reviewing_cppc form script history names (files_seen F old) (files_seen F new))
  judging_steered script names plan lines given = record {
    texts = told_so performance_words form F old mid new kept history cppc_requests_of (λ held. AreSteered held script names) plan lines given;
    refusals = λ status text r. unlawful (refused_so performance_words form F old mid new kept history cppc_requests_of (λ held. AreSteered held script names) plan lines given status text r);
    read_faults = λ rose. inr (inr (unread_so performance_words form F old mid new kept history cppc_requests_of (λ held. AreSteered held script names) plan lines given rose));
    pieces = λ e. absurd (false≢true e);
  }
