-- What each status says follows from how a run ends and what must come.
use Rattle.std.proofs.Common.{◌≡◌, ◌∷◌, ◌-◌, ◌⊎◌, ℕ, suc, Bool, true, false, List, [], Option, inl, inr, refl, sym, subst, arith, take, length, Some, None}
use Rattle.std.specs.Prelude.{Contains}
use Rattle.std.proofs.Math.Seq.{take-length}
use Rattle.std.proofs.lemmas.Bool.{cases_lt}
use Rattle.std.proofs.lemmas.List.Elements.{Contains-get_or}
use Rattle.pw_base.specs.Outside.{Rose}
use Rattle.pw_base.specs.Seen.{FilesSeen}
use Rattle.pw_plan.specs.declared.plan.Plan.{Plan}
use Rattle.pw_model.specs.declared.entry.HistoryEntry.{HistoryEntry}
use Rattle.pw_cppc.specs.declared.entry.CppcEntry.{CppcEntry}
use Rattle.pw_cppc.specs.declared.plan.CppcPlan.{CppcPlan}
use Rattle.aml_block.specs.Held.{name_at}
use Rattle.pw_turns.specs.declared.close.Sealed.{Sealed}
use Rattle.pw_words.specs.Words.{AskFor, Asked, IsCommand}
use Rattle.pw_words.specs.Words.Asked.{on_blocks, drive, audit, cppc, generate}
use Rattle.pw_words.proofs.Asking.{one_asked}
use Rattle.pw_load.specs.Seen.{Outputs, Seen}
use Rattle.pw_load.specs.Ends.{Does, Stops}
use Rattle.pw_load.specs.Ends.Stops.{refused, read_fault, without_memory}
use Rattle.pw_load.specs.Ends.Prints.{whole, write_fault, cut}
use Rattle.pw_load.specs.Ends.Does.{stopped, printed}
use Rattle.pw_load.specs.Steps.{IsOneUnread}
use Rattle.pw_script.specs.declared.script.Line.{Line as line_of_script}
use Rattle.pw_script.specs.HistoryText.{history_text}
use Rattle.pw_script.specs.Lawful.{Lawful, LawfulSerial}
use Rattle.pw_script.specs.Reading.{requests_of}
use Rattle.pw_script.proofs.Orders.{serial_lawful}
use Rattle.pw_drive.specs.Driven.{stopped_at}
use Rattle.pw_cppc.specs.History.{stopped_at as stopped_behind}
use Rattle.pw_cppc_drive.specs.declared.script.CppcLine.{CppcLine}
use Rattle.pw_cppc_drive.specs.HistoryText.{history_text as steered_text}
use Rattle.pw_runs.specs.CppcRuns.{AreGiven as AreSteeredBy}
use Rattle.pw_runs.specs.Runs.{AreGiven, PrintsRun, register_line}
use Rattle.pw_runs.specs.Runs.{PrintsRun as runs}
use Rattle.pw_runs.specs.Runs.{DrivesSerially as serially}
use Rattle.pw_runs.specs.Workers.{Drives as by_workers}
use Rattle.pw_runs.specs.Trials.{Generates, PrintsSummary}
use Rattle.pw_runs.specs.Trials.{Generates as tries}
use Rattle.pw_runs.specs.Trials.{PrintsSummary as sums}
use Rattle.pw_runs.specs.CppcRuns.{PrintsRun as StepsPrint}
use Rattle.pw_runs.specs.CppcRuns.{PrintsRun as steers}
use Rattle.pw_runs.specs.CppcRuns.{SteersSerially as steered_serially}
use Rattle.pw_runs.specs.CppcWorkers.{Steers as steered_by}
use Rattle.pw_audit.specs.declared.form.Form.{Form}
use Rattle.pw_cli.specs.Runs.{DrivesBy, EndsBy, IsComplete, Obeys, Ran, SteersBy, driving_by, form_of, names_in, reviewing_by, steering_by, work_of}
use Rattle.pw_cli.specs.Runs.EndsBy.{misworded, commanded}
use Rattle.pw_cli.specs.Runs.EndsBy.{without_memory as without_memory_of}
use Rattle.pw_cli.specs.StatusPromises.{EndsWith, KeepsStatus, Operates, Says}
use Rattle.pw_cli.specs.StatusPromises.{EndsWith as ends}
use Rattle.pw_cli.specs.StatusPromises.{IsTextUpTo}
use Rattle.pw_cli.specs.StatusPromises.{IsTextUpTo as up_to}
use Rattle.pw_cli.proofs.Obeying.{Lost, did_or_lost, does_not, refusal_status, within_of}

-- # A file that wasn't read

-- the name of a file of which a read failed, among these
abbrev Failing : FilesSeen → FilesSeen → List (List ℕ) → Type 0
Failing before after names = (name : List ℕ) × Contains names name × Rose (before.faults name) (after.faults name)

module _ (before after : FilesSeen) where
  in_blocks : (names : List (List ℕ)) → IsOneUnread before after names → Failing before after names
  in_blocks names u =
      let some = u.failed.some in
      let within = u.failed.within in
      (name_at names u.number, Contains-get_or names (u.number - 1) [] (omega (arith, some, within)), u.failed.rose)

  behind : (other : List ℕ) (names : List (List ℕ)) → Failing before after names → Failing before after (other ∷ names)
  behind other names (name, (k, lt, is), rose) = (name, (suc k, omega (arith, lt), is), rose)

  in_front : (name : List ℕ) (names : List (List ℕ)) → Rose (before.faults name) (after.faults name) → Failing before after (name ∷ names)
  in_front name names rose = (name, (0, omega arith, refl), rose)

  driving_unread : (serial step : Bool) (script : List ℕ) (names : List (List ℕ)) → (driving_by serial step script names before after).read_fault
      → Failing before after (script ∷ names)
  driving_unread true step script names (inl u) = behind script names (in_blocks names u)
  driving_unread true step script names (inr u) = in_front script names u.rose
  driving_unread false step script names (inl u) = behind script names (in_blocks names u)
  driving_unread false step script names (inr u) = in_front script names u.rose

  steering_unread : (serial : Bool) (script : List ℕ) (names : List (List ℕ)) → (steering_by serial script names before after).read_fault
      → Failing before after (script ∷ names)
  steering_unread true script names (inl u) = behind script names (in_blocks names u)
  steering_unread true script names (inr u) = in_front script names u.rose
  steering_unread false script names (inl u) = behind script names (in_blocks names u)
  steering_unread false script names (inr u) = in_front script names u.rose

  reviewing_unread : (cppc : Bool) (form : Form) (step : Bool) (script history : List ℕ) (names : List (List ℕ))
      → (reviewing_by cppc form step script history names before after).read_fault → Failing before after (script ∷ history ∷ names)
  reviewing_unread true form step script history names (inl u) = behind script (history ∷ names) (behind history names (in_blocks names u))
  reviewing_unread true form step script history names (inr (inl u)) = in_front script (history ∷ names) u.rose
  reviewing_unread true form step script history names (inr (inr u)) = behind script (history ∷ names) (in_front history names u.rose)
  reviewing_unread false form step script history names (inl u) = behind script (history ∷ names) (behind history names (in_blocks names u))
  reviewing_unread false form step script history names (inr (inl u)) = in_front script (history ∷ names) u.rose
  reviewing_unread false form step script history names (inr (inr u)) = behind script (history ∷ names) (in_front history names u.rose)

  unread : (asked : Asked) → (work_of asked before after).read_fault → Failing before after (names_in asked)
  unread (on_blocks task names) u = in_blocks names u
  unread (drive way script names) u = driving_unread way.serial way.step script names u
  unread (audit review script history names) u = reviewing_unread review.cppc (form_of review) review.step script history names u
  unread (cppc serial script names) u = steering_unread serial script names u
  unread (generate n) u = absurd u

-- # A register that failed

stable : (a b : ℕ) → ((Rose a b → ⊥) → ⊥) → Rose a b
stable a b h small = elim (cases_lt a b) [
  | inl lt ↦ lt
  | inr le ↦ absurd (h (λ rose. let lt = rose small in absurd (omega (arith, lt, le))))
]

lost_by : (asked : Asked) (before after : Seen) (status : ℕ) → Lost asked before after status → Operates asked × Rose before.regs.faults after.regs.faults
lost_by (on_blocks task names) before after status lost = absurd (lost.unheld tt)
lost_by (drive way script names) before after status lost = (tt, stable before.regs.faults after.regs.faults lost.unheld)
lost_by (audit review script history names) before after status lost = absurd (lost.unheld tt)
lost_by (cppc serial script names) before after status lost = (tt, stable before.regs.faults after.regs.faults lost.unheld)
lost_by (generate n) before after status lost = (tt, stable before.regs.faults after.regs.faults lost.unheld)

-- the line of a register that failed, and what was printed of a text
record SaysFailed (at : Option ℕ) (all text line : List ℕ) : Type 0 where
  done : ℕ
  is : at ≡ Some done
  line_is : line ≡ register_line done
  printed : ℕ
  text_is : text ≡ take printed all

all_of : (l : List ℕ) → l ≡ take (length l) l
all_of l = sym (take-length l)

printed_failed : {P : Plan} {opening : Option ℕ} {es : List HistoryEntry} {before after : Outputs} {status : ℕ} {text line : List ℕ}
    → PrintsRun P opening es before after status text line → status ≡ 5 → SaysFailed (stopped_at opening es) (history_text P opening es) text line
printed_failed (runs.whole none) five = absurd (omega (arith, five))
printed_failed (runs.write_fault n none rose) five = absurd (omega (arith, five))
printed_failed {P} {opening} {es} (runs.failed {k = k} at) five =
    record { done = k; is = at; line_is = refl; printed = length (history_text P opening es); text_is = all_of (history_text P opening es) }
printed_failed (runs.failed_write_fault {k = k} n at rose) five = record { done = k; is = at; line_is = refl; printed = n; text_is = refl }
printed_failed runs.without_memory five = absurd (omega (arith, five))

steered_failed : {P : CppcPlan} {opening : Option ℕ} {es : List CppcEntry} {before after : Outputs} {status : ℕ} {text line : List ℕ}
    → StepsPrint P opening es before after status text line → status ≡ 5 → SaysFailed (stopped_behind opening es) (steered_text P opening es) text line
steered_failed (steers.whole none) five = absurd (omega (arith, five))
steered_failed (steers.write_fault n none rose) five = absurd (omega (arith, five))
steered_failed {P} {opening} {es} (steers.failed {k = k} at) five =
    record { done = k; is = at; line_is = refl; printed = length (steered_text P opening es); text_is = all_of (steered_text P opening es) }
steered_failed (steers.failed_write_fault {k = k} n at rose) five = record { done = k; is = at; line_is = refl; printed = n; text_is = refl }
steered_failed steers.without_memory five = absurd (omega (arith, five))

-- what a command printed before a register failed, and the line
record Came (files : FilesSeen) (asked : Asked) (text line : List ℕ) : Type 0 where
  done : ℕ
  printed : IsTextUpTo files done text asked
  line_is : line ≡ register_line done

summed_failed : (files : FilesSeen) {n : ℕ} {P : Plan} {opening : Option ℕ} {es : List HistoryEntry} {before after : Outputs} {status : ℕ} {text line : List ℕ}
    → PrintsSummary n P opening es before after status text line → status ≡ 5 → Came files (generate n) text line
summed_failed files (sums.whole none sum) five = absurd (omega (arith, five))
summed_failed files (sums.write_fault m none sum rose) five = absurd (omega (arith, five))
summed_failed files (sums.failed {k = k} at) five = record { done = k; printed = up_to.of_load refl; line_is = refl }
summed_failed files sums.without_memory five = absurd (omega (arith, five))

-- a serial drive is one that the script allows
lawful_of : (P : Plan) (lines : List line_of_script) (opening : Option ℕ) (es : List HistoryEntry) → LawfulSerial P (requests_of lines) opening es
    → Lawful P (requests_of lines) opening es
lawful_of P lines (Some k) es lawful = lawful
lawful_of P lines None es lawful = serial_lawful P (requests_of lines) None es lawful

module _ (before after : Seen) where
  -- who stopped before its output ended otherwise
  not_stopped : (asked : Asked) (status : ℕ) (line : List ℕ) → Stops (work_of asked before.files after.files) status line → status ≡ 5
      → Came before.files asked [] line
  not_stopped asked status line way five = absurd (does_not 5 (inr refl) asked before after status [] line (stopped way) five)

  drive_came : (serial step : Bool) (script : List ℕ) (names : List (List ℕ)) (P : Plan) (lines : List line_of_script) (opening : Option ℕ) (es : List HistoryEntry)
      (text line : List ℕ) → AreGiven before.files step script names P lines → Lawful P (requests_of lines) opening es
      → SaysFailed (stopped_at opening es) (history_text P opening es) text line
      → Came before.files (drive (record { serial = serial; step = step }) script names) text line
  drive_came serial step script names P lines opening es text line given lawful said =
      record { done = said.done; printed = up_to.of_drive P lines opening es said.printed given lawful said.is said.text_is; line_is = said.line_is }

  cppc_came : (serial : Bool) (script : List ℕ) (names : List (List ℕ)) (P : CppcPlan) (lines : List CppcLine) (opening : Option ℕ) (es : List CppcEntry)
      (text line : List ℕ) → AreSteeredBy before.files script names P lines → SaysFailed (stopped_behind opening es) (steered_text P opening es) text line
      → Came before.files (cppc serial script names) text line
  cppc_came serial script names P lines opening es text line given said =
      record { done = said.done; printed = up_to.of_cppc P lines opening es said.printed given said.is said.text_is; line_is = said.line_is }

  drive_said : (serial step : Bool) (script : List ℕ) (names : List (List ℕ)) (sealed : Option Sealed) (status : ℕ) (text line : List ℕ)
      → DrivesBy serial step script names sealed before after status text line → status ≡ 5
      → Came before.files (drive (record { serial = serial; step = step }) script names) text line
  drive_said true step script names sealed status text line (serially.stopped way same, unsealed) five =
      not_stopped (drive (record { serial = true; step = step }) script names) status line way five
  drive_said true step script names sealed status text line (serially.drove {P = P} {lines = lines} {opening = opening} {es = es} given run prints, unsealed) five =
      drive_came true step script names P lines opening es text line given (lawful_of P lines opening es run.lawful) (printed_failed prints five)
  drive_said false step script names sealed status text line (by_workers.stopped way same unsealed) five =
      not_stopped (drive (record { serial = false; step = step }) script names) status line way five
  drive_said false step script names sealed status text line (by_workers.opened given opens unsealed) five = absurd (omega (arith, five))
  drive_said false step script names sealed status text line (by_workers.drove {P = P} {lines = lines} {opening = opening} {es = es} given run prints seals) five =
      drive_came false step script names P lines opening es text line given run.lawful (printed_failed prints five)

  cppc_said : (serial : Bool) (script : List ℕ) (names : List (List ℕ)) (status : ℕ) (text line : List ℕ) → SteersBy serial script names before after status text line
      → status ≡ 5 → Came before.files (cppc serial script names) text line
  cppc_said true script names status text line (steered_serially.stopped way same) five = not_stopped (cppc true script names) status line way five
  cppc_said true script names status text line (steered_serially.steered {P = P} {lines = lines} {opening = opening} {es = es} given run prints) five =
      cppc_came true script names P lines opening es text line given (steered_failed prints five)
  cppc_said false script names status text line (steered_by.stopped way same) five = not_stopped (cppc false script names) status line way five
  cppc_said false script names status text line (steered_by.opened given opens) five = absurd (omega (arith, five))
  cppc_said false script names status text line (steered_by.steered {P = P} {lines = lines} {opening = opening} {es = es} given run prints) five =
      cppc_came false script names P lines opening es text line given (steered_failed prints five)

  load_said : (n : ℕ) (sealed : Option Sealed) (status : ℕ) (text line : List ℕ)
      → Generates n sealed before.outputs after.outputs before.regs after.regs status text line → status ≡ 5 → Came before.files (generate n) text line
  load_said n sealed status text line (tries.undone same unsealed) five = absurd (omega (arith, five))
  load_said n sealed status text line (tries.opened machine few opens unsealed) five = absurd (omega (arith, five))
  load_said n sealed status text line (tries.drove machine few run prints seals) five = summed_failed before.files prints five

  said_failed : (asked : Asked) (sealed : Option Sealed) (status : ℕ) (text line : List ℕ) → Obeys asked sealed before after status text line → status ≡ 5
      → Came before.files asked text line
  said_failed (on_blocks task names) sealed status text line o five = absurd (does_not 5 (inr refl) (on_blocks task names) before after status text line o.0 five)
  said_failed (drive way script names) sealed status text line o five = drive_said way.serial way.step script names sealed status text line o five
  said_failed (audit review script history names) sealed status text line o five =
      absurd (does_not 5 (inr refl) (audit review script history names) before after status text line o.0 five)
  said_failed (cppc serial script names) sealed status text line o five = cppc_said serial script names status text line o.0 five
  said_failed (generate n) sealed status text line o five = load_said n sealed status text line o five

-- # How it ended

module _ (words : List (List ℕ)) (before after : Seen) where
  refused_with : (asked : Asked) → AskFor words asked → (status : ℕ) (line : List ℕ) → (work_of asked before.files after.files).refusal status line
      → Says before.outputs after.outputs [] line → (status ≡ 1) ⊎ (status ≡ 7) ⊎ (status ≡ 8) → EndsWith words before after status
  refused_with asked asks status line r says (inl one) = subst (EndsWith words before after) (sym one)
      (ends.blocks (record { asked = asked; asks = asks; line = line; why = subst (λ s. (work_of asked before.files after.files).refusal s line) one r; says = says }))
  refused_with asked asks status line r says (inr (inl seven)) = subst (EndsWith words before after) (sym seven)
      (ends.script (record { asked = asked; asks = asks; line = line; why = subst (λ s. (work_of asked before.files after.files).refusal s line) seven r; says = says }))
  refused_with asked asks status line r says (inr (inr eight)) = subst (EndsWith words before after) (sym eight)
      (ends.history (record { asked = asked; asks = asks; line = line; why = subst (λ s. (work_of asked before.files after.files).refusal s line) eight r; says = says }))

  by_work : (asked : Asked) → AskFor words asked → (status : ℕ) (text line : List ℕ)
      → Does (work_of asked before.files after.files) before.outputs after.outputs status text line → Says before.outputs after.outputs text line
      → EndsWith words before after status
  by_work asked asks status text line (stopped (refused r)) says = refused_with asked asks status line r says (refusal_status asked before.files after.files status line r)
  by_work asked asks status text line (stopped (read_fault u)) says =
      let (name, named, rose) = unread before.files after.files asked u in
      ends.unread (record { asked = asked; asks = asks; name = name; named = named; rose = rose; says = says })
  by_work asked asks status text line (stopped without_memory) says = ends.starved (record { text = []; made = inl refl; printed = 0; says = says })
  by_work asked asks status text line (printed made whole) says = ends.done (record { asked = asked; asks = asks; text = text; made = made; says = says })
  by_work asked asks status text line (printed {text = all} made (write_fault n rose)) says =
      ends.unwritten (record { asked = asked; asks = asks; text = all; made = made; printed = n; rose = rose; says = says })
  by_work asked asks status text line (printed {text = all} made (cut n pieces)) says =
      ends.starved (record { text = all; made = inr (asked, asks, made); printed = n; says = says })

  ended : (sealed : Option Sealed) (status : ℕ) (text line : List ℕ) → EndsBy words sealed before after status text line → Says before.outputs after.outputs text line
      → EndsWith words before after status
  ended sealed status text line (misworded none same unsealed) says = ends.misworded (record { no_command = none; says = says })
  ended sealed status text line (without_memory_of same unsealed) says = ends.starved (record { text = []; made = inl refl; printed = 0; says = says })
  ended sealed status text line (commanded asked asks does) says =
      elim (did_or_lost asked (within_of words asked asks) sealed before after status text line does) [
        | inl did ↦ by_work asked asks status text line did says
        | inr lost ↦
            let by = lost_by asked before after status lost in
            let came = said_failed before after asked sealed status text line does lost.five in
            subst (EndsWith words before after) (sym lost.five) (ends.failed (record {
              asked = asked;
              asks = asks;
              operates = by.0;
              rose = by.1;
              done = came.done;
              text = text;
              printed = came.printed;
              says = subst (Says before.outputs after.outputs text) came.line_is says;
            }))
      ]

  -- # Registers

  still_by : (asked : Asked) (sealed : Option Sealed) (status : ℕ) (text line : List ℕ) → Obeys asked sealed before after status text line → (Operates asked → ⊥)
      → after.regs ≡ before.regs
  still_by (on_blocks task names) sealed status text line o none = o.1
  still_by (drive way script names) sealed status text line o none = absurd (none tt)
  still_by (audit review script history names) sealed status text line o none = o.1
  still_by (cppc serial script names) sealed status text line o none = absurd (none tt)
  still_by (generate n) sealed status text line o none = absurd (none tt)

  still : (asked : Asked) → AskFor words asked → (Operates asked → ⊥) → (sealed : Option Sealed) (status : ℕ) (text line : List ℕ)
      → EndsBy words sealed before after status text line → after.regs ≡ before.regs
  still asked asks none sealed status text line (misworded none_so same unsealed) = same
  still asked asks none sealed status text line (without_memory_of same unsealed) = same
  still asked asks none sealed status text line (commanded other named does) =
      still_by asked sealed status text line (subst (λ (a : Asked). Obeys a sealed before after status text line) (one_asked words other asked named asks) does) none

  still_misworded : (IsCommand words → ⊥) → (sealed : Option Sealed) (status : ℕ) (text line : List ℕ) → EndsBy words sealed before after status text line
      → after.regs ≡ before.regs
  still_misworded none sealed status text line (misworded none_so same unsealed) = same
  still_misworded none sealed status text line (without_memory_of same unsealed) = same
  still_misworded none sealed status text line (commanded asked asks does) = absurd (none (asked, asks))

-- # What a status says, and when it comes

pub keeps_status : (words : List (List ℕ)) (sealed : Option Sealed) (before after : Seen) (status : ℕ) → Ran words sealed before after status
    → IsComplete words before after status → KeepsStatus words before after status
keeps_status words sealed before after status ran complete = record {
  ends = ended words before after sealed status ran.text ran.line ran.way (record { on_out = ran.on_out; on_err = ran.on_err });
  misworded = λ none. elim (complete.misworded none) [
    | inl so ↦ inl so.is
    | inr six ↦ inr six
  ];
  refused = λ asked asks tells none so line why. elim ((complete.obeyed asked asks tells none).refuses so line why) [
    | inl ended_so ↦ inl ended_so.is
    | inr six ↦ inr six
  ];
  done = λ asked asks tells none text made held unfailed. elim ((complete.obeyed asked asks tells none).prints text made held unfailed) [
    | inl well ↦ inl well.so.is
    | inr six ↦ inr six
  ];
  still = λ asked asks none. still words before after asked asks none sealed status ran.text ran.line ran.way;
  still_misworded = λ none. still_misworded words before after none sealed status ran.text ran.line ran.way;
}
