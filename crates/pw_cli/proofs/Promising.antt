-- What a drive promises follows from how it ends.
use Rattle.std.proofs.Common.{◌≡◌, ◌<◌, ◌≤◌, ◌^◌, ◌++◌, ◌∷◌, ◌⊎◌, ◌∙◌, ℕ, Bool, true, false, List, [], take, drop, Option, Some, None, inl, inr, refl, sym, subst, arith, eq-eqb}
use Rattle.std.specs.Prelude.{◌↔◌}
use Rattle.std.proofs.lemmas.List.{take-append-drop}
use Rattle.acpi_values.specs.declared.dependency.Coord.TheVariants.{SwAll, HwAll}
use Rattle.std.specs.List.{AllByRecursion}
use Rattle.pw_base.specs.Seen.{FilesSeen, Grew}
use Rattle.pw_base.proofs.Facts.{weaker}
use Rattle.pw_plan.specs.declared.plan.Plan.{Plan}
use Rattle.pw_plan.specs.declared.request.Request.{Request}
use Rattle.pw_model.specs.declared.entry.HistoryEntry.{HistoryEntry}
use Rattle.pw_model.specs.declared.reply.Reply.{Reply}
use Rattle.pw_model.specs.States.{vote_of}
use Rattle.pw_model.specs.Domains.{may_enter}
use Rattle.pw_model.specs.declared.state.State.{State}
use Rattle.pw_model.specs.Answers.{after, answer}
use Rattle.pw_model.specs.Operations.{ops_of}
use Rattle.pw_model.specs.History.{Faultless, IsEntry, Legal, StatesRequest, after_entry, replay, request_of}
use Rattle.pw_model.proofs.Idleness.{state_allowed, state_greatest}
use Rattle.pw_model.proofs.Gathering.{behind_own, entered_greatest, entered_may, fastest_own, stands_asked, stands_fastest, stands_within}
use Rattle.pw_model.proofs.Greatest.{greatest-le}
use Rattle.pw_model.proofs.AnyMember.{any_is_set}
use Rattle.pw_model.proofs.Setting.{member_is_set}
use Rattle.pw_kind.proofs.Joining.{each_first, each_last}
use Rattle.pw_model.proofs.Joining.{fault_none, legal-first, replay-append}
use Rattle.pw_model.proofs.Operating.{all_start}
use Rattle.pw_model.proofs.Staying.{replay_fits, request_has}
use Rattle.pw_notice.specs.Limits.{requests}
use Rattle.pw_script.specs.declared.script.Line.{Line as line}
use Rattle.pw_script.specs.HistoryText.{history_text, power_words}
use Rattle.pw_script.specs.Lawful.{HasLine, IsRunOf}
use Rattle.pw_script.specs.Reading.{operations, requests_of}
use Rattle.pw_script.specs.Wholes.{IsWhole}
use Rattle.pw_history.proofs.Beginnings.{history_lines-append}
use Rattle.pw_history.proofs.Ends.{lawful-told}
use Rattle.pw_script.proofs.Lined.{entry_line}
use Rattle.pw_script.proofs.Orders.{serial_lawful}
use Rattle.pw_script.proofs.Told.{power_laws}
use Rattle.pw_drive.specs.Driven.{OperatesFor, stopped_at}
use Rattle.pw_drive.specs.Drives.{Runs, TellSeats}
use Rattle.pw_turns.specs.declared.close.Sealed.{Sealed}
use Rattle.pw_audit.specs.declared.form.Form.{Form}
use Rattle.pw_audit.specs.declared.form.Form.TheVariants.{History, Trace}
use Rattle.pw_audit.specs.Traces.{IsSortedFrom, IsWholeAs}
use Rattle.pw_words.specs.declared.command.Review.{Review}
use Rattle.pw_words.specs.declared.command.Way.{Way}
use Rattle.pw_words.specs.Words.{AskFor, Asked}
use Rattle.pw_words.specs.Words.Asked.{on_blocks, drive, audit, generate}
use Rattle.pw_words.specs.declared.command.Task.{Task}
use Rattle.pw_words.proofs.Asking.{one_asked}
use Rattle.pw_load.specs.Seen.{Outputs, Seen}
use Rattle.pw_load.specs.Ends.{Does, Stops, Work}
use Rattle.pw_load.specs.Ends.Does.{stopped as stops, printed as prints}
use Rattle.pw_load.specs.Ends.Prints.{whole as all_printed, write_fault as part_printed, cut}
use Rattle.pw_load.specs.Ends.Stops.{refused, read_fault}
use Rattle.pw_load.specs.Ends.Stops.{without_memory as no_memory}
use Rattle.pw_runs.specs.Runs.{AreGiven, ArePlanned, IsSerialRun, PrintsRun}
use Rattle.pw_runs.specs.Scripts.{HoldsScript}
use Rattle.pw_runs.specs.Runs.DrivesSerially.{stopped, drove}
use Rattle.pw_runs.specs.Runs.PrintsRun.{whole, write_fault, failed, failed_write_fault, without_memory}
use Rattle.pw_runs.specs.Workers.Drives.{stopped as work_stopped, opened as work_opened, drove as workers_drove}
use Rattle.pw_runs.proofs.Paths.{planned_segments}
use Rattle.pw_cli.specs.Runs.{DrivesBy, EndsBy, Obeys, Ran, form_of, reviewing_by, work_of}
use Rattle.pw_cli.specs.Runs.EndsBy.{misworded, commanded}
use Rattle.pw_cli.specs.Runs.EndsBy.{without_memory as without_memory_of}
use Rattle.pw_runs.specs.Trials.{Generates, IsMachine, PrintsSummary}
use Rattle.pw_runs.specs.Trials.Generates.{undone, opened}
use Rattle.pw_runs.specs.Trials.Generates.{drove as tried}
use Rattle.pw_runs.specs.Trials.PrintsSummary.{whole as all_summed, write_fault as part_summed, failed as never_summed, without_memory as unsummed}
use Rattle.pw_runs.proofs.TrialOne.{trying_is_one}
use Rattle.pw_generate.specs.Loads.{machine_load}
use Rattle.pw_generate.specs.Machines.{machine_block}
use Rattle.pw_generate.proofs.Adding.{adds_up}
use Rattle.pw_generate.proofs.Whole.{machine_apart}
use Rattle.pw_governor.specs.Choices.{IsLawful, Suits, choice}
use Rattle.acpi_values.specs.declared.idle.IdleTable.{IdleTable}
use Rattle.aml_block.proofs.OneReading.{same_blocks}
use Rattle.pw_tasks.proofs.One.{one_text_of}
use Rattle.pw_cli.proofs.Obeying.{refusal_status, within_of}
use Rattle.pw_cli.specs.Machines.{IsMachineIn}
use Rattle.pw_cli.specs.Served.{IsRefusedFor, IsServed}
use Rattle.pw_cli.specs.Promises.{AreServed, KeepsAudit, KeepsDrive, KeepsGenerate, KeepsTask, MachineStands}
use Rattle.pw_cli.proofs.Loads.{load_tables, tells_containers}
use Rattle.pw_cli.specs.Promises.{SaysLines}
use Rattle.pw_cli.proofs.Counting.{ops_few}
use Rattle.pw_cli.proofs.Machining.{ObjectLaws, machine_of}
use Rattle.pw_cli.proofs.Serving.{refused_so, served, why_said}

-- # A machine after a history without a fault

machine_stands : (P : Plan) (es : List HistoryEntry) → Legal P es → Faultless es → MachineStands P es
machine_stands P es legal faultless = record {
  containers = record { may = λ n lt. state_allowed P (replay P es) n lt; deepest = λ n i h. state_greatest P (replay P es) n i h };
  processors = record {
    within = λ p. greatest-le (may_enter P (replay P es) p) (vote_of (replay P es) p).state;
    may = λ p lt. entered_may P (replay P es) p lt;
    deepest = λ p j le h. entered_greatest P (replay P es) p j le h;
  };
  domains = record {
    limits = λ d p software. stands_within P (replay P es) d p software;
    no_slower = λ d p q t software member ask limits. stands_fastest P (replay P es) d p software q t member ask limits;
    no_faster = λ d p t software le asks. stands_asked P (replay P es) d p software t le asks;
    own = λ d p hardware. behind_own P (replay P es) d p hardware;
    own_fastest = λ d p t hardware h. fastest_own P (replay P es) d p hardware t h;
  };
  registers = record {
    all = λ d p on own. member_is_set P SwAll d p refl on own es legal.well_formed.entries faultless;
    each = λ d p on own. member_is_set P HwAll d p refl on own es legal.well_formed.entries faultless;
    any = λ d p on own. any_is_set P d p on own es legal.well_formed.entries faultless;
  };
}

-- and so after each of its beginnings
beginning_stands : (P : Plan) (es : List HistoryEntry) → Legal P es → Faultless es → (k : ℕ) → MachineStands P (take k es)
beginning_stands P es legal faultless k =
    let whole = sym (take-append-drop k es) in
    machine_stands P (take k es) (legal-first P (take k es) (drop k es) (subst (Legal P) whole legal))
    (each_first (λ (e : HistoryEntry). e.fault ≡ 0) (take k es) (drop k es) (subst Faultless whole faultless))

-- # Requests

-- each is served in the state that those before it leave
served_each : (P : Plan) (es : List HistoryEntry) → Legal P es → Faultless es → AreServed P es
served_each P entries legal faultless es later e is =
    let q = request_of e in
    let S = replay P es in
    let formed = subst (AllByRecursion (IsEntry P)) is legal.well_formed.entries in
    let self = (each_last (IsEntry P) es (e ∷ later) formed).0 in
    let held = (each_last (λ (f : HistoryEntry). f.fault ≡ 0) es (e ∷ later) (subst Faultless is faultless)).0 in
    let states = weaker (IsEntry P) (StatesRequest P) (λ f h. h.states) es (each_first (IsEntry P) es (e ∷ later) formed) in
    let step : after_entry P S e ≡ after P S q = rw (eq-eqb e.fault 0 held) refl in
    subst (λ (T : State). IsServed P S T q (answer P S q) (ops_of P S q)) (sym (replay-append P es (e ∷ []) ∙ step))
    (served P S q (replay_fits P es states) (request_has P e self.states))

-- and is the request of a line
has_line : (P : Plan) (asked : List Request) (entries : List HistoryEntry) → IsRunOf P asked entries → (es later : List HistoryEntry) (e : HistoryEntry)
    → entries ≡ es ++ e ∷ later → HasLine P asked es e
has_line P asked entries run es later e is =
    let run = subst (IsRunOf P asked) is run in
    let self = (each_last (IsEntry P) es (e ∷ later) run.legal.well_formed.entries).0 in
    entry_line P asked es later e self.states.cpu run

-- a reason that stands is the reply
refused_each : (P : Plan) (es : List HistoryEntry) (e : HistoryEntry) (why : Reply) → IsRefusedFor P (replay P es) (request_of e) why
    → answer P (replay P es) (request_of e) ≡ why
refused_each P es e why is = why_said P (replay P es) (request_of e) why (refused_so P (replay P es) (request_of e) why is)

-- # What is given

machine_in : ObjectLaws → (files : FilesSeen) (names : List (List ℕ)) (P : Plan) → ArePlanned files names P → IsMachineIn files names P
machine_in laws files names P planned = record {
  blocks = planned.blocks;
  held = planned.held;
  machine = machine_of laws planned.blocks P planned.notes planned.distinct planned.made;
}

-- what the law of choices says
pub record ChoiceLaws : Type 0 where
  pub suits : (t : IdleTable) (tolerance residency : ℕ) → IsLawful t tolerance residency (choice t tolerance residency)
  pub deepest : (t : IdleTable) (tolerance residency s : ℕ) → s < 2 ^ 32 → Suits t tolerance residency s → s ≤ choice t tolerance residency

says_lines : ChoiceLaws → (files : FilesSeen) (script : List ℕ) (P : Plan) (step : Bool) (lines : List line) → HoldsScript (files.holds script) P step lines
    → SaysLines (files.holds script) P step lines
says_lines choices files script P step lines held = record {
  bytes = held.bytes;
  is = held.is;
  good = held.reads.good;
  lines_are = held.reads.lines_are;
  suits = choices.suits;
  deepest = choices.deepest;
}

-- # How it ends with status 0

stops_not_0 : (work : Work) → ((s : ℕ) (l : List ℕ) → work.refusal s l → (s ≡ 1) ⊎ (s ≡ 7) ⊎ (s ≡ 8)) → (status : ℕ) (line : List ℕ)
    → Stops work status line → status ≡ 0 → ⊥
stops_not_0 work refusals status line (refused r) zero = elim (refusals status line r) [
  | inl one ↦ omega (arith, one, zero)
  | inr (inl seven) ↦ omega (arith, seven, zero)
  | inr (inr eight) ↦ omega (arith, eight, zero)
]
stops_not_0 work refusals status line (read_fault u) zero = absurd (omega (arith, zero))
stops_not_0 work refusals status line no_memory zero = absurd (omega (arith, zero))

-- a command that refuses, or couldn't read, or had no memory, doesn't end so
pub never_stops : (asked : Asked) (before after : Seen) (status : ℕ) (line : List ℕ) → Stops (work_of asked before.files after.files) status line
    → status ≡ 0 → ⊥
never_stops asked before after status line halted zero =
    stops_not_0 (work_of asked before.files after.files) (refusal_status asked before.files after.files) status line halted zero

-- it printed one of its texts, whole
pub does_whole : (asked : Asked) (before after : Seen) (status : ℕ) (text line : List ℕ)
    → Does (work_of asked before.files after.files) before.outputs after.outputs status text line → status ≡ 0
    → (work_of asked before.files after.files).text text
does_whole asked before after status text line (stops halted) zero = absurd (never_stops asked before after status line halted zero)
does_whole asked before after status text line (prints made all_printed) zero = made
does_whole asked before after status text line (prints made (part_printed n rose)) zero = absurd (omega (arith, zero))
does_whole asked before after status text line (prints made (cut n pieces)) zero = absurd (omega (arith, zero))

-- the whole text was printed, and no register failed
record Whole (P : Plan) (opening : Option ℕ) (es : List HistoryEntry) (text : List ℕ) : Type 0 where
  unstopped : stopped_at opening es ≡ None
  says : text ≡ history_text P opening es

whole_text : (before after : Outputs) {P : Plan} {opening : Option ℕ} {es : List HistoryEntry} {status : ℕ} {text said : List ℕ}
    → PrintsRun P opening es before after status text said → status ≡ 0 → Whole P opening es text
whole_text before after (whole none) zero = record { unstopped = none; says = refl }
whole_text before after (write_fault n none rose) zero = absurd (omega (arith, zero))
whole_text before after (failed at) zero = absurd (omega (arith, zero))
whole_text before after (failed_write_fault n at rose) zero = absurd (omega (arith, zero))
whole_text before after without_memory zero = absurd (omega (arith, zero))

module _ (laws : ObjectLaws) (choices : ChoiceLaws) (step : Bool) (script : List ℕ) (names : List (List ℕ)) (before after : Seen) (tells : before.files.told ≡ true) where
  -- a run of the lines without a fault, that was printed whole
  kept : (serial : Bool) (P : Plan) (lines : List line) → AreGiven before.files step script names P lines → (es : List HistoryEntry)
      → IsRunOf P (requests_of lines) es → Faultless es → OperatesFor P (operations P lines) None es before.regs after.regs
      → (serial ≡ true → requests es ≡ requests_of lines) → (serial ≡ false → TellSeats es)
      → Grew before.outputs.out after.outputs.out (history_text P None es) → KeepsDrive serial step script names before after
  kept serial P lines given es run faultless operates ordered seats grew = record {
    plan = P;
    machine = machine_in laws before.files names P given.planned;
    lines = lines;
    scripted = λ tells. says_lines choices before.files script P step lines (given.scripted tells);
    entries = es;
    printed = grew;
    one = λ narrow other run' same.
        (lawful-told (power_laws P (planned_segments before.files names P tells given.planned)) (requests_of lines) (requests_of lines) None None es other narrow narrow run run' same).1;
    asked = run.whole faultless;
    in_order = ordered;
    line_of = λ fs later e is. has_line P (requests_of lines) es run fs later e is;
    told = λ fs later e is. history_lines-append power_words P None fs (e ∷ later);
    served = served_each P es run.legal faultless;
    refused = refused_each P;
    stands = beginning_stands P es run.legal faultless;
    starts = all_start P;
    operated = operates.log;
    few = let some = ops_few P lines es run faultless in let bound = given.few in omega (arith, some, bound);
    workers = seats;
  }

  serially : (P : Plan) (lines : List line) → AreGiven before.files step script names P lines → (opening : Option ℕ) (es : List HistoryEntry)
      → IsSerialRun P lines opening es before.regs after.regs → (text : List ℕ) → Whole P opening es text
      → Grew before.outputs.out after.outputs.out text → KeepsDrive true step script names before after
  serially P lines given (Some k) es run text w grew = let none = w.unstopped in absurd (cc)
  serially P lines given None es run text w grew =
      let faultless = fault_none es w.unstopped in
      kept true P lines given es (serial_lawful P (requests_of lines) None es run.lawful) faultless run.operates (λ yes. run.lawful.whole faultless)
      (λ no. absurd (cc)) (subst (Grew before.outputs.out after.outputs.out) w.says grew)

  by_workers : (P : Plan) (lines : List line) → AreGiven before.files step script names P lines → (opening : Option ℕ) (es : List HistoryEntry)
      → Runs P lines opening es before.regs after.regs → (text : List ℕ) → Whole P opening es text
      → Grew before.outputs.out after.outputs.out text → KeepsDrive false step script names before after
  by_workers P lines given (Some k) es run text w grew = let none = w.unstopped in absurd (cc)
  by_workers P lines given None es run text w grew =
      kept false P lines given es run.lawful (fault_none es w.unstopped) run.operates (λ no. absurd (cc)) (λ yes. run.seats)
      (subst (Grew before.outputs.out after.outputs.out) w.says grew)

  drives : (serial : Bool) (sealed : Option Sealed) (status : ℕ) (text said : List ℕ)
      → DrivesBy serial step script names sealed before after status text said → status ≡ 0
      → Grew before.outputs.out after.outputs.out text → KeepsDrive serial step script names before after
  drives true sealed status text said (stopped way same, unsealed) zero grew =
      absurd (never_stops (drive (record { serial = true; step = step }) script names) before after status said way zero)
  drives true sealed status text said (drove {P = P} {lines = lines} {opening = opening} {es = es} given run shown, unsealed) zero grew =
      serially P lines given opening es run text (whole_text before.outputs after.outputs shown zero) grew
  drives false sealed status text said (work_stopped way same unsealed) zero grew =
      absurd (never_stops (drive (record { serial = false; step = step }) script names) before after status said way zero)
  drives false sealed status text said (work_opened given opens unsealed) zero grew = absurd (omega (arith, zero))
  drives false sealed status text said (workers_drove {P = P} {lines = lines} {opening = opening} {es = es} given run shown seals) zero grew =
      by_workers P lines given opening es run text (whole_text before.outputs after.outputs shown zero) grew

-- a run that did its work as this command does it
pub obeyed : {words : List (List ℕ)} {sealed : Option Sealed} {before after : Seen} {status : ℕ} {text said : List ℕ} (asked : Asked) → AskFor words asked
    → EndsBy words sealed before after status text said → status ≡ 0 → Obeys asked sealed before after status text said
obeyed asked is (misworded none same unsealed) zero = absurd (omega (arith, zero))
obeyed asked is (without_memory_of same unsealed) zero = absurd (omega (arith, zero))
obeyed {words} {sealed} {before} {after} {status} {text} {said} asked is (commanded other named does) zero =
    subst (λ (a : Asked). Obeys a sealed before after status text said) (one_asked words other asked named is) does

pub keeps_drive : ObjectLaws → ChoiceLaws → (words : List (List ℕ)) (way : Way) (script : List ℕ) (names : List (List ℕ)) (sealed : Option Sealed) (before after : Seen)
    → AskFor words (drive way script names) → before.files.told ≡ true → Ran words sealed before after 0
    → KeepsDrive way.serial way.step script names before after
keeps_drive laws choices words way script names sealed before after asks tells ran =
    drives laws choices way.step script names before after tells way.serial sealed 0 ran.text ran.line (obeyed (drive way script names) asks ran.way refl) refl ran.on_out

-- # Other commands

pub keeps_task : (words : List (List ℕ)) (task : Task) (names : List (List ℕ)) (sealed : Option Sealed) (before after : Seen)
    → AskFor words (on_blocks task names) → before.files.told ≡ true → Ran words sealed before after 0 → KeepsTask task names before after
keeps_task words task names sealed before after asks tells ran =
    let o = obeyed (on_blocks task names) asks ran.way refl in
    let made = does_whole (on_blocks task names) before after 0 ran.text ran.line o.0 refl in
    record {
      blocks = made.blocks;
      held = made.held;
      only = λ other held. same_blocks before.files.holds 0 names other made.blocks (held tells) (made.held tells);
      text = ran.text;
      made = made.made;
      one = λ other is. one_text_of task made.blocks other ran.text is made.made;
      printed = ran.on_out;
      still = o.1;
    }

-- what texts are to histories
pub record TextLaws : Type 0 where
  pub history : (P : Plan) (asked : List Request) (text : List ℕ) → IsWholeAs History P asked text ↔ IsWhole P asked text
  pub sorts : (P : Plan) (asked : List Request) (trace : List ℕ) → IsWholeAs Trace P asked trace
      → (history : List ℕ) × IsWhole P asked history × IsSortedFrom P trace history

pub keeps_audit : ObjectLaws → ChoiceLaws → TextLaws → (words : List (List ℕ)) (review : Review) (script history : List ℕ) (names : List (List ℕ)) (sealed : Option Sealed) (before after : Seen)
    → AskFor words (audit review script history names) → review.cppc ≡ false → Ran words sealed before after 0 → KeepsAudit (form_of review) review.step script history names before after
keeps_audit laws choices texts words review script history names sealed before after asks drives ran =
    let o = obeyed (audit review script history names) asks ran.way refl in
    let made = subst (λ (b : Bool). (reviewing_by b (form_of review) review.step script history names before.files after.files).text ran.text) drives
    (does_whole (audit review script history names) before after 0 ran.text ran.line o.0 refl) in
    let asked = requests_of made.lines in
    let told : (form : Form) → form_of review ≡ form → IsWholeAs form made.plan asked made.held.bytes = λ form is.
    subst (λ (f : Form). IsWholeAs f made.plan asked made.held.bytes) is made.held.is.whole in
    record {
      plan = made.plan;
      machine = machine_in laws before.files names made.plan made.given.planned;
      lines = made.lines;
      scripted = λ tells. says_lines choices before.files script made.plan review.step made.lines (made.given.scripted tells);
      few = made.given.few;
      entries = made.entries;
      held = made.held;
      plain = λ is. (texts.history made.plan asked made.held.bytes).0 (told History is);
      sorts = λ is. texts.sorts made.plan asked made.held.bytes (told Trace is);
      printed = subst (Grew before.outputs.out after.outputs.out) made.says ran.on_out;
      still = o.1;
    }

module _ (laws : ObjectLaws) (n : ℕ) (small : n ≤ 32) (before after : Seen) where
  -- the load was made, and its summary was printed whole
  summed : {P : Plan} {opening : Option ℕ} {es : List HistoryEntry} {text said : List ℕ} {status : ℕ} → IsMachine n P
      → Runs P (machine_load n).lines opening es before.regs after.regs
      → PrintsSummary n P opening es before.outputs after.outputs status text said → status ≡ 0
      → Grew before.outputs.out after.outputs.out text → KeepsGenerate n before after
  summed {opening = Some k} machine run (all_summed none sums) zero grew = absurd (cc)
  summed {P = P} {opening = None} {es = es} machine run (all_summed none sums) zero grew =
      let faultless = fault_none es none in
      record {
        plan = P;
        machine = machine_of laws (machine_block n ∷ []) P machine.notes (machine_apart n small) machine.made;
        tables = load_tables;
        entries = es;
        asked = run.lawful.whole faultless;
        text = _;
        summary = sums;
        of_history = refl;
        adds_up = adds_up P es faultless;
        tells = tells_containers P es;
        one = λ other is. (trying_is_one n).texts other _ is sums;
        printed = grew;
        served = served_each P es run.lawful.legal faultless;
        stands = beginning_stands P es run.lawful.legal faultless;
        operated = run.operates.log;
        workers = run.seats;
      }
  summed machine run (part_summed m none sums rose) zero grew = absurd (omega (arith, zero))
  summed machine run (never_summed at) zero grew = absurd (omega (arith, zero))
  summed machine run unsummed zero grew = absurd (omega (arith, zero))

  generates : (sealed : Option Sealed) (status : ℕ) (text said : List ℕ)
      → Generates n sealed before.outputs after.outputs before.regs after.regs status text said → status ≡ 0
      → Grew before.outputs.out after.outputs.out text → KeepsGenerate n before after
  generates sealed status text said (undone same unsealed) zero grew = absurd (omega (arith, zero))
  generates sealed status text said (opened machine few opens unsealed) zero grew = absurd (omega (arith, zero))
  generates sealed status text said (tried machine few run sums seals) zero grew = summed machine run sums zero grew

pub keeps_generate : ObjectLaws → (words : List (List ℕ)) (n : ℕ) (sealed : Option Sealed) (before after : Seen) → AskFor words (generate n)
    → Ran words sealed before after 0 → KeepsGenerate n before after
keeps_generate laws words n sealed before after asks ran =
    generates laws n (within_of words (generate n) asks) before after sealed 0 ran.text ran.line (obeyed (generate n) asks ran.way refl) refl ran.on_out
