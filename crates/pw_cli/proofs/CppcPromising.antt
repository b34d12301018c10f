-- What a run by `cppc` promises follows from how it ends.
use Rattle.std.proofs.Common.{◌≡◌, ◌+◌, ◌++◌, ◌∷◌, ◌∙◌, ℕ, Bool, true, false, List, [], length, take, drop, Option, Some, None, refl, sym, ap, subst, arith, append_assoc, eq-eqb}
use Rattle.std.specs.Prelude.{◌↔◌}
use Rattle.std.proofs.lemmas.List.{take-append-drop}
use Rattle.pw_base.specs.Seen.{Grew}
use Rattle.pw_text.specs.HistoryText.{opened_lines}
use Rattle.pw_history.specs.HistoryText as texts
use Rattle.pw_turns.specs.declared.close.Sealed.{Sealed}
use Rattle.pw_kind.specs.History as histories
use Rattle.pw_kind.proofs.Joining.{each_first, each_last}
use Rattle.pw_books.specs.Asked.{own}
use Rattle.pw_cppc.specs.Requests.{cpu_of}
use Rattle.pw_cppc.specs.declared.numbers.CppcNumbers.{CppcNumbers}
use Rattle.pw_cppc.specs.declared.entry.CppcEntry.{CppcEntry}
use Rattle.pw_cppc.specs.declared.plan.CppcDomain.{CppcDomain}
use Rattle.pw_cppc.specs.declared.plan.CppcPlan.{CppcPlan}
use Rattle.pw_cppc.specs.declared.request.CppcRequest.{CppcRequest}
use Rattle.pw_cppc.specs.declared.reply.CppcReply.{CppcReply}
use Rattle.pw_cppc.specs.declared.reply.CppcReply.TheVariants.{Stands}
use Rattle.pw_cppc.specs.Answers.{after, answer, if_accepted, refusal}
use Rattle.pw_cppc.specs.History.{Faultless, after_entry, replay, replay_from, request_of, requests, stopped_at}
use Rattle.pw_cppc.specs.Operations.{bound_ops, opening_ops, ops_of, standing_ops}
use Rattle.pw_cppc.specs.Causes.{IsDue}
use Rattle.pw_cppc.specs.Domains.{IsDomain, domains_of}
use Rattle.pw_cppc.specs.Reasons.{IsReason}
use Rattle.pw_cppc.specs.States.{AreNumbers, changed, opening, stands}
use Rattle.pw_plan.proofs.Ordered.{each_weaker}
use Rattle.std.specs.List.{AllByRecursion}
use Rattle.pw_cppc.proofs.Alone.{stands_nearest, stands_together}
use Rattle.pw_cppc.proofs.Controls.{any_stands, said_stands}
use Rattle.pw_cppc.proofs.Gathering.{stands_allowed, stands_least, stands_satisfied}
use Rattle.pw_cppc.proofs.Asked.{each_is_set, set_is_there}
use Rattle.pw_cppc.proofs.Joining.{fault_none, replay-append}
use Rattle.pw_cppc.proofs.Listing.{all_are}
use Rattle.pw_cppc.proofs.OneNumber.{answers, leaves}
use Rattle.pw_cppc.proofs.Reasoning.{domain_reason}
use Rattle.pw_cppc.proofs.Registers.{register_from, register_to}
use Rattle.pw_cppc.specs.Parts.{entry_of, place_of}
use Rattle.pw_cppc.proofs.Refused.{comes, is_due, may_ask}
use Rattle.pw_cppc.proofs.Starting.{ask_at_start, maximum_at_start, minimum_at_start}
use Rattle.pw_cppc.proofs.Starts.{all_start, start_there}
use Rattle.pw_cppc.proofs.Staying.{replay_fits}
use Rattle.pw_cppc_drive.specs.declared.script.CppcLine.{CppcLine}
use Rattle.pw_cppc_drive.specs.Driven.{OperatesFor}
use Rattle.pw_cppc_drive.specs.HistoryText.{entry_lines, history_lines, history_text, lines_from, op_line}
use Rattle.pw_cppc_drive.specs.Lawful.{TellSeats, telling}
use Rattle.pw_cppc_drive.specs.Reading.{operations, requests_of}
use Rattle.pw_words.specs.Words.{AskFor}
use Rattle.pw_words.specs.Words.Asked.{audit, cppc}
use Rattle.pw_words.specs.declared.command.Review.{Review}
use Rattle.pw_cppc_drive.specs.Wholes.{IsWhole}
use Rattle.pw_audit.specs.CppcAudited.{IsSortedFrom, IsWholeAs}
use Rattle.pw_audit.specs.declared.form.Form.{Form}
use Rattle.pw_audit.specs.declared.form.Form.TheVariants.{History, Trace}
use Rattle.pw_load.specs.Seen.{Outputs, Seen}
use Rattle.pw_runs.specs.CppcRuns.{AreGiven, IsSerialRun, PrintsRun}
use Rattle.pw_runs.specs.CppcRuns.SteersSerially.{stopped, steered}
use Rattle.pw_runs.specs.CppcRuns.PrintsRun.{whole, write_fault, failed, failed_write_fault, without_memory}
use Rattle.pw_runs.specs.CppcWorkers.{IsRunBy}
use Rattle.pw_runs.specs.CppcWorkers.Steers.{stopped as stopped_by, opened as opened_by, steered as steered_by}
use Rattle.pw_cli.specs.Runs.{Ran, SteersBy, form_of, reviewing_by}
use Rattle.pw_cli.proofs.Promising.{does_whole, never_stops, obeyed}
use Rattle.pw_cli.specs.CppcPromises.{IsMet, KeepsCppc, KeepsCppcAudit, OpensAtHighest, ProcessorsAreSteered}
use Rattle.pw_cli.specs.CppcPromises.{IsMet as came}

-- # Where processors stand after a history without a fault

are_steered : (P : CppcPlan) (es : List CppcEntry) → Faultless es → ProcessorsAreSteered P es
are_steered P es faultless = record {
  performances = record {
    together = λ d p q software. stands_together P (replay P es) d p q software;
    allowed = λ d p software. stands_allowed P (replay P es) d p software;
    no_faster = λ d p v software all. stands_least P (replay P es) d p software v all;
    satisfied = λ d p v software le allowed all. stands_satisfied P (replay P es) d p software v le allowed all;
    alone = λ d p hardware. stands_nearest P (replay P es) d p hardware;
  };
  controls = record {
    each = λ d p control on own has each. said_stands P d p on own control has each es faultless;
    any = λ d p on any own. any_stands P d p on any own es faultless;
  };
}

beginning_steered : (P : CppcPlan) (es : List CppcEntry) → Faultless es → (k : ℕ) → ProcessorsAreSteered P (take k es)
beginning_steered P es faultless k =
    are_steered P (take k es)
    (each_first (λ (e : CppcEntry). e.fault ≡ 0) (take k es) (drop k es) (subst Faultless (sym (take-append-drop k es)) faultless))

-- # Plans

opens_at_highest : (P : CppcPlan) → OpensAtHighest P
opens_at_highest P =
    record { asks = ask_at_start P; minima = minimum_at_start P; maxima = maximum_at_start P; only = all_start P; all = start_there P }

with_reasons : (P : CppcPlan) → AllByRecursion (λ (d : CppcDomain). IsReason P.cpus d.members d.unfit) P.domains
with_reasons P = subst (λ (ds : List CppcDomain). AllByRecursion (λ (d : CppcDomain). IsReason P.cpus d.members d.unfit) ds) (sym P.planned.domains_are)
    (each_weaker (IsDomain P.cpus) (λ (d : CppcDomain). IsReason P.cpus d.members d.unfit) (domains_of P.cpus) (λ d is. domain_reason P.cpus d is) (all_are P.cpus))

-- # Requests

module _ (P : CppcPlan) (S : CppcNumbers) (q : CppcRequest) (why : CppcReply) (is : refusal P S q ≡ Some why) where
  why_said : answer P S q ≡ why
  unfolding answer
  why_said = ap (λ x. if_accepted x (λ reply. reply) (Stands (stands P (changed S q) (cpu_of q)))) is

  stays : after P S q ≡ S
  unfolding after
  stays = ap (λ x. if_accepted x (λ reply. S) (changed S q)) is

  silent : ops_of P S q ≡ []
  unfolding ops_of
  silent = ap (λ x. if_accepted x (λ reply. []) (bound_ops P q ++ standing_ops P S (changed S q) (cpu_of q))) is

is_met : (P : CppcPlan) (S : CppcNumbers) (q : CppcRequest) → AreNumbers P S → IsMet P S (after P S q) q (answer P S q) (ops_of P S q)
is_met P S q fits = step (refusal P S q) refl
  where
    step : (x : Option CppcReply) → refusal P S q ≡ x → IsMet P S (after P S q) q (answer P S q) (ops_of P S q)
    step None e = came.taken (record {
      may = may_ask P S q e;
      leaves = leaves P S q fits e;
      answered = λ d lt member. answers P S q d e lt member;
      only = each_is_set P S q fits;
      all = λ o set. set_is_there P S q o fits set;
    })
    step (Some r) e = came.turned_down (subst (IsDue P S q) (sym (why_said P S q r e)) (is_due P S q r e)) (stays P S q r e) (silent P S q r e)

met_each : (P : CppcPlan) (entries : List CppcEntry) → Faultless entries → (es later : List CppcEntry) (e : CppcEntry) → entries ≡ es ++ e ∷ later
    → IsMet P (replay P es) (replay P (es ++ e ∷ [])) (request_of e) (answer P (replay P es) (request_of e)) (ops_of P (replay P es) (request_of e))
met_each P entries faultless es later e is =
    let q = request_of e in
    let S = replay P es in
    let held = (each_last (λ (f : CppcEntry). f.fault ≡ 0) es (e ∷ later) (subst Faultless is faultless)).0 in
    let step : after_entry P S e ≡ after P S q = rw (eq-eqb e.fault 0 held) refl in
    subst (λ (T : CppcNumbers). IsMet P S T q (answer P S q) (ops_of P S q)) (sym (replay-append P es (e ∷ []) ∙ step)) (is_met P S q (replay_fits P es))

refused_each : (P : CppcPlan) (es : List CppcEntry) (e : CppcEntry) (why : CppcReply) → IsDue P (replay P es) (request_of e) why
    → answer P (replay P es) (request_of e) ≡ why
refused_each P es e why due = why_said P (replay P es) (request_of e) why (comes P (replay P es) (request_of e) why due)

-- # The lines of a history

module _ (P : CppcPlan) where
  lines_from-append : (es fs : List CppcEntry) (S : CppcNumbers) (n : ℕ)
      → lines_from P S n (es ++ fs) ≡ lines_from P S n es ++ lines_from P (replay_from P S es) (n + length es) fs
  lines_from-append [] fs S n = let e : n ≡ n + 0 = omega arith in ap (λ m. lines_from P S m fs) e
  lines_from-append (e ∷ es) fs S n =
      let number : n + 1 + length es ≡ n + length (e ∷ es) = omega arith in
      ap (λ l. entry_lines P S n e ++ l) (lines_from-append es fs (after_entry P S e) (n + 1)
      ∙ ap (λ m. lines_from P (after_entry P S e) (n + 1) es ++ lines_from P (replay_from P S (e ∷ es)) m fs) number)
      ∙ sym (append_assoc (entry_lines P S n e) (lines_from P (after_entry P S e) (n + 1) es) (lines_from P (replay_from P S (e ∷ es)) (n + length (e ∷ es)) fs))

  history_lines-append : (es fs : List CppcEntry)
      → history_lines P None (es ++ fs) ≡ history_lines P None es ++ lines_from P (replay P es) (1 + length es) fs
  unfolding texts.history_lines histories.replay
  history_lines-append es fs =
      ap (λ l. opened_lines (op_line P) (opening_ops P) None ++ l) (lines_from-append es fs (opening P) 1)
      ∙ sym (append_assoc (opened_lines (op_line P) (opening_ops P) None) (lines_from P (opening P) 1 es) (lines_from P (replay_from P (opening P) es) (1 + length es) fs))

-- # How it ends with status 0

-- the whole text was printed, and no register failed
record Whole (P : CppcPlan) (opening : Option ℕ) (es : List CppcEntry) (text : List ℕ) : Type 0 where
  unstopped : stopped_at opening es ≡ None
  says : text ≡ history_text P opening es

whole_text : (before after : Outputs) {P : CppcPlan} {opening : Option ℕ} {es : List CppcEntry} {status : ℕ} {text said : List ℕ}
    → PrintsRun P opening es before after status text said → status ≡ 0 → Whole P opening es text
whole_text before after (whole none) zero = record { unstopped = none; says = refl }
whole_text before after (write_fault n none rose) zero = absurd (omega (arith, zero))
whole_text before after (failed at) zero = absurd (omega (arith, zero))
whole_text before after (failed_write_fault n at rose) zero = absurd (omega (arith, zero))
whole_text before after without_memory zero = absurd (omega (arith, zero))

module _ (script : List ℕ) (names : List (List ℕ)) (before after : Seen) where
  kept : (serial : Bool) (P : CppcPlan) (lines : List CppcLine) → AreGiven before.files script names P lines → (es : List CppcEntry) → Faultless es
      → ((p : ℕ) → own telling p (requests es) ≡ own telling p (requests_of lines)) → OperatesFor P (operations P lines) None es before.regs after.regs
      → (serial ≡ true → requests es ≡ requests_of lines) → (serial ≡ false → TellSeats es)
      → Grew before.outputs.out after.outputs.out (history_text P None es) → KeepsCppc serial script names before after
  kept serial P lines given es faultless asked operates ordered seats grew = record {
    plan = P;
    lines = lines;
    given = given;
    registers = λ c parts r. (register_to (entry_of parts.cpc (place_of c)) r, register_from (entry_of parts.cpc (place_of c)) r);
    reasons = with_reasons P;
    entries = es;
    printed = grew;
    asked = asked;
    in_order = ordered;
    told = λ fs later e is. history_lines-append P fs (e ∷ later);
    met = met_each P es faultless;
    refused = refused_each P;
    opens = opens_at_highest P;
    stands = beginning_steered P es faultless;
    operated = operates.log;
    workers = seats;
  }

  serially : (P : CppcPlan) (lines : List CppcLine) → AreGiven before.files script names P lines → (opening : Option ℕ) (es : List CppcEntry)
      → IsSerialRun P lines opening es before.regs after.regs → (text : List ℕ) → Whole P opening es text
      → Grew before.outputs.out after.outputs.out text → KeepsCppc true script names before after
  serially P lines given (Some k) es run text w grew = let none = w.unstopped in absurd (cc)
  serially P lines given None es run text w grew =
      let faultless = fault_none es w.unstopped in
      let whole = run.lawful.whole faultless in
      kept true P lines given es faultless (λ p. ap (own telling p) whole) run.operates (λ yes. whole) (λ no. absurd (cc))
      (subst (Grew before.outputs.out after.outputs.out) w.says grew)

  by_workers : (P : CppcPlan) (lines : List CppcLine) → AreGiven before.files script names P lines → (opening : Option ℕ) (es : List CppcEntry)
      → IsRunBy P lines opening es before.regs after.regs → (text : List ℕ) → Whole P opening es text
      → Grew before.outputs.out after.outputs.out text → KeepsCppc false script names before after
  by_workers P lines given (Some k) es run text w grew = let none = w.unstopped in absurd (cc)
  by_workers P lines given None es run text w grew =
      let faultless = fault_none es w.unstopped in
      kept false P lines given es faultless (λ p. run.lawful.1.whole faultless p) run.operates (λ no. absurd (cc)) (λ yes. run.seats)
      (subst (Grew before.outputs.out after.outputs.out) w.says grew)

  steers : (serial : Bool) (status : ℕ) (text said : List ℕ) → SteersBy serial script names before after status text said → status ≡ 0
      → Grew before.outputs.out after.outputs.out text → KeepsCppc serial script names before after
  steers true status text said (stopped way same) zero grew = absurd (never_stops (cppc true script names) before after status said way zero)
  steers true status text said (steered {P = P} {lines = lines} {opening = opening} {es = es} given run prints) zero grew =
      serially P lines given opening es run text (whole_text before.outputs after.outputs prints zero) grew
  steers false status text said (stopped_by way same) zero grew = absurd (never_stops (cppc false script names) before after status said way zero)
  steers false status text said (opened_by given opens) zero grew = absurd (omega (arith, zero))
  steers false status text said (steered_by {P = P} {lines = lines} {opening = opening} {es = es} given run prints) zero grew =
      by_workers P lines given opening es run text (whole_text before.outputs after.outputs prints zero) grew

pub keeps_cppc : (words : List (List ℕ)) (serial : Bool) (script : List ℕ) (names : List (List ℕ)) (sealed : Option Sealed) (before after : Seen)
    → AskFor words (cppc serial script names) → Ran words sealed before after 0 → KeepsCppc serial script names before after
keeps_cppc words serial script names sealed before after asks ran =
    steers script names before after serial 0 ran.text ran.line (obeyed (cppc serial script names) asks ran.way refl).0 refl ran.on_out

pub keeps_cppc_audit : ((P : CppcPlan) (asked : List CppcRequest) (text : List ℕ) → IsWholeAs History P asked text ↔ IsWhole P asked text)
    → ((P : CppcPlan) (asked : List CppcRequest) (trace : List ℕ) → IsWholeAs Trace P asked trace
    → (history : List ℕ) × IsWhole P asked history × IsSortedFrom P trace history)
    → (words : List (List ℕ)) (review : Review) (script history : List ℕ) (names : List (List ℕ)) (sealed : Option Sealed) (before after : Seen)
    → AskFor words (audit review script history names) → review.cppc ≡ true → Ran words sealed before after 0 → KeepsCppcAudit (form_of review) script history names before after
keeps_cppc_audit plain sorts words review script history names sealed before after asks steers ran =
    let o = obeyed (audit review script history names) asks ran.way refl in
    let made = subst (λ (b : Bool). (reviewing_by b (form_of review) review.step script history names before.files after.files).text ran.text) steers
    (does_whole (audit review script history names) before after 0 ran.text ran.line o.0 refl) in
    let asked = requests_of made.lines in
    let told : (form : Form) → form_of review ≡ form → IsWholeAs form made.plan asked made.held.bytes = λ form is.
    subst (λ (f : Form). IsWholeAs f made.plan asked made.held.bytes) is made.held.is.whole in
    record {
      plan = made.plan;
      lines = made.lines;
      given = made.given;
      entries = made.entries;
      held = made.held;
      plain = λ is. (plain made.plan asked made.held.bytes).0 (told History is);
      sorts = λ is. sorts made.plan asked made.held.bytes (told Trace is);
      printed = subst (Grew before.outputs.out after.outputs.out) made.says ran.on_out;
      still = o.1;
    }
