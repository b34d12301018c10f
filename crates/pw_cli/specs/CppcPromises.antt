-- What `cppc` promises, in the words of the machine: `docs/PROMISES.md` has the same in sentences.
use Rattle.std.specs.Prelude.{◌≡◌, ◌≢◌, ◌↔◌, ◌<◌, ◌≤◌, ◌+◌, ◌++◌, ◌∷◌, ℕ, Bool, true, false, List, [], length, take, None, Some, Contains}
use Rattle.std.specs.List.{AllByRecursion}
use Rattle.std.specs.Option.{is_some}
use Rattle.acpi_values.specs.declared.dependency.Coord.TheVariants.{SwAny, HwAll}
use Rattle.acpi_values.specs.declared.operation.Op.{Op}
use Rattle.acpi_values.specs.declared.performance.CpcEntry.TheVariants.{Register as register_element}
use Rattle.acpi_values.specs.declared.register.Register.{Register}
use Rattle.acpi_values.specs.Null.{null_register}
use Rattle.pw_base.specs.Seen.{Grew}
use Rattle.pw_plan.specs.Groups.{has_member, is_software}
use Rattle.pw_regs.specs.Seen.{Operated}
use Rattle.pw_books.specs.Asked.{own}
use Rattle.pw_cppc.specs.declared.numbers.CppcNumbers.{CppcNumbers}
use Rattle.pw_cppc.specs.declared.entry.CppcEntry.{CppcEntry}
use Rattle.pw_cppc.specs.declared.parts.Control.{Control}
use Rattle.pw_cppc.specs.declared.parts.CppcParts.{CppcParts}
use Rattle.pw_cppc.specs.declared.parts.Control.TheVariants.{Desired}
use Rattle.pw_cppc.specs.declared.plan.CppcDomain.{CppcDomain}
use Rattle.pw_cppc.specs.declared.plan.CppcPlan.{CppcPlan}
use Rattle.pw_cppc.specs.declared.reply.CppcReply.{CppcReply}
use Rattle.pw_cppc.specs.declared.reply.CppcReply.TheVariants.{Stands}
use Rattle.pw_cppc.specs.declared.request.CppcRequest.{CppcRequest}
use Rattle.pw_cppc.specs.Answers.{answer}
use Rattle.pw_cppc.specs.Causes.{IsDue, MayAsk}
use Rattle.pw_cppc.specs.Controls.{HasOwnRegisters, IsFitMember, IsLastSetOn, IsSetBy, IsStart, said_by}
use Rattle.pw_cppc.specs.History.{history_ops, replay, request_of, requests}
use Rattle.pw_cppc.specs.Laws.{IsAllowed, IsNearest, Leaves, Satisfies}
use Rattle.pw_cppc.specs.Operations.{opening_ops, ops_of}
use Rattle.pw_cppc.specs.Parts.{entry_of, highest_of, lowest_of, place_of, register_of}
use Rattle.pw_cppc.specs.Planning.{domain_at, parts_at}
use Rattle.pw_cppc.specs.Reasons.{IsReason}
use Rattle.pw_cppc.specs.Requests.{cpu_of}
use Rattle.pw_cppc.specs.States.{any_performance, ask_of, maximum_of, minimum_of, opening, standing}
use Rattle.pw_cppc_drive.specs.declared.script.CppcLine.{CppcLine}
use Rattle.pw_cppc_drive.specs.HistoryText.{history_lines, history_text, lines_from, performance_words}
use Rattle.pw_cppc_drive.specs.Lawful.{TellSeats, telling}
use Rattle.pw_cppc_drive.specs.Reading.{requests_of}
use Rattle.pw_cppc_drive.specs.Wholes.{IsWhole}
use Rattle.pw_audit.specs.CppcAudited.{IsSortedFrom}
use Rattle.pw_audit.specs.declared.form.Form.{Form}
use Rattle.pw_audit.specs.declared.form.Form.TheVariants.{History, Trace}
use Rattle.pw_load.specs.Seen.{Seen}
use Rattle.pw_runs.specs.CppcRuns.{AreGiven}
use Rattle.pw_runs.specs.Histories.{lawful_line}
use Rattle.pw_runs.specs.Texts.{HoldText}

-- # Where processors stand

-- Each domain that software coordinates stands as one, no faster than each member allows, no faster than what is asked and demanded,
-- and there, where all allow it; each member of one that hardware coordinates stands at its own ask within its own bounds
-- (ACPI 6.5, 8.3, 8.4.6.1.2).
pub record PerformancesStand (P : CppcPlan) (S : CppcNumbers) : Type 0 where
  pub together : (d p q : ℕ) → (domain_at P d).coord ≢ HwAll → standing P S d p ≡ standing P S d q
  pub allowed : (d p : ℕ) → is_software (domain_at P d).coord ≡ true → IsAllowed P S d (standing P S d p)
  pub no_faster : (d p v : ℕ) → is_software (domain_at P d).coord ≡ true → Satisfies P S d v → standing P S d p ≤ v
  pub satisfied : (d p v : ℕ) → is_software (domain_at P d).coord ≡ true → v ≤ any_performance → IsAllowed P S d v → Satisfies P S d v
      → Satisfies P S d (standing P S d p)
  pub alone : (d p : ℕ) → (domain_at P d).coord ≡ HwAll → IsNearest (ask_of S p) (minimum_of S p) (maximum_of S p) (standing P S d p)

-- Each control of a member of a fit domain was last set to what it is to say; of a SW_ANY domain the desired performance on the member
-- that was set last. A processor that has one register for two controls is left out.
pub record ControlsStand (P : CppcPlan) (S : CppcNumbers) (ops : List Op) : Type 0 where
  pub each : (d p : ℕ) (c : Control) → IsFitMember P d p → HasOwnRegisters P p → is_some (register_of c (parts_at P p)) ≡ true
      → (c ≡ Desired → (domain_at P d).coord ≢ SwAny) → IsLastSetOn P c (λ q. q ≡ p) (said_by c P S d p) ops
  pub any : (d p : ℕ) → IsFitMember P d p → (domain_at P d).coord ≡ SwAny
      → ((q : ℕ) → has_member (domain_at P d).members q ≡ true → HasOwnRegisters P q)
      → IsLastSetOn P Desired (λ q. has_member (domain_at P d).members q ≡ true) (standing P S d p) ops

-- Both after these entries, with the operations that were done by then.
pub record ProcessorsAreSteered (P : CppcPlan) (es : List CppcEntry) : Type 0 where
  pub performances : PerformancesStand P (replay P es)
  pub controls : ControlsStand P (replay P es) (opening_ops P ++ history_ops P es)

-- The plan opens so: each processor asks for its highest performance, between its lowest and its highest, and just the controls of fit
-- domains are set.
pub record OpensAtHighest (P : CppcPlan) : Type 0 where
  pub asks : (p : ℕ) → p < length P.cpus → ask_of (opening P) p ≡ highest_of (parts_at P p)
  pub minima : (p : ℕ) → p < length P.cpus → minimum_of (opening P) p ≡ lowest_of (parts_at P p)
  pub maxima : (p : ℕ) → p < length P.cpus → maximum_of (opening P) p ≡ highest_of (parts_at P p)
  pub only : AllByRecursion (IsStart P) (opening_ops P)
  pub all : (o : Op) → IsStart P o → Contains (opening_ops P) o

-- # What a request comes to

-- It may be made: between the numbers before and after it changes the one that it names and no other, it is answered where its processor
-- then stands, and just the controls that it moves are set.
pub record IsTaken (P : CppcPlan) (S T : CppcNumbers) (q : CppcRequest) (reply : CppcReply) (ops : List Op) : Type 0 where
  pub may : MayAsk P S q
  pub leaves : Leaves S q T
  pub answered : (d : ℕ) → d < length P.domains → has_member (domain_at P d).members (cpu_of q) ≡ true
      → reply ≡ Stands (standing P T d (cpu_of q))
  pub only : AllByRecursion (IsSetBy P S q) ops
  pub all : (o : Op) → IsSetBy P S q o → Contains ops o

-- Between two numbers a request was met with this reply and these operations: with the first refusal that is due, which changes nothing
-- and operates nothing, or taken.
pub data IsMet (P : CppcPlan) (S T : CppcNumbers) (q : CppcRequest) (reply : CppcReply) (ops : List Op) : Type 0 where
  turned_down : IsDue P S q reply → T ≡ S → ops ≡ [] → IsMet P S T q reply ops
  taken : IsTaken P S T q reply ops → IsMet P S T q reply ops

-- The lines of an entry stand behind those of the entries before it, with the answer to the numbers that these leave.
abbrev pub IsPrinted : CppcPlan → (before : List CppcEntry) → CppcEntry → (later : List CppcEntry) → Type 0
IsPrinted P before e later =
    history_lines P None (before ++ e ∷ later)
    ≡ history_lines P None before ++ lines_from P (replay P before) (1 + length before) (e ∷ later)

-- # A run

-- What `cppc` promises where it ends with status 0, and files that tell.
pub record KeepsCppc (serial : Bool) (script : List ℕ) (names : List (List ℕ)) (before after : Seen) : Type 0 where
  -- the plan is that of the blocks in the files, and the lines are the script's
  pub plan : CppcPlan
  pub lines : List CppcLine
  pub given : AreGiven before.files script names plan lines
  -- a control has the register at its place of `_CPC`, unless that is the null register
  pub registers : (c : Control) (parts : CppcParts) (r : Register) → (register_of c parts ≡ Some r)
      ↔ ((entry_of parts.cpc (place_of c) ≡ Some (register_element r)) × (r ≢ null_register))
  -- a domain is unfit for the first reason of six that stands
  pub reasons : AllByRecursion (λ (d : CppcDomain). IsReason plan.cpus d.members d.unfit) plan.domains
  -- there is one history, whose text was printed
  pub entries : List CppcEntry
  pub printed : Grew before.outputs.out after.outputs.out (history_text plan None entries)
  -- each processor's requests are its lines, once and in order; of a serial run all are in the script's order
  pub asked : (p : ℕ) → own telling p (requests entries) ≡ own telling p (requests_of lines)
  pub in_order : serial ≡ true → requests entries ≡ requests_of lines
  -- each reply is that to the numbers which the entries before it leave
  pub told : (es later : List CppcEntry) (e : CppcEntry) → entries ≡ es ++ e ∷ later → IsPrinted plan es e later
  -- it refuses for the first reason that stands, and exactly then, and else tells where the processor then stands
  pub met : (es later : List CppcEntry) (e : CppcEntry) → entries ≡ es ++ e ∷ later
      → IsMet plan (replay plan es) (replay plan (es ++ e ∷ [])) (request_of e) (answer plan (replay plan es) (request_of e))
      (ops_of plan (replay plan es) (request_of e))
  pub refused : (es : List CppcEntry) (e : CppcEntry) (why : CppcReply) → IsDue plan (replay plan es) (request_of e) why
      → answer plan (replay plan es) (request_of e) ≡ why
  -- after every beginning of the history the processors stand as the standard says
  pub opens : OpensAtHighest plan
  pub stands : (k : ℕ) → ProcessorsAreSteered plan (take k entries)
  pub operated : Operated before.regs after.regs (opening_ops plan ++ history_ops plan entries)
  pub workers : serial ≡ false → TellSeats entries

-- # An audit

-- What `audit --cppc` promises where it ends with status 0, and files that tell, of a history and of a trace.
pub record KeepsCppcAudit (form : Form) (script history : List ℕ) (names : List (List ℕ)) (before after : Seen) : Type 0 where
  -- the plan is that of the blocks in the files, and the lines are the script's
  pub plan : CppcPlan
  pub lines : List CppcLine
  pub given : AreGiven before.files script names plan lines
  -- the history's file has the whole text of a run of this script, and this many entries are in it, which is what was printed
  pub entries : ℕ
  pub held : HoldText performance_words form before.files history plan (requests_of lines) entries
  -- without `--trace` it is the text of a history, and with it the same once its operations are sorted
  pub plain : form ≡ History → IsWhole plan (requests_of lines) held.bytes
  pub sorts : form ≡ Trace → (text : List ℕ) × IsWhole plan (requests_of lines) text × IsSortedFrom plan held.bytes text
  pub printed : Grew before.outputs.out after.outputs.out (lawful_line entries)
  pub still : after.regs ≡ before.regs
