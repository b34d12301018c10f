-- The register law, from the start over every request of a history.
use Rattle.std.proofs.Common.{◌≡◌, ◌≢◌, ◌<◌, ◌==◌, ℕ, Bool, true, false, cond, List, [], ◌∷◌, ◌++◌, map, length, Option, Some, None, refl, arith, append_assoc, append-nil}
use Rattle.std.specs.List.{AllByRecursion}
use Rattle.std.proofs.lemmas.Bool.Decides.{nat_tests}
use Rattle.acpi_values.specs.declared.idle.IdleKind.{IdleKind}
use Rattle.acpi_values.specs.declared.idle.IdleKind.TheVariants.{Lpi, Cst, Absent}
use Rattle.acpi_values.specs.declared.operation.Composite.{Composite}
use Rattle.acpi_values.specs.declared.operation.Op.{Op}
use Rattle.acpi_values.specs.declared.operation.Op.TheVariants as op
use Rattle.acpi_values.specs.declared.register.Register.{Register}
use Rattle.pw_plan.specs.declared.domain.DomainKind.{DomainKind}
use Rattle.pw_plan.specs.declared.domain.DomainKind.TheVariants as kinds
use Rattle.pw_plan.specs.declared.plan.Plan.{Plan}
use Rattle.pw_plan.specs.declared.request.Request.{Request}
use Rattle.pw_plan.specs.declared.request.Request.TheVariants.{Idle, Wake, Perf, Throttle, PerfLimit, ThrottleLimit}
use Rattle.pw_plan.specs.Groups.{is_idle}
use Rattle.pw_plan.specs.Parts.{scale_of}
use Rattle.pw_plan.specs.Places.{cpu_at}
use Rattle.pw_plan.specs.Requests.{Has}
use Rattle.pw_plan.proofs.Lists.{each_append}
use Rattle.pw_kind.specs.History as histories
use Rattle.pw_model.specs.declared.entry.HistoryEntry.{HistoryEntry}
use Rattle.pw_model.specs.declared.reply.Reply.{Reply}
use Rattle.pw_model.specs.declared.state.Change.{Change}
use Rattle.pw_model.specs.declared.state.Change.TheVariants as changes
use Rattle.pw_model.specs.declared.state.ScaleKind.TheVariants as scales
use Rattle.pw_model.specs.declared.state.State.{State}
use Rattle.pw_model.specs.declared.state.Vote.{Vote}
use Rattle.pw_model.specs.States.{capped, idling, opening, running, with_change}
use Rattle.pw_model.specs.Answers.{after, changed, if_accepted, states_of}
use Rattle.pw_model.specs.Composites.{composite_of}
use Rattle.pw_model.specs.Domains.{c_state}
use Rattle.pw_model.specs.History.{IsEntry, after_entry, entry_ops, history_ops, ops_from, replay, replay_from, request_of}
use Rattle.pw_model.specs.Operations.{accepted_ops, domain_ops, drawn_with, enter, idle_ops, opening_ops, ops_of, own_entry}
use Rattle.pw_model.specs.Refusals.{domain_refusal, fixed_refusal, refusal, state_refusal, ◌or_else◌}
use Rattle.pw_model.proofs.LastSets.{mapped}
use Rattle.pw_model.proofs.Standings.{Spares}
use Rattle.pw_model.proofs.Staying.{request_has}
use Rattle.pw_model.proofs.Fitting.{none_first}

-- # Idle requests set nothing

-- none of these sets a register
abbrev pub SetsNone : List Op → Type 0
SetsNone ops = AllByRecursion (λ o. (p : ℕ) (r : Register) (w : ℕ) → o ≢ op.Set p r w) ops

own_sets_none : (kind : IdleKind) (c q : ℕ) (x : Composite) → SetsNone (own_entry kind c (op.Enter q x))
own_sets_none Lpi c q x = (λ p r w e. cc, tt)
own_sets_none Absent c q x = tt
own_sets_none Cst c q x = step (c == 0)
  where
    step : (b : Bool) → SetsNone (cond b [] (op.Enter q x ∷ []))
    step true = tt
    step false = (λ p r w e. cc, tt)

idle_sets_none : (P : Plan) (S T : State) (q : ℕ) → SetsNone (idle_ops P S T q)
idle_sets_none P S T q = each_append (λ o. (p : ℕ) (r : Register) (w : ℕ) → o ≢ op.Set p r w) (own_entry (cpu_at P q).idle.kind (c_state P T q) (enter P T q)) (map (enter P T) (drawn_with P S T q))
    (own_sets_none (cpu_at P q).idle.kind (c_state P T q) q (composite_of P q (states_of P T q)))
    (mapped (λ o. (p : ℕ) (r : Register) (w : ℕ) → o ≢ op.Set p r w) (enter P T) (drawn_with P S T q) (λ m g p r w e. cc))

-- # A history

-- What stands at the start of a state and the operations so far, and is kept by each step.
pub record Keeps (P : Plan) (Stands : State → List Op → Type 0) : Type 0 where
  pub opening : Stands (opening P) (opening_ops P)
  pub voted : (S : State) (q : ℕ) (v : Vote) (ops : List Op) → Stands S ops → Stands (with_change S (changes.Vote q v)) ops
  pub entered : (S : State) (ops more : List Op) → SetsNone more → Stands S ops → Stands S (ops ++ more)
  pub requested : (S : State) (c : Change) (kind : DomainKind) (q : ℕ) → q < length P.cpus → domain_refusal P kind q (scale_of kind (cpu_at P q)) ≡ None → is_idle kind ≡ false
      → ((k : DomainKind) (m : ℕ) → (k ≡ kind → m ≢ q) → Spares c k m) → (ops : List Op) → Stands S ops → Stands (with_change S c) (ops ++ domain_ops P S (with_change S c) kind q)

module _ (P : Plan) (Stands : State → List Op → Type 0) (keeps : Keeps P Stands) where
  accepted_stands : (S : State) (q : Request) (ops : List Op) → Has P q → fixed_refusal P q ≡ None → Stands S ops → Stands (changed P S q) (ops ++ accepted_ops P S (changed P S q) q)
  unfolding accepted_ops
  accepted_stands S (Idle q s t) ops has e last =
      let T = with_change S (changes.Vote q (idling s t)) in
      keeps.entered T ops (idle_ops P S T q) (idle_sets_none P S T q) (keeps.voted S q (idling s t) ops last)
  accepted_stands S (Wake q) ops has e last = rw append-nil (keeps.voted S q running ops last)
  accepted_stands S (Perf q i) ops has e last = keeps.requested S (changes.Ask scales.Perf q i) kinds.Perf q has (none_first (domain_refusal P kinds.Perf q (scale_of kinds.Perf (cpu_at P q))) _ e)
      refl (λ k m h. h) ops last
  accepted_stands S (Throttle q i) ops has e last = keeps.requested S (changes.Ask scales.Throttle q i) kinds.Throttle q has
      (none_first (domain_refusal P kinds.Throttle q (scale_of kinds.Throttle (cpu_at P q))) _ e) refl (λ k m h. h) ops last
  accepted_stands S (PerfLimit q n) ops has e last = keeps.requested S (changes.Limit scales.Perf q (capped (scale_of kinds.Perf (cpu_at P q)) n)) kinds.Perf q has e refl (λ k m h. h) ops last
  accepted_stands S (ThrottleLimit q n) ops has e last = keeps.requested S (changes.Limit scales.Throttle q (capped (scale_of kinds.Throttle (cpu_at P q)) n)) kinds.Throttle q has e refl
      (λ k m h. h) ops last

  request_stands : (S : State) (q : Request) (ops : List Op) → Has P q → Stands S ops → Stands (after P S q) (ops ++ ops_of P S q)
  unfolding after ops_of
  request_stands S q ops has last = step (refusal P S q) refl
    where
      step : (r : Option Reply) → refusal P S q ≡ r → Stands (if_accepted r (λ reply. S) (changed P S q)) (ops ++ if_accepted r (λ reply. []) (accepted_ops P S (changed P S q) q))
      step (Some reply) e = rw append-nil last
      step None e = accepted_stands S q ops has (none_first (fixed_refusal P q) (state_refusal S q) e) last

  entry_stands : (S : State) (e : HistoryEntry) (ops : List Op) → IsEntry P e → e.fault ≡ 0 → Stands S ops → Stands (after_entry P S e) (ops ++ entry_ops P S e)
  entry_stands S e ops is fault last = let f : (e.fault == 0) ≡ true = grind (arith, nat_tests) in rw f (request_stands S (request_of e) ops (request_has P e is.states) last)

  entries_stand : (es : List HistoryEntry) (S : State) (ops : List Op) → AllByRecursion (IsEntry P) es → AllByRecursion (λ e. e.fault ≡ 0) es → Stands S ops
      → Stands (replay_from P S es) (ops ++ ops_from P S es)
  entries_stand [] S ops is faults last = rw append-nil last
  entries_stand (e ∷ es) S ops is faults last =
      rw (← append_assoc ops (entry_ops P S e) (ops_from P (after_entry P S e) es))
      (entries_stand es (after_entry P S e) (ops ++ entry_ops P S e) is.1 faults.1 (entry_stands S e ops is.0 faults.0 last))

  pub history_stands : (es : List HistoryEntry) → AllByRecursion (IsEntry P) es → AllByRecursion (λ e. e.fault ≡ 0) es → Stands (replay P es) (opening_ops P ++ history_ops P es)
  unfolding histories.replay histories.history_ops
  history_stands es is faults = entries_stand es (opening P) (opening_ops P) is faults keeps.opening
