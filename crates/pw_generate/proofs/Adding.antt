-- The counts of a summary add up, and each tells which requests it counts.
use Rattle.std.proofs.Common.{◌≡◌, ◌==◌, ◌+◌, ◌∙◌, ℕ, suc, Bool, true, false, cond, List, [], ◌∷◌, length, count_by, codes, refl, ap, sym, subst, Option, Some, None, arith, eq-eqb}
use Rattle.std.specs.Prelude.{◌||◌, IfSome, nat_le, nat_lt, not}
use Rattle.std.specs.List.{position_or_len}
use Rattle.std.proofs.lemmas.List.Sums.{sum_by-cons}
use Rattle.pw_text.specs.Lines.{text_of}
use Rattle.acpi_values.specs.Idle.{rows_of}
use Rattle.pw_plan.specs.declared.domain.DomainKind.{DomainKind}
use Rattle.pw_plan.specs.declared.domain.DomainKind.TheVariants as kinds
use Rattle.pw_plan.specs.declared.parts.Scale.{Scale}
use Rattle.pw_plan.specs.declared.plan.Plan.{Plan}
use Rattle.pw_plan.specs.declared.request.Request.{Request}
use Rattle.pw_plan.specs.declared.request.Request.TheVariants.{Idle, Wake, Perf, Throttle, PerfLimit, ThrottleLimit}
use Rattle.pw_plan.specs.Parts.{count_of, scale_of}
use Rattle.pw_plan.specs.Limits.{in_32_bits}
use Rattle.pw_plan.specs.Places.{cpu_at, domain_at, domain_of, row_at}
use Rattle.pw_kind.specs.History as histories
use Rattle.pw_model.specs.declared.entry.HistoryEntry.{HistoryEntry}
use Rattle.pw_model.specs.declared.reply.Reply.{Reply}
use Rattle.pw_model.specs.declared.reply.Reply.TheVariants.{Entered, Running, Stands, NoState, Disabled, AboveLimit, NoTable, Unfit, TooSlow}
use Rattle.pw_model.specs.declared.state.State.{State}
use Rattle.pw_model.specs.States.{limit_of, opening}
use Rattle.pw_model.specs.Answers.{accepted, after, answer, changed}
use Rattle.pw_model.specs.History.{Faultless, replay, replies, replies_from, request_of}
use Rattle.pw_model.specs.Refusals.{ask_refusal, domain_refusal, fixed_refusal, idle_refusal}
use Rattle.pw_model.specs.Refusals.{is_absent, is_unfit, refusal, refuse_if, state_refusal, ◌or_else◌}
use Rattle.pw_generate.specs.Summary.{AddsUp, accepted_kind, container_states, is_entered, is_refused, is_running, is_stands, labelled, standings, summary_text}

-- # They add up

pub one_kind : (r : Reply) → count_by (λ (kind : Reply → Bool). kind r) (is_entered ∷ is_running ∷ is_stands ∷ is_refused ∷ []) ≡ 1
one_kind (Entered chain) = refl
one_kind Running = refl
one_kind (Stands index) = refl
one_kind (NoState count) = refl
one_kind Disabled = refl
one_kind (AboveLimit limit) = refl
one_kind NoTable = refl
one_kind (Unfit domain why) = refl
one_kind (TooSlow latency) = refl

once : (r : Reply) → cond (is_entered r) 1 0 + cond (is_running r) 1 0 + cond (is_stands r) 1 0 + cond (is_refused r) 1 0 ≡ 1
once (Entered chain) = refl
once Running = refl
once (Stands index) = refl
once (NoState count) = refl
once Disabled = refl
once (AboveLimit limit) = refl
once NoTable = refl
once (Unfit domain why) = refl
once (TooSlow latency) = refl

one_more : (t : Reply → Bool) (r : Reply) (rs : List Reply) → count_by t (r ∷ rs) ≡ cond (t r) 1 0 + count_by t rs
one_more t r rs = sum_by-cons (λ x. cond (t x) 1 0) r rs

all_counted : (rs : List Reply) → count_by is_entered rs + count_by is_running rs + count_by is_stands rs + count_by is_refused rs ≡ length rs
all_counted [] = refl
all_counted (r ∷ rs) =
    let later = all_counted rs in
    let here = once r in
    omega (arith, later, here, one_more is_entered r rs, one_more is_running r rs, one_more is_stands r rs, one_more is_refused r rs)

module _ (P : Plan) where
  each_answered : (es : List HistoryEntry) (S : State) → Faultless es → length (replies_from P S es) ≡ length es
  each_answered [] S none = refl
  each_answered (e ∷ es) S none =
      let f : (e.fault == 0) ≡ true = eq-eqb e.fault 0 none.0 in
      rw f (ap suc (each_answered es (after P S (request_of e)) none.1))

  pub adds_up : (es : List HistoryEntry) → Faultless es → AddsUp P es
  unfolding summary_text histories.replies
  adds_up es none =
      let rs = replies P es in
      let entered = count_by is_entered rs in
      let running = count_by is_running rs in
      let stands = count_by is_stands rs in
      let refused = count_by is_refused rs in
      let first = labelled (codes "processors") (length P.cpus ∷ []) in
      let rest = labelled (codes "containers") (container_states P (replay P es)) ∷ labelled (codes "standing") (standings P (replay P es)) ∷ [] in
      let all : entered + running + stands + refused ≡ length es = all_counted rs ∙ each_answered es (opening P) none in
      record {
        first = first;
        entered = entered;
        running = running;
        stands = stands;
        refused = refused;
        rest = rest;
        says = ap (λ (n : ℕ). text_of (first ∷ labelled (codes "lines") (n ∷ []) ∷ labelled (codes "entered") (entered ∷ []) ∷ labelled (codes "running") (running ∷ [])
            ∷ labelled (codes "stands") (stands ∷ []) ∷ labelled (codes "refused") (refused ∷ []) ∷ rest)) (sym all);
      }

-- # What each counts

-- what is refused is answered by one of the replies that count as refused
abbrev Refuses : Option Reply → Type 0
Refuses o = IfSome o (λ r. is_refused r ≡ true)

refuses_if : (b : Bool) (r : Reply) → is_refused r ≡ true → Refuses (refuse_if b r)
refuses_if true r e = e
refuses_if false r e = tt

refuses_either : (a b : Option Reply) → Refuses a → Refuses b → Refuses (a or_else b)
refuses_either None b x y = y
refuses_either (Some r) b x y = x

-- the first of five
refuses_first : (a b c d e : Bool) (u v w x y : Reply) → is_refused u ≡ true → is_refused v ≡ true → is_refused w ≡ true → is_refused x ≡ true → is_refused y ≡ true
    → Refuses (refuse_if a u or_else refuse_if b v or_else refuse_if c w or_else refuse_if d x or_else refuse_if e y)
refuses_first true b c d e u v w x y f g h k l = f
refuses_first false true c d e u v w x y f g h k l = g
refuses_first false false true d e u v w x y f g h k l = h
refuses_first false false false true e u v w x y f g h k l = k
refuses_first false false false false true u v w x y f g h k l = l
refuses_first false false false false false u v w x y f g h k l = tt

module _ (P : Plan) where
  domain_refuses : (kind : DomainKind) (p : ℕ) (scale : Option Scale) → Refuses (domain_refusal P kind p scale)
  domain_refuses kind p None = refl
  domain_refuses kind p (Some scale) =
      let d = domain_of P kind p in
      refuses_if (not ((domain_at P d).unfit == 0)) (Unfit d (domain_at P d).unfit) refl

  ask_refuses : (kind : DomainKind) (p i : ℕ) → Refuses (ask_refusal P kind p i)
  ask_refuses kind p i =
      let scale = scale_of kind (cpu_at P p) in
      refuses_either (domain_refusal P kind p scale) (refuse_if (nat_le (count_of scale) i) (NoState (count_of scale)))
      (domain_refuses kind p scale) (refuses_if (nat_le (count_of scale) i) (NoState (count_of scale)) refl)

  idle_refuses : (p s t : ℕ) → Refuses (idle_refusal P p s t)
  idle_refuses p s t =
      let table = (cpu_at P p).idle in
      let d = position_or_len (is_unfit p) P.domains in
      let count = length (rows_of table) in
      let row = row_at table s in
      refuses_first (is_absent table.kind) (nat_lt d (length P.domains)) ((s == 0) || nat_lt count s) (not row.enabled) (nat_lt t row.latency)
      NoTable (Unfit (in_32_bits d) (domain_at P d).unfit) (NoState count) Disabled (TooSlow row.latency) refl refl refl refl refl

  fixed_refuses : (q : Request) → Refuses (fixed_refusal P q)
  fixed_refuses (Idle p s t) = idle_refuses p s t
  fixed_refuses (Wake p) = tt
  fixed_refuses (Perf p i) = ask_refuses kinds.Perf p i
  fixed_refuses (Throttle p i) = ask_refuses kinds.Throttle p i
  fixed_refuses (PerfLimit p n) = domain_refuses kinds.Perf p (scale_of kinds.Perf (cpu_at P p))
  fixed_refuses (ThrottleLimit p n) = domain_refuses kinds.Throttle p (scale_of kinds.Throttle (cpu_at P p))

  module _ (S : State) where
    state_refuses : (q : Request) → Refuses (state_refusal S q)
    state_refuses (Idle p s t) = tt
    state_refuses (Wake p) = tt
    state_refuses (Perf p i) = refuses_if (nat_lt i (limit_of kinds.Perf S p)) (AboveLimit (limit_of kinds.Perf S p)) refl
    state_refuses (Throttle p i) = refuses_if (nat_lt i (limit_of kinds.Throttle S p)) (AboveLimit (limit_of kinds.Throttle S p)) refl
    state_refuses (PerfLimit p n) = tt
    state_refuses (ThrottleLimit p n) = tt

    pub counts_as_refused : (q : Request) (r : Reply) → refusal P S q ≡ Some r → is_refused (answer P S q) ≡ true
    unfolding answer
    counts_as_refused q r e =
        let refuses : Refuses (refusal P S q) = refuses_either (fixed_refusal P q) (state_refusal S q) (fixed_refuses q) (state_refuses q) in
        rw e (subst Refuses e refuses)

    kind_accepted : (T : State) (q : Request) → accepted_kind q (accepted P T q) ≡ true
    unfolding accepted
    kind_accepted T (Idle p s t) = refl
    kind_accepted T (Wake p) = refl
    kind_accepted T (Perf p i) = refl
    kind_accepted T (Throttle p i) = refl
    kind_accepted T (PerfLimit p n) = refl
    kind_accepted T (ThrottleLimit p n) = refl

    pub counts_as_asked : (q : Request) → refusal P S q ≡ None → accepted_kind q (answer P S q) ≡ true
    unfolding answer
    counts_as_asked q e = rw e (kind_accepted (changed P S q) q)
