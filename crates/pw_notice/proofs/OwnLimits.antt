-- A processor's limits follow from its own requests alone.
use Rattle.std.proofs.Common.{length-set, ◌≡◌, ◌≢◌, ◌∙◌, ◌==◌, ℕ, zero, suc, Bool, true, false, cond, List, [], ◌∷◌, length, get_or, set, refl, ap, sym, Option, Some, None, get_or-set_other, arith}
use Rattle.std.specs.Prelude.{filter}
use Rattle.std.proofs.lemmas.Bool.{eqb-false}
use Rattle.pw_plan.specs.declared.domain.DomainKind.{DomainKind}
use Rattle.pw_plan.specs.declared.domain.DomainKind.TheVariants as kinds
use Rattle.pw_plan.specs.declared.plan.Plan.{Plan}
use Rattle.pw_plan.specs.declared.request.Request.{Request}
use Rattle.pw_plan.specs.declared.request.Request.TheVariants.{Idle, Wake, Perf, Throttle, PerfLimit, ThrottleLimit}
use Rattle.pw_plan.specs.Parts.{scale_of}
use Rattle.pw_plan.specs.Places.{cpu_at}
use Rattle.pw_plan.specs.Requests.{cpu_of}
use Rattle.pw_kind.specs.History as histories
use Rattle.pw_model.specs.declared.reply.Reply.{Reply}
use Rattle.pw_model.specs.declared.state.State.{State}
use Rattle.pw_model.specs.States.{capped, limit_of, limits_of, opening}
use Rattle.pw_model.specs.Refusals.{refusal}
use Rattle.pw_model.specs.Answers.{after, changed, if_accepted}
use Rattle.pw_model.specs.declared.entry.HistoryEntry.{HistoryEntry}
use Rattle.pw_model.specs.History.{Faultless, after_entry, replay, replay_from, request_of}
use Rattle.pw_model.proofs.Staying.{request_cpu}
use Rattle.pw_notice.specs.Limits.{limit_after, made_from, own_entries, own_limit, requests}

set_alike : (xs ys : List ℕ) (c p v : ℕ) → length xs ≡ length ys → get_or xs p 0 ≡ get_or ys p 0 → get_or (set xs c v) p 0 ≡ get_or (set ys c v) p 0
set_alike [] [] c p v n e = refl
set_alike [] (y ∷ ys) c p v n e = absurd (omega arith)
set_alike (x ∷ xs) [] c p v n e = absurd (omega arith)
set_alike (x ∷ xs) (y ∷ ys) zero zero v n e = refl
set_alike (x ∷ xs) (y ∷ ys) zero (suc p) v n e = e
set_alike (x ∷ xs) (y ∷ ys) (suc c) zero v n e = e
set_alike (x ∷ xs) (y ∷ ys) (suc c) (suc p) v n e = set_alike xs ys c p v (omega arith) e

-- two states with as many limits, and the same of processor p
record Alike (kind : DomainKind) (p : ℕ) (S T : State) : Type 0 where
  long : length (limits_of kind S) ≡ length (limits_of kind T)
  same : limit_of kind S p ≡ limit_of kind T p

-- # A request of another processor

changed_apart : (P : Plan) (S T : State) (q : Request) (kind : DomainKind) (p : ℕ) → cpu_of q ≢ p → Alike kind p S T → Alike kind p (changed P S q) T
changed_apart P S T (PerfLimit c n) kinds.Perf p ne a =
    let v = capped (scale_of kinds.Perf (cpu_at P c)) n in
    record { long = length-set S.perf_limits c v ∙ a.long; same = get_or-set_other S.perf_limits c p v 0 (λ e. ne (sym e)) ∙ a.same }
changed_apart P S T (ThrottleLimit c n) kinds.Throttle p ne a =
    let v = capped (scale_of kinds.Throttle (cpu_at P c)) n in
    record { long = length-set S.throttle_limits c v ∙ a.long; same = get_or-set_other S.throttle_limits c p v 0 (λ e. ne (sym e)) ∙ a.same }
changed_apart P S T q kinds.Perf p ne a = record { long = a.long; same = a.same }
changed_apart P S T q kinds.Throttle p ne a = record { long = a.long; same = a.same }
changed_apart P S T q kinds.Idle p ne a = record { long = a.long; same = a.same }

after_apart : (P : Plan) (S T : State) (q : Request) (kind : DomainKind) (p : ℕ) → cpu_of q ≢ p → Alike kind p S T → Alike kind p (after P S q) T
unfolding after
after_apart P S T q kind p ne a = step (refusal P S q)
  where
    step : (r : Option Reply) → Alike kind p (if_accepted r (λ reply. S) (changed P S q)) T
    step (Some reply) = a
    step None = changed_apart P S T q kind p ne a

-- # The same request

changed_both : (P : Plan) (S T : State) (q : Request) (kind : DomainKind) (p : ℕ) → Alike kind p S T → Alike kind p (changed P S q) (changed P T q)
changed_both P S T (PerfLimit c n) kinds.Perf p a =
    let v = capped (scale_of kinds.Perf (cpu_at P c)) n in
    record { long = length-set S.perf_limits c v ∙ a.long ∙ sym (length-set T.perf_limits c v); same = set_alike S.perf_limits T.perf_limits c p v a.long a.same }
changed_both P S T (ThrottleLimit c n) kinds.Throttle p a =
    let v = capped (scale_of kinds.Throttle (cpu_at P c)) n in
    record { long = length-set S.throttle_limits c v ∙ a.long ∙ sym (length-set T.throttle_limits c v); same = set_alike S.throttle_limits T.throttle_limits c p v a.long a.same }
changed_both P S T q kinds.Perf p a = record { long = a.long; same = a.same }
changed_both P S T q kinds.Throttle p a = record { long = a.long; same = a.same }
changed_both P S T q kinds.Idle p a = record { long = a.long; same = a.same }

-- one that changes no limit may be refused in one state and accepted in the other
mixed : (P : Plan) (S T : State) (q : Request) (kind : DomainKind) (p : ℕ) → ((U : State) → limits_of kind (changed P U q) ≡ limits_of kind U) → Alike kind p S T
    → Alike kind p (after P S q) (after P T q)
unfolding after
mixed P S T q kind p quiet a = step (refusal P S q) (refusal P T q)
  where
    at-p : List ℕ → ℕ
    at-p xs = get_or xs p 0

    step : (x y : Option Reply) → Alike kind p (if_accepted x (λ reply. S) (changed P S q)) (if_accepted y (λ reply. T) (changed P T q))
    step (Some x) (Some y) = a
    step (Some x) None = record { long = a.long ∙ ap length (sym (quiet T)); same = a.same ∙ ap at-p (sym (quiet T)) }
    step None (Some y) = record { long = ap length (quiet S) ∙ a.long; same = ap at-p (quiet S) ∙ a.same }
    step None None = record { long = ap length (quiet S) ∙ a.long ∙ ap length (sym (quiet T)); same = ap at-p (quiet S) ∙ a.same ∙ ap at-p (sym (quiet T)) }

quiet_idle : (P : Plan) (c s t : ℕ) (kind : DomainKind) (U : State) → limits_of kind (changed P U (Idle c s t)) ≡ limits_of kind U
quiet_idle P c s t kinds.Perf U = refl
quiet_idle P c s t kinds.Throttle U = refl
quiet_idle P c s t kinds.Idle U = refl

quiet_wake : (P : Plan) (c : ℕ) (kind : DomainKind) (U : State) → limits_of kind (changed P U (Wake c)) ≡ limits_of kind U
quiet_wake P c kinds.Perf U = refl
quiet_wake P c kinds.Throttle U = refl
quiet_wake P c kinds.Idle U = refl

quiet_perf : (P : Plan) (c i : ℕ) (kind : DomainKind) (U : State) → limits_of kind (changed P U (Perf c i)) ≡ limits_of kind U
quiet_perf P c i kinds.Perf U = refl
quiet_perf P c i kinds.Throttle U = refl
quiet_perf P c i kinds.Idle U = refl

quiet_throttle : (P : Plan) (c i : ℕ) (kind : DomainKind) (U : State) → limits_of kind (changed P U (Throttle c i)) ≡ limits_of kind U
quiet_throttle P c i kinds.Perf U = refl
quiet_throttle P c i kinds.Throttle U = refl
quiet_throttle P c i kinds.Idle U = refl

-- a limit request is refused in both or in neither
both : (P : Plan) (S T : State) (q : Request) (kind : DomainKind) (p : ℕ) → refusal P S q ≡ refusal P T q → Alike kind p S T → Alike kind p (after P S q) (after P T q)
unfolding after
both P S T q kind p e a = rw e (step (refusal P T q))
  where
    step : (x : Option Reply) → Alike kind p (if_accepted x (λ reply. S) (changed P S q)) (if_accepted x (λ reply. T) (changed P T q))
    step (Some x) = a
    step None = changed_both P S T q kind p a

after_both : (P : Plan) (S T : State) (q : Request) (kind : DomainKind) (p : ℕ) → Alike kind p S T → Alike kind p (after P S q) (after P T q)
after_both P S T (PerfLimit c n) kind p a = both P S T (PerfLimit c n) kind p refl a
after_both P S T (ThrottleLimit c n) kind p a = both P S T (ThrottleLimit c n) kind p refl a
after_both P S T (Idle c s t) kind p a = mixed P S T (Idle c s t) kind p (quiet_idle P c s t kind) a
after_both P S T (Wake c) kind p a = mixed P S T (Wake c) kind p (quiet_wake P c kind) a
after_both P S T (Perf c i) kind p a = mixed P S T (Perf c i) kind p (quiet_perf P c i kind) a
after_both P S T (Throttle c i) kind p a = mixed P S T (Throttle c i) kind p (quiet_throttle P c i kind) a

-- # All requests

made_alike : (P : Plan) (kind : DomainKind) (p : ℕ) (qs : List Request) (S T : State) → Alike kind p S T
    → limit_of kind (made_from P S qs) p ≡ limit_of kind (made_from P T (filter (λ q. cpu_of q == p) qs)) p
made_alike P kind p [] S T a = a.same
made_alike P kind p (q ∷ qs) S T a = step (cpu_of q == p) refl (λ U b. made_alike P kind p qs (after P S q) U b)
  where
    step : (b : Bool) → (cpu_of q == p) ≡ b
        → ((U : State) → Alike kind p (after P S q) U → limit_of kind (made_from P (after P S q) qs) p ≡ limit_of kind (made_from P U (filter (λ r. cpu_of r == p) qs)) p)
        → limit_of kind (made_from P (after P S q) qs) p ≡ limit_of kind (made_from P T (cond b (q ∷ filter (λ r. cpu_of r == p) qs) (filter (λ r. cpu_of r == p) qs))) p
    step true e later = later (after P T q) (after_both P S T q kind p a)
    step false e later = later T (after_apart P S T q kind p (eqb-false (cpu_of q) p e) a)

pub requests_own : (P : Plan) (kind : DomainKind) (p : ℕ) (qs : List Request) → limit_after P kind p qs ≡ own_limit P kind p qs
requests_own P kind p qs = made_alike P kind p qs (opening P) (opening P) (record { long = refl; same = refl })

-- # Histories

entry_apart : (P : Plan) (S T : State) (e : HistoryEntry) (kind : DomainKind) (p : ℕ) → e.cpu ≢ p → Alike kind p S T → Alike kind p (after_entry P S e) T
entry_apart P S T e kind p ne a = step (e.fault == 0)
  where
    step : (b : Bool) → Alike kind p (cond b (after P S (request_of e)) S) T
    step true = after_apart P S T (request_of e) kind p (λ h. ne (sym (request_cpu e) ∙ h)) a
    step false = a

entry_both : (P : Plan) (S T : State) (e : HistoryEntry) (kind : DomainKind) (p : ℕ) → Alike kind p S T → Alike kind p (after_entry P S e) (after_entry P T e)
entry_both P S T e kind p a = step (e.fault == 0)
  where
    step : (b : Bool) → Alike kind p (cond b (after P S (request_of e)) S) (cond b (after P T (request_of e)) T)
    step true = after_both P S T (request_of e) kind p a
    step false = a

replayed_alike : (P : Plan) (kind : DomainKind) (p : ℕ) (es : List HistoryEntry) (S T : State) → Alike kind p S T
    → limit_of kind (replay_from P S es) p ≡ limit_of kind (replay_from P T (own_entries p es)) p
replayed_alike P kind p [] S T a = a.same
replayed_alike P kind p (e ∷ es) S T a = step (e.cpu == p) refl (λ U b. replayed_alike P kind p es (after_entry P S e) U b)
  where
    step : (b : Bool) → (e.cpu == p) ≡ b
        → ((U : State) → Alike kind p (after_entry P S e) U → limit_of kind (replay_from P (after_entry P S e) es) p ≡ limit_of kind (replay_from P U (own_entries p es)) p)
        → limit_of kind (replay_from P (after_entry P S e) es) p ≡ limit_of kind (replay_from P T (cond b (e ∷ own_entries p es) (own_entries p es))) p
    step true h later = later (after_entry P T e) (entry_both P S T e kind p a)
    step false h later = later T (entry_apart P S T e kind p (eqb-false e.cpu p h) a)

pub entries_own : (P : Plan) (kind : DomainKind) (p : ℕ) (es : List HistoryEntry) → limit_of kind (replay P es) p ≡ limit_of kind (replay P (own_entries p es)) p
unfolding histories.replay
entries_own P kind p es = replayed_alike P kind p es (opening P) (opening P) (record { long = refl; same = refl })

-- without a fault a history leaves what its requests leave
replayed : (P : Plan) (es : List HistoryEntry) (S : State) → Faultless es → replay_from P S es ≡ made_from P S (requests es)
replayed P [] S h = refl
replayed P (e ∷ es) S h =
    let here : after_entry P S e ≡ after P S (request_of e) = rw h.0 refl in
    ap (λ (T : State). replay_from P T es) here ∙ replayed P es (after P S (request_of e)) h.1

pub histories_own : (P : Plan) (kind : DomainKind) (p : ℕ) (es : List HistoryEntry) → Faultless es → limit_of kind (replay P es) p ≡ own_limit P kind p (requests es)
unfolding histories.replay
histories_own P kind p es h = ap (λ (S : State). limit_of kind S p) (replayed P es (opening P) h) ∙ requests_own P kind p (requests es)

pub ruleset limits_own = (requests_own, entries_own, histories_own)
