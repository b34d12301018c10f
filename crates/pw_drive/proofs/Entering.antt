-- One more entry in a history.
use Rattle.std.proofs.Common.{◌≡◌, ◌≤◌, ◌<◌, ◌+◌, ◌-◌, ◌==◌, ◌++◌, ◌∷◌, ◌∙◌, ℕ, true, false, List, [], length, take, Some, refl, inl, inr, arith, append-nil}
use Rattle.std.proofs.lemmas.Bool.Decides.{nat_tests}
use Rattle.pw_plan.specs.declared.plan.Plan.{Plan}
use Rattle.pw_plan.specs.declared.request.Request.{Request}
use Rattle.pw_plan.specs.declared.request.Request.TheVariants.{Idle, Wake, Perf, Throttle, PerfLimit, ThrottleLimit}
use Rattle.pw_plan.specs.Requests.{Has}
use Rattle.pw_plan.proofs.Lists.{each_append}
use Rattle.pw_kind.specs.History as histories
use Rattle.pw_model.specs.declared.entry.HistoryEntry.{HistoryEntry}
use Rattle.pw_model.specs.declared.state.State.{State}
use Rattle.pw_model.specs.Answers.{after, answer}
use Rattle.pw_model.specs.History.{Faultless, IsEntry, Legal, entry_of, entry_ops, fault_at, replay, replies, request_of}
use Rattle.pw_model.specs.Operations.{ops_of}
use Rattle.pw_model.proofs.Joining.{entry_is, legal-more, replay-append, replies-append, request_of-entry}
use Rattle.pw_journal.specs.Entries.{fault_entry}

pub seat_of-entry : (seat : ℕ) (q : Request) → (entry_of seat q).seat ≡ seat
seat_of-entry seat (Idle p s t) = refl
seat_of-entry seat (Wake p) = refl
seat_of-entry seat (Perf p i) = refl
seat_of-entry seat (Throttle p i) = refl
seat_of-entry seat (PerfLimit p n) = refl
seat_of-entry seat (ThrottleLimit p n) = refl

pub fault_of-entry : (seat : ℕ) (q : Request) → (entry_of seat q).fault ≡ 0
fault_of-entry seat (Idle p s t) = refl
fault_of-entry seat (Wake p) = refl
fault_of-entry seat (Perf p i) = refl
fault_of-entry seat (Throttle p i) = refl
fault_of-entry seat (PerfLimit p n) = refl
fault_of-entry seat (ThrottleLimit p n) = refl

none_is : (f : ℕ) → f ≡ 0 → (f == 0) ≡ true
none_is f e = grind (arith, nat_tests)

some_is : (k : ℕ) → (k + 1 == 0) ≡ false
some_is k = grind (arith, nat_tests)

-- an entry of a request, whatever its fault
pub faulty_is : (P : Plan) (q : Request) (k : ℕ) → Has P q → IsEntry P (fault_entry 0 q k)
faulty_is P q k has =
    let e = entry_is P 0 q has in
    record { states = record { cpu = e.states.cpu; code_from = e.states.code_from; code_to = e.states.code_to }; wake = e.wake; others = e.others }

-- # Behind a history without a fault

pub legal_done : (P : Plan) (es : List HistoryEntry) (q : Request) → Legal P es → Faultless es → Has P q → Legal P (es ++ entry_of 0 q ∷ [])
legal_done P es q legal none has = legal-more P es (entry_of 0 q) legal (record { faultless = none; entry = entry_is P 0 q has; fits = inl (fault_of-entry 0 q) })

pub legal_stopped : (P : Plan) (es : List HistoryEntry) (q : Request) (k : ℕ) → Legal P es → Faultless es → Has P q → k < length (ops_of P (replay P es) q) → Legal P (es ++ fault_entry 0 q k ∷ [])
legal_stopped P es q k legal none has lt =
    let within : k + 1 ≤ length (ops_of P (replay P es) (request_of (entry_of 0 q))) = rw (request_of-entry 0 q) (omega (arith, lt)) in
    legal-more P es (fault_entry 0 q k) legal (record { faultless = none; entry = faulty_is P q k has; fits = inr within })

pub faultless_done : (es : List HistoryEntry) (q : Request) → Faultless es → Faultless (es ++ entry_of 0 q ∷ [])
faultless_done es q none = each_append (λ (e : HistoryEntry). e.fault ≡ 0) es (entry_of 0 q ∷ []) none (fault_of-entry 0 q, tt)

pub stopped_last : (es : List HistoryEntry) (q : Request) (k : ℕ) → Faultless es → fault_at (es ++ fault_entry 0 q k ∷ []) ≡ Some k
stopped_last [] q k a =
    let same : (k + 1) - 1 ≡ k = omega arith in
    rw (some_is k, same) refl
stopped_last (e ∷ es) q k a = rw (none_is e.fault a.0) (stopped_last es q k a.1)

-- the state after it is that after the request
pub replay_done : (P : Plan) (es : List HistoryEntry) (q : Request) → replay P (es ++ entry_of 0 q ∷ []) ≡ after P (replay P es) q
replay_done P es q = replay-append P es (entry_of 0 q ∷ []) ∙ rw (none_is (entry_of 0 q).fault (fault_of-entry 0 q), request_of-entry 0 q) refl

-- and a fault leaves the state as it was
pub replay_stopped : (P : Plan) (es : List HistoryEntry) (q : Request) (k : ℕ) → replay P (es ++ fault_entry 0 q k ∷ []) ≡ replay P es
replay_stopped P es q k = replay-append P es (fault_entry 0 q k ∷ []) ∙ rw (some_is k) refl

pub ops_done : (P : Plan) (S : State) (q : Request) → entry_ops P S (entry_of 0 q) ≡ ops_of P S q
ops_done P S q = rw (none_is (entry_of 0 q).fault (fault_of-entry 0 q), request_of-entry 0 q) refl

pub ops_stopped : (P : Plan) (S : State) (q : Request) (k : ℕ) → entry_ops P S (fault_entry 0 q k) ≡ take k (ops_of P S q)
ops_stopped P S q k =
    let same : (k + 1) - 1 ≡ k = omega arith in
    rw (some_is k, same, request_of-entry 0 q) refl

-- it has one reply more, and a fault has none
pub replies_done : (P : Plan) (es : List HistoryEntry) (q : Request) → replies P (es ++ entry_of 0 q ∷ []) ≡ replies P es ++ answer P (replay P es) q ∷ []
replies_done P es q = replies-append P es (entry_of 0 q ∷ []) ∙ rw (none_is (entry_of 0 q).fault (fault_of-entry 0 q), request_of-entry 0 q) refl

pub replies_stopped : (P : Plan) (es : List HistoryEntry) (q : Request) (k : ℕ) → replies P (es ++ fault_entry 0 q k ∷ []) ≡ replies P es
replies_stopped P es q k = replies-append P es (fault_entry 0 q k ∷ []) ∙ rw (some_is k) (append-nil (replies P es))

pub replies_none : (P : Plan) → replies P [] ≡ []
unfolding histories.replies
replies_none P = refl
