-- Histories one after the other.
use Rattle.std.proofs.Common.{◌≡◌, ◌++◌, ◌∷◌, ℕ, List, [], None, refl, arith}
use Rattle.pw_kind.proofs.Joining as kind
use Rattle.pw_plan.specs.declared.plan.Plan.{Plan}
use Rattle.pw_plan.specs.declared.request.Request.TheVariants.{Idle, Wake, Perf, Throttle, PerfLimit, ThrottleLimit}
use Rattle.pw_plan.specs.declared.request.Request.{Request}
use Rattle.pw_plan.specs.Requests.{Has}
use Rattle.pw_model.specs.declared.entry.HistoryEntry.{HistoryEntry}
use Rattle.pw_model.specs.History.{Faultless, IsEntry, Legal, MayFollow, entry_of, fault_at, history_ops, ops_from, power, replay, replay_from, replies, replies_from, request_of}

-- # Entries

pub request_of-entry : (seat : ℕ) (q : Request) → request_of (entry_of seat q) ≡ q
request_of-entry seat (Idle p s t) = refl
request_of-entry seat (Wake p) = refl
request_of-entry seat (Perf p i) = refl
request_of-entry seat (Throttle p i) = refl
request_of-entry seat (PerfLimit p n) = refl
request_of-entry seat (ThrottleLimit p n) = refl

pub entry_is : (P : Plan) (seat : ℕ) (q : Request) → Has P q → IsEntry P (entry_of seat q)
entry_is P seat (Idle p s t) has = record { states = record { cpu = has; code_from = omega arith; code_to = omega arith }; wake = λ e. absurd (omega (arith, e)); others = λ ne. absurd (ne refl) }
entry_is P seat (Wake p) has = record { states = record { cpu = has; code_from = omega arith; code_to = omega arith }; wake = λ e. refl; others = λ ne. refl }
entry_is P seat (Perf p i) has = record { states = record { cpu = has; code_from = omega arith; code_to = omega arith }; wake = λ e. absurd (omega (arith, e)); others = λ ne. refl }
entry_is P seat (Throttle p i) has = record { states = record { cpu = has; code_from = omega arith; code_to = omega arith }; wake = λ e. absurd (omega (arith, e)); others = λ ne. refl }
entry_is P seat (PerfLimit p n) has = record { states = record { cpu = has; code_from = omega arith; code_to = omega arith }; wake = λ e. absurd (omega (arith, e)); others = λ ne. refl }
entry_is P seat (ThrottleLimit p n) has = record { states = record { cpu = has; code_from = omega arith; code_to = omega arith }; wake = λ e. absurd (omega (arith, e)); others = λ ne. refl }

-- # One after the other

pub replay-append : (P : Plan) (es fs : List HistoryEntry) → replay P (es ++ fs) ≡ replay_from P (replay P es) fs
replay-append = kind.replay-append power

pub replies-append : (P : Plan) (es fs : List HistoryEntry) → replies P (es ++ fs) ≡ replies P es ++ replies_from P (replay P es) fs
replies-append = kind.replies-append power

pub history_ops-append : (P : Plan) (es fs : List HistoryEntry) → history_ops P (es ++ fs) ≡ history_ops P es ++ ops_from P (replay P es) fs
history_ops-append = kind.history_ops-append power

pub legal-empty : (P : Plan) → Legal P []
legal-empty = kind.legal-empty power

pub legal-first : (P : Plan) (es fs : List HistoryEntry) → Legal P (es ++ fs) → Legal P es
legal-first = kind.legal-first power

pub legal-more : (P : Plan) (es : List HistoryEntry) (e : HistoryEntry) → Legal P es → MayFollow P es e → Legal P (es ++ e ∷ [])
legal-more = kind.legal-more power

pub legal-follows : (P : Plan) (es : List HistoryEntry) (e : HistoryEntry) → Legal P (es ++ e ∷ []) → MayFollow P es e
legal-follows = kind.legal-follows power

-- # The fault

pub fault_none : (es : List HistoryEntry) → fault_at es ≡ None → Faultless es
fault_none = kind.fault_none power

pub faultless_none : (es : List HistoryEntry) → Faultless es → fault_at es ≡ None
faultless_none = kind.faultless_none power
