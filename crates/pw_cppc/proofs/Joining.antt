-- Histories one after the other.
use Rattle.std.proofs.Common.{◌≡◌, ◌+◌, ◌++◌, ◌∷◌, ℕ, List, [], Some, None, refl, arith}
use Rattle.std.proofs.lemmas.List.{map-append}
use Rattle.pw_kind.proofs.Joining as kind
use Rattle.pw_cppc.specs.declared.plan.CppcPlan.{CppcPlan}
use Rattle.pw_cppc.specs.declared.request.CppcRequest.{CppcRequest}
use Rattle.pw_cppc.specs.declared.request.CppcRequest.TheVariants.{Desired, Minimum, Maximum}
use Rattle.pw_cppc.specs.Requests.{Has}
use Rattle.pw_cppc.specs.declared.entry.CppcEntry.{CppcEntry}
use Rattle.pw_cppc.specs.History.{Faultless, Legal, MayFollow, StatesRequest, entry_of, fault_at, history_ops, ops_from, performance, replay, replay_from, replies, replies_from, request_of, requests}

-- # Entries

pub request_of-entry : (seat fault : ℕ) (q : CppcRequest) → request_of (record (entry_of seat q) { fault = fault }) ≡ q
request_of-entry seat fault (Desired p v) = refl
request_of-entry seat fault (Minimum p v) = refl
request_of-entry seat fault (Maximum p v) = refl

pub entry_states : (P : CppcPlan) (seat fault : ℕ) (q : CppcRequest) → Has P q → StatesRequest P (record (entry_of seat q) { fault = fault })
entry_states P seat fault (Desired p v) has = record { cpu = has; code_from = omega arith; code_to = omega arith }
entry_states P seat fault (Minimum p v) has = record { cpu = has; code_from = omega arith; code_to = omega arith }
entry_states P seat fault (Maximum p v) has = record { cpu = has; code_from = omega arith; code_to = omega arith }

-- # One after the other

pub replay-append : (P : CppcPlan) (es fs : List CppcEntry) → replay P (es ++ fs) ≡ replay_from P (replay P es) fs
replay-append = kind.replay-append performance

pub replies-append : (P : CppcPlan) (es fs : List CppcEntry) → replies P (es ++ fs) ≡ replies P es ++ replies_from P (replay P es) fs
replies-append = kind.replies-append performance

pub history_ops-append : (P : CppcPlan) (es fs : List CppcEntry) → history_ops P (es ++ fs) ≡ history_ops P es ++ ops_from P (replay P es) fs
history_ops-append = kind.history_ops-append performance

pub requests-append : (es fs : List CppcEntry) → requests (es ++ fs) ≡ requests es ++ requests fs
requests-append es fs = map-append request_of es fs

pub legal-empty : (P : CppcPlan) → Legal P []
legal-empty = kind.legal-empty performance

pub legal-first : (P : CppcPlan) (es fs : List CppcEntry) → Legal P (es ++ fs) → Legal P es
legal-first = kind.legal-first performance

pub legal-more : (P : CppcPlan) (es : List CppcEntry) (e : CppcEntry) → Legal P es → MayFollow P es e → Legal P (es ++ e ∷ [])
legal-more = kind.legal-more performance

pub legal-follows : (P : CppcPlan) (es : List CppcEntry) (e : CppcEntry) → Legal P (es ++ e ∷ []) → MayFollow P es e
legal-follows = kind.legal-follows performance

-- # The fault

pub fault_none : (es : List CppcEntry) → fault_at es ≡ None → Faultless es
fault_none = kind.fault_none performance

pub faultless_none : (es : List CppcEntry) → Faultless es → fault_at es ≡ None
faultless_none = kind.faultless_none performance

pub fault_last : (es : List CppcEntry) (e : CppcEntry) (k : ℕ) → Faultless es → e.fault ≡ k + 1 → fault_at (es ++ e ∷ []) ≡ Some k
fault_last = kind.fault_last performance
