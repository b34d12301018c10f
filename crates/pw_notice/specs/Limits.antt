-- A processor's own limits, and what a notification asks for (ACPI 6.5, 8.4.5.3 and 8.4.4.3).
use Rattle.std.specs.Prelude.{◌≡◌, ◌==◌, ℕ, Bool, List, [], ◌∷◌, filter, map, length, Option, Some, None}
use Rattle.pw_plan.specs.declared.domain.DomainKind.{DomainKind}
use Rattle.pw_plan.specs.declared.domain.DomainKind.TheVariants as kinds
use Rattle.pw_plan.specs.declared.parts.Scale.{Scale}
use Rattle.pw_plan.specs.declared.plan.Plan.{Plan}
use Rattle.pw_plan.specs.declared.request.Request.{Request}
use Rattle.pw_plan.specs.declared.request.Request.TheVariants.{PerfLimit, ThrottleLimit}
use Rattle.pw_plan.specs.Parts.{scale_of}
use Rattle.pw_plan.specs.Places.{cpu_at}
use Rattle.pw_plan.specs.Requests.{cpu_of}
use Rattle.pw_model.specs.declared.entry.HistoryEntry.{HistoryEntry}
use Rattle.pw_model.specs.declared.state.ScaleKind.{ScaleKind}
use Rattle.pw_model.specs.declared.state.ScaleKind.TheVariants as scales
use Rattle.pw_model.specs.declared.state.State.{State}
use Rattle.pw_model.specs.States.{limit_of, opening}
use Rattle.pw_model.specs.Answers.{after}
use Rattle.pw_model.specs.History.{request_of}

-- # Requests one after the other

-- the state that these requests leave
abbrev pub made_from : Plan → State → List Request → State
made_from P S [] = S
made_from P S (q ∷ qs) = made_from P (after P S q) qs

-- whether a request is of processor p
abbrev pub is_of : ℕ → Request → Bool
is_of p q = cpu_of q == p

-- those of processor p among these requests, in their order
abbrev pub own : ℕ → List Request → List Request
own p qs = filter (is_of p) qs

-- the requests of a history, in their order
abbrev pub requests : List HistoryEntry → List Request
requests es = map request_of es

-- the entries of processor p in a history
abbrev pub own_entries : ℕ → List HistoryEntry → List HistoryEntry
own_entries p es = filter (λ (e : HistoryEntry). e.cpu == p) es

-- a processor's limit after these requests, made from the start on
abbrev pub limit_after : Plan → DomainKind → ℕ → List Request → ℕ
limit_after P kind p qs = limit_of kind (made_from P (opening P) qs) p

-- A processor's own limit behind these requests: that after its own ones among them.
abbrev pub own_limit : Plan → DomainKind → ℕ → List Request → ℕ
own_limit P kind p before = limit_after P kind p (own p before)

-- # Notifications

-- the domains that states of this kind are coordinated in
abbrev pub kind_of : ScaleKind → DomainKind
kind_of scales.Perf = kinds.Perf
kind_of scales.Throttle = kinds.Throttle

-- what each of two handlers may answer, as of a kind of states
abbrev pub AnsweredBy : (ℕ → ℕ → ℕ → ℕ → Type 0) → (ℕ → ℕ → ℕ → ℕ → Type 0) → ScaleKind → ℕ → ℕ → ℕ → ℕ → Type 0
AnsweredBy perf throttle scales.Perf = perf
AnsweredBy perf throttle scales.Throttle = throttle

-- the same of two functions
abbrev pub answer_by : (ℕ → ℕ → ℕ → ℕ) → (ℕ → ℕ → ℕ → ℕ) → ScaleKind → ℕ → ℕ → ℕ → ℕ
answer_by perf throttle scales.Perf = perf
answer_by perf throttle scales.Throttle = throttle

-- n is what a handler may answer to the number of states, the limit that stands, and the value; without such states it
-- is the value
abbrev pub IsAnswer : (ℕ → ℕ → ℕ → ℕ → Type 0) → Option Scale → ℕ → ℕ → ℕ → Type 0
IsAnswer answers None current value n = n ≡ value
IsAnswer answers (Some scale) current value n = answers (length scale.controls) current value n

-- the request for a limit of this kind
abbrev pub limit_request : ScaleKind → ℕ → ℕ → Request
limit_request scales.Perf p n = PerfLimit p n
limit_request scales.Throttle p n = ThrottleLimit p n

-- q is what a notification asks for in the name of processor p, behind the requests before it: the limit that the
-- handler answers, shown the processor's own limit and the value that the platform's object has now.
abbrev pub IsNoticed : Plan → (ScaleKind → ℕ → ℕ → ℕ → ℕ → Type 0) → List Request → ℕ → ScaleKind → ℕ → Request → Type 0
IsNoticed P answers before p kind value q =
    (n : ℕ) × IsAnswer (answers kind) (scale_of (kind_of kind) (cpu_at P p)) (own_limit P (kind_of kind) p before) value n
    × (q ≡ limit_request kind p n)
