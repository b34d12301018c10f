-- The state after a request, and its answer.
use Rattle.std.specs.Prelude.{◌==◌, ◌-◌, ◌++◌, ℕ, List, [], ◌∷◌, length, replicate, Option, Some, None, if◌then◌else◌}
use Rattle.acpi_values.specs.declared.idle.IdleKind.{IdleKind}
use Rattle.acpi_values.specs.declared.idle.IdleKind.TheVariants.{Lpi, Cst, Absent}
use Rattle.acpi_values.specs.declared.operation.Chain.{Chain}
use Rattle.pw_plan.specs.declared.domain.DomainKind.{DomainKind}
use Rattle.pw_plan.specs.declared.domain.DomainKind.TheVariants as kinds
use Rattle.pw_plan.specs.declared.plan.Plan.{Plan}
use Rattle.pw_plan.specs.declared.request.Request.{Request}
use Rattle.pw_plan.specs.declared.request.Request.TheVariants.{Idle, Wake, Perf, Throttle, PerfLimit, ThrottleLimit}
use Rattle.pw_plan.specs.Parts.{scale_of}
use Rattle.pw_plan.specs.Places.{cpu_at, domain_of}
use Rattle.pw_model.specs.declared.reply.Reply.{Reply}
use Rattle.pw_model.specs.declared.reply.Reply.TheVariants.{Entered, Running, Stands}
use Rattle.pw_model.specs.declared.state.Change.{Change}
use Rattle.pw_model.specs.declared.state.Change.TheVariants as changes
use Rattle.pw_model.specs.declared.state.ScaleKind.TheVariants as scales
use Rattle.pw_model.specs.declared.state.State.{State}
use Rattle.pw_model.specs.States.{running, idling, vote_of, capped, with_change}
use Rattle.pw_model.specs.Containers.{container_vote, ancestors}
use Rattle.pw_model.specs.Domains.{standing, c_state}
use Rattle.pw_model.specs.Refusals.{refusal}

-- what follows a refusal, or what follows where there is none
abbrev pub if_accepted : {X : Type 0} → Option Reply → (Reply → X) → X → X
if_accepted None refused accepted = accepted
if_accepted (Some reply) refused accepted = refused reply

-- # The state after

-- what an accepted request changes
abbrev pub change_of : Plan → Request → Change
change_of P (Idle p s t) = changes.Vote p (idling s t)
change_of P (Wake p) = changes.Vote p running
change_of P (Perf p i) = changes.Ask scales.Perf p i
change_of P (Throttle p i) = changes.Ask scales.Throttle p i
change_of P (PerfLimit p n) = changes.Limit scales.Perf p (capped (scale_of kinds.Perf (cpu_at P p)) n)
change_of P (ThrottleLimit p n) = changes.Limit scales.Throttle p (capped (scale_of kinds.Throttle (cpu_at P p)) n)

-- the state that an accepted request leaves
abbrev pub changed : Plan → State → Request → State
changed P S q = with_change S (change_of P q)

-- The state after a request: a refusal changes nothing.
unfoldable pub after : Plan → State → Request → State
after P S q = if_accepted (refusal P S q) (λ reply. S) (changed P S q)

-- # The chain of states that an idle request comes to

-- the states of these containers, as far as they are above 0
abbrev pub states_along : Plan → State → List ℕ → List ℕ
states_along P S [] = []
states_along P S (n ∷ ns) =
    let s = (container_vote P S n).state in
    if s == 0 then [] else s ∷ states_along P S ns

-- the C state alone, or a processor's state and those of its containers
abbrev pub states_by : IdleKind → List ℕ → List ℕ → List ℕ
states_by Cst own chain = own
states_by Lpi own chain = chain
states_by Absent own chain = chain

-- the states that processor p comes to by its vote
abbrev pub states_of : Plan → State → ℕ → List ℕ
states_of P S p = states_by (cpu_at P p).idle.kind (c_state P S p ∷ []) ((vote_of S p).state ∷ states_along P S (ancestors P p))

-- at most nine states, with zeros behind them
abbrev pub chain_of : List ℕ → Chain
chain_of states = record { len = length states; states = states ++ replicate (9 - length states) 0 }

-- # Answers

abbrev pub stands : Plan → State → DomainKind → ℕ → Reply
stands P S kind p = Stands (standing P S (domain_of P kind p) p)

-- what an accepted request is answered, from the state that it leaves
unfoldable pub accepted : Plan → State → Request → Reply
accepted P S (Idle p s t) = Entered (chain_of (states_of P S p))
accepted P S (Wake p) = Running
accepted P S (Perf p i) = stands P S kinds.Perf p
accepted P S (Throttle p i) = stands P S kinds.Throttle p
accepted P S (PerfLimit p n) = stands P S kinds.Perf p
accepted P S (ThrottleLimit p n) = stands P S kinds.Throttle p

-- The answer to a request.
unfoldable pub answer : Plan → State → Request → Reply
answer P S q = if_accepted (refusal P S q) (λ reply. reply) (accepted P (changed P S q) q)
