-- What a request comes to, in words: it is refused for the first reason that stands, or what it asks for is done (ACPI 6.5, 8.3, 8.4).
use Rattle.std.specs.Prelude.{◌≡◌, ◌≢◌, ◌↔◌, ℕ, List, [], None, Contains}
use Rattle.acpi_values.specs.declared.idle.IdleKind.TheVariants.{Absent}
use Rattle.acpi_values.specs.declared.operation.Composite.{Composite}
use Rattle.acpi_values.specs.declared.operation.Op.{Op}
use Rattle.acpi_values.specs.declared.operation.Op.TheVariants.{Enter}
use Rattle.pw_plan.specs.declared.domain.DomainKind.{DomainKind}
use Rattle.pw_plan.specs.declared.domain.DomainKind.TheVariants as kinds
use Rattle.pw_plan.specs.declared.plan.Plan.{Plan}
use Rattle.pw_plan.specs.declared.request.Request.{Request}
use Rattle.pw_plan.specs.declared.request.Request.TheVariants.{Idle, Wake, Perf, Throttle, PerfLimit, ThrottleLimit}
use Rattle.pw_plan.specs.Parts.{scale_of}
use Rattle.pw_plan.specs.Places.{cpu_at, domain_of}
use Rattle.pw_model.specs.declared.reply.Reply.{Reply}
use Rattle.pw_model.specs.declared.reply.Reply.TheVariants.{AboveLimit, Disabled, Entered, NoState, NoTable, Running, Stands, TooSlow, Unfit}
use Rattle.pw_model.specs.declared.state.State.{State}
use Rattle.pw_model.specs.States.{capped, idling, running}
use Rattle.pw_model.specs.Domains.{standing}
use Rattle.pw_model.specs.Answers.{chain_of, states_of}
use Rattle.pw_model.specs.Composites.{composite_of}
use Rattle.pw_model.specs.Acceptance.{HasFitDomain, MayAskFor, MayIdleIn}
use Rattle.pw_model.specs.Reasons.{AsksAboveLimit, HasDisabled, HasNoState, HasNoSuchState, HasUnfitDomain, NamesUnfit, WakesTooSlowly}
use Rattle.pw_model.specs.Changes.{MovesAsk, MovesLimit, MovesVote}
use Rattle.pw_model.specs.Entering.{ComesAlong}
use Rattle.pw_model.specs.Operating.{EntersFirst, SetsNewStanding}

-- # Why it is refused. Each reason stands only where none does that is named before it

-- An idle request: the processor has no idle states; an idle domain of its is unfit; there is no such state; it isn't enabled; it wakes
-- slower than the request bears.
pub data IsIdleRefused (P : Plan) (p s tolerance : ℕ) : Reply → Type 0 where
  no_table : (cpu_at P p).idle.kind ≡ Absent → IsIdleRefused P p s tolerance NoTable
  unfit : {number why : ℕ} → NamesUnfit P p number why → IsIdleRefused P p s tolerance (Unfit number why)
  no_state : {count : ℕ} → HasNoState P p s count → IsIdleRefused P p s tolerance (NoState count)
  disabled : HasDisabled P p s → IsIdleRefused P p s tolerance Disabled
  too_slow : {latency : ℕ} → WakesTooSlowly P p s tolerance latency → IsIdleRefused P p s tolerance (TooSlow latency)

-- A limit: the processor has no states of this kind; its domain of them is unfit.
pub data IsLimitRefused (P : Plan) (kind : DomainKind) (p : ℕ) : Reply → Type 0 where
  no_table : scale_of kind (cpu_at P p) ≡ None → IsLimitRefused P kind p NoTable
  unfit : {domain why : ℕ} → HasUnfitDomain P kind p domain why → IsLimitRefused P kind p (Unfit domain why)

-- An ask: for one of these two; there is no such state; it is faster than the processor's own limit.
pub data IsAskRefused (P : Plan) (S : State) (kind : DomainKind) (p i : ℕ) : Reply → Type 0 where
  as_limit : {reply : Reply} → IsLimitRefused P kind p reply → IsAskRefused P S kind p i reply
  no_state : {count : ℕ} → HasNoSuchState P kind p i count → IsAskRefused P S kind p i (NoState count)
  above_limit : {limit : ℕ} → AsksAboveLimit P S kind p i limit → IsAskRefused P S kind p i (AboveLimit limit)

-- The request is refused in this state with this reply. A wake never is.
abbrev pub IsRefusedFor : Plan → State → Request → Reply → Type 0
IsRefusedFor P S (Idle p s tolerance) reply = IsIdleRefused P p s tolerance reply
IsRefusedFor P S (Wake p) reply = ⊥
IsRefusedFor P S (Perf p i) reply = IsAskRefused P S kinds.Perf p i reply
IsRefusedFor P S (Throttle p i) reply = IsAskRefused P S kinds.Throttle p i reply
IsRefusedFor P S (PerfLimit p n) reply = IsLimitRefused P kinds.Perf p reply
IsRefusedFor P S (ThrottleLimit p n) reply = IsLimitRefused P kinds.Throttle p reply

-- # What comes of one that is accepted, between the states before and after it

-- Processor p idles in state s and bears this wake latency.
pub record Idles (P : Plan) (S T : State) (p s tolerance : ℕ) (reply : Reply) (ops : List Op) : Type 0 where
  pub may : MayIdleIn P p s tolerance
  pub votes : MovesVote S T p (idling s tolerance)
  pub answered : reply ≡ Entered (chain_of (states_of P T p))
  -- it enters what its chain makes, and then those do who come along, by rising number
  pub enters : EntersFirst P T p ops
  pub others : (q : ℕ) → q ≢ p → (x : Composite)
      → Contains ops (Enter q x) ↔ (ComesAlong P S T q × (x ≡ composite_of P q (states_of P T q)))

-- It runs.
pub record Wakes (S T : State) (p : ℕ) (reply : Reply) (ops : List Op) : Type 0 where
  pub votes : MovesVote S T p running
  pub answered : reply ≡ Running
  pub silent : ops ≡ []

-- It asks for state i.
pub record Asks (P : Plan) (S T : State) (kind : DomainKind) (p i : ℕ) (reply : Reply) (ops : List Op) : Type 0 where
  pub may : MayAskFor P S kind p i
  pub asks : MovesAsk S T kind p i
  pub answered : reply ≡ Stands (standing P T (domain_of P kind p) p)
  pub sets : SetsNewStanding P S T kind (domain_of P kind p) p ops

-- Its limit is n, or the last state where n is past it.
pub record Limits (P : Plan) (S T : State) (kind : DomainKind) (p n : ℕ) (reply : Reply) (ops : List Op) : Type 0 where
  pub may : HasFitDomain P kind p
  pub limits : MovesLimit S T kind p (capped (scale_of kind (cpu_at P p)) n)
  pub answered : reply ≡ Stands (standing P T (domain_of P kind p) p)
  pub sets : SetsNewStanding P S T kind (domain_of P kind p) p ops

abbrev pub IsAccepted : Plan → State → State → Request → Reply → List Op → Type 0
IsAccepted P S T (Idle p s tolerance) reply ops = Idles P S T p s tolerance reply ops
IsAccepted P S T (Wake p) reply ops = Wakes S T p reply ops
IsAccepted P S T (Perf p i) reply ops = Asks P S T kinds.Perf p i reply ops
IsAccepted P S T (Throttle p i) reply ops = Asks P S T kinds.Throttle p i reply ops
IsAccepted P S T (PerfLimit p n) reply ops = Limits P S T kinds.Perf p n reply ops
IsAccepted P S T (ThrottleLimit p n) reply ops = Limits P S T kinds.Throttle p n reply ops

-- # One request

-- Between two states a request was served, with this reply and these operations: it was refused, which changes nothing and operates
-- nothing, or accepted.
pub data IsServed (P : Plan) (S T : State) (q : Request) (reply : Reply) (ops : List Op) : Type 0 where
  refused : IsRefusedFor P S q reply → T ≡ S → ops ≡ [] → IsServed P S T q reply ops
  accepted : IsAccepted P S T q reply ops → IsServed P S T q reply ops
