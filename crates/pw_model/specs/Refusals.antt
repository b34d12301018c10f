-- Which requests are refused, and why.
use Rattle.std.specs.Prelude.{◌==◌, ◌&&◌, ◌||◌, not, ℕ, Bool, true, false, length, Option, Some, None, nat_le, nat_lt}
use Rattle.std.specs.List.{position_or_len}
use Rattle.acpi_values.specs.Idle.{rows_of}
use Rattle.acpi_values.specs.declared.idle.IdleKind.{IdleKind}
use Rattle.acpi_values.specs.declared.idle.IdleKind.TheVariants.{Lpi, Cst, Absent}
use Rattle.pw_plan.specs.declared.domain.Domain.{Domain}
use Rattle.pw_plan.specs.declared.domain.DomainKind.{DomainKind}
use Rattle.pw_plan.specs.declared.domain.DomainKind.TheVariants as kinds
use Rattle.pw_plan.specs.declared.parts.Scale.{Scale}
use Rattle.pw_plan.specs.declared.plan.Plan.{Plan}
use Rattle.pw_plan.specs.declared.request.Request.{Request}
use Rattle.pw_plan.specs.declared.request.Request.TheVariants.{Idle, Wake, Perf, Throttle, PerfLimit, ThrottleLimit}
use Rattle.pw_plan.specs.Limits.{in_32_bits}
use Rattle.pw_plan.specs.Parts.{count_of, scale_of}
use Rattle.pw_plan.specs.Places.{cpu_at, domain_at, domain_of, row_at}
use Rattle.pw_plan.specs.Covering.{covers}
use Rattle.pw_model.specs.declared.reply.Reply.{Reply}
use Rattle.pw_model.specs.declared.reply.Reply.TheVariants.{NoState, Disabled, AboveLimit, NoTable, Unfit, TooSlow}
use Rattle.pw_model.specs.declared.state.State.{State}
use Rattle.pw_model.specs.States.{limit_of}

-- the first refusal, or what the rest says where there is none
infixr 20 ◌or_else◌
abbrev pub ◌or_else◌ : Option Reply → Option Reply → Option Reply
None or_else rest = rest
(Some reply) or_else rest = Some reply

abbrev pub refuse_if : Bool → Reply → Option Reply
refuse_if true reply = Some reply
refuse_if false reply = None

-- # Idle requests

abbrev pub is_absent : IdleKind → Bool
is_absent Absent = true
is_absent Lpi = false
is_absent Cst = false

-- whether it is an idle domain of the processor that can't be coordinated
abbrev pub is_unfit : ℕ → Domain → Bool
is_unfit p d = covers kinds.Idle p d && not (d.unfit == 0)

-- the first such domain. A place that is greater than 32 bits stands at their end
abbrev pub unfit_refusal : Plan → ℕ → Option Reply
unfit_refusal P p =
    let d = position_or_len (is_unfit p) P.domains in
    refuse_if (nat_lt d (length P.domains)) (Unfit (in_32_bits d) (domain_at P d).unfit)

-- no table; an unfit domain; no such state; a state that isn't enabled; a state that wakes too slowly
abbrev pub idle_refusal : Plan → ℕ → ℕ → ℕ → Option Reply
idle_refusal P p s tolerance =
    let t = (cpu_at P p).idle in
    refuse_if (is_absent t.kind) NoTable
    or_else unfit_refusal P p
    or_else refuse_if ((s == 0) || nat_lt (length (rows_of t)) s) (NoState (length (rows_of t)))
    or_else refuse_if (not (row_at t s).enabled) Disabled
    or_else refuse_if (nat_lt tolerance (row_at t s).latency) (TooSlow (row_at t s).latency)

-- # Requests on a domain of performance or throttling

-- no such states; an unfit domain
abbrev pub domain_refusal : Plan → DomainKind → ℕ → Option Scale → Option Reply
domain_refusal P kind p None = Some NoTable
domain_refusal P kind p (Some scale) =
    let d = domain_of P kind p in
    refuse_if (not ((domain_at P d).unfit == 0)) (Unfit d (domain_at P d).unfit)

-- and then: no such state
abbrev pub ask_refusal : Plan → DomainKind → ℕ → ℕ → Option Reply
ask_refusal P kind p i =
    let scale = scale_of kind (cpu_at P p) in
    domain_refusal P kind p scale
    or_else refuse_if (nat_le (count_of scale) i) (NoState (count_of scale))

abbrev pub limit_refusal : Plan → DomainKind → ℕ → Option Reply
limit_refusal P kind p = domain_refusal P kind p (scale_of kind (cpu_at P p))

-- # All requests

-- a refusal that comes in every state
abbrev pub fixed_refusal : Plan → Request → Option Reply
fixed_refusal P (Idle p s t) = idle_refusal P p s t
fixed_refusal P (Wake p) = None
fixed_refusal P (Perf p i) = ask_refusal P kinds.Perf p i
fixed_refusal P (Throttle p i) = ask_refusal P kinds.Throttle p i
fixed_refusal P (PerfLimit p n) = limit_refusal P kinds.Perf p
fixed_refusal P (ThrottleLimit p n) = limit_refusal P kinds.Throttle p

-- a state that is faster than the processor's own limit
abbrev pub above_limit : State → DomainKind → ℕ → ℕ → Option Reply
above_limit S kind p i = refuse_if (nat_lt i (limit_of kind S p)) (AboveLimit (limit_of kind S p))

-- a refusal that the state decides
abbrev pub state_refusal : State → Request → Option Reply
state_refusal S (Idle p s t) = None
state_refusal S (Wake p) = None
state_refusal S (Perf p i) = above_limit S kinds.Perf p i
state_refusal S (Throttle p i) = above_limit S kinds.Throttle p i
state_refusal S (PerfLimit p n) = None
state_refusal S (ThrottleLimit p n) = None

-- Why the request is refused, if it is.
abbrev pub refusal : Plan → State → Request → Option Reply
refusal P S q = fixed_refusal P q or_else state_refusal S q
