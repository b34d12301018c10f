-- Requests that can be asked.
use Rattle.std.specs.Prelude.{◌<◌, ◌^◌, List}
use Rattle.pw_history.specs.Asked as any
use Rattle.pw_plan.specs.declared.plan.Plan.{Plan}
use Rattle.pw_plan.specs.declared.request.Request.{Request}
use Rattle.pw_plan.specs.declared.request.Request.TheVariants.{Idle, Wake, Perf, Throttle, PerfLimit, ThrottleLimit}
use Rattle.pw_script.specs.HistoryText.{power_words}

-- the numbers of a request, besides that of its processor, are of 32 bits
abbrev pub IsNarrowRequest : Request → Type 0
IsNarrowRequest (Idle p s t) = (s < 2 ^ 32) × (t < 2 ^ 32)
IsNarrowRequest (Wake p) = Unit {0}
IsNarrowRequest (Perf p i) = i < 2 ^ 32
IsNarrowRequest (Throttle p i) = i < 2 ^ 32
IsNarrowRequest (PerfLimit p n) = n < 2 ^ 32
IsNarrowRequest (ThrottleLimit p n) = n < 2 ^ 32

-- Their processors exist, and their numbers are of 32 bits.
abbrev pub CanBeAsked : Plan → List Request → Type 0
CanBeAsked = any.CanBeAsked power_words IsNarrowRequest
