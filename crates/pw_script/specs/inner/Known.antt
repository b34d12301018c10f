-- Replies that are known, and the operations of a request by its reply.
use Rattle.std.specs.Prelude.{◌≡◌, ◌==◌, ℕ, Bool, true, false, List, [], ◌∷◌, slice_index_or, max, Option, Some, None, if◌then◌else◌}
use Rattle.acpi_values.specs.declared.operation.Chain.{Chain}
use Rattle.acpi_values.specs.declared.operation.Op.{Op}
use Rattle.acpi_values.specs.declared.operation.Op.TheVariants.{Enter}
use Rattle.pw_plan.specs.declared.domain.DomainKind.{DomainKind}
use Rattle.pw_plan.specs.declared.domain.DomainKind.TheVariants as kinds
use Rattle.pw_plan.specs.declared.plan.Plan.{Plan}
use Rattle.pw_plan.specs.declared.request.Request.{Request}
use Rattle.pw_plan.specs.declared.request.Request.TheVariants.{Idle, Wake, Perf, Throttle, PerfLimit, ThrottleLimit}
use Rattle.pw_plan.specs.Requests.{opening_bound}
use Rattle.pw_model.specs.declared.entry.HistoryEntry.{HistoryEntry}
use Rattle.pw_model.specs.declared.reply.Reply.{Reply}
use Rattle.pw_model.specs.declared.reply.Reply.TheVariants.{AboveLimit, Disabled, Entered, NoState, NoTable, Running, Stands, TooSlow, Unfit}
use Rattle.pw_model.specs.declared.state.State.{State}
use Rattle.pw_model.specs.Composites.{composite_of}
use Rattle.pw_model.specs.States.{IsState}
use Rattle.pw_model.specs.History.{replies_from}
use Rattle.pw_core.specs.Chains.{states_in}

-- the replies to these entries, of which the first was asked in state S, are known, or none are
abbrev pub AreKnown : Plan → State → List HistoryEntry → Option (List Reply) → Type 0
AreKnown P S es None = Unit {0}
AreKnown P S es (Some replies) = replies ≡ replies_from P S es

-- of a state of the plan it is kept whole, whether replies are known or not
abbrev pub IsKept : Plan → Bool → State → State → Type 0
IsKept P known S kept = (kept ≡ S) × IsState P S

-- no fewer operations than the opening has, or any request
abbrev pub most_of : Plan → ℕ
most_of P = max (opening_bound P) 256

-- whether this is the reply of a request that is accepted
abbrev pub accepts : Reply → Bool
accepts (Entered c) = true
accepts Running = true
accepts (Stands i) = true
accepts (NoState n) = false
accepts Disabled = false
accepts (AboveLimit l) = false
accepts NoTable = false
accepts (Unfit d why) = false
accepts (TooSlow l) = false

-- what a processor enters by itself in a chain of states
abbrev pub entered_alone : Plan → ℕ → Chain → List Op
entered_alone P p c = if slice_index_or c.states 0 0 == 0 then [] else Enter p (composite_of P p (states_in c)) ∷ []

-- the kind of the domain that a request for a state or a limit is about
abbrev pub kind_of : Request → DomainKind
kind_of (Idle p s t) = kinds.Perf
kind_of (Wake p) = kinds.Perf
kind_of (Perf p i) = kinds.Perf
kind_of (Throttle p i) = kinds.Throttle
kind_of (PerfLimit p n) = kinds.Perf
kind_of (ThrottleLimit p n) = kinds.Throttle
