-- Requests of each kind of states.
use Rattle.std.specs.Prelude.{ℕ}
use Rattle.pw_plan.specs.declared.domain.DomainKind.{DomainKind}
use Rattle.pw_plan.specs.declared.domain.DomainKind.TheVariants as kinds
use Rattle.pw_plan.specs.declared.request.Request.{Request}
use Rattle.pw_plan.specs.declared.request.Request.TheVariants as requests
use Rattle.pw_model.specs.declared.state.ScaleKind.{ScaleKind}
use Rattle.pw_model.specs.declared.state.ScaleKind.TheVariants.{Perf, Throttle}

-- the domains whose members share such states
abbrev pub domain_kind : ScaleKind → DomainKind
domain_kind Perf = kinds.Perf
domain_kind Throttle = kinds.Throttle

-- processor p asks for state i
abbrev pub asking : ScaleKind → ℕ → ℕ → Request
asking Perf p i = requests.Perf p i
asking Throttle p i = requests.Throttle p i

-- processor p is limited to the states from n on
abbrev pub limiting : ScaleKind → ℕ → ℕ → Request
limiting Perf p n = requests.PerfLimit p n
limiting Throttle p n = requests.ThrottleLimit p n
