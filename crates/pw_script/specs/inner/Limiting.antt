-- What of a state decides the limits that notifications ask for.
use Rattle.std.specs.Prelude.{◌≡◌}
use Rattle.pw_model.specs.declared.state.State.{State}

-- both have the same limits
abbrev pub SameLimits : State → State → Type 0
SameLimits S T = (S.perf_limits ≡ T.perf_limits) × (S.throttle_limits ≡ T.throttle_limits)
