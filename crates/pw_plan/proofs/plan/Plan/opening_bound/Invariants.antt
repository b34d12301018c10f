use Rattle.std.proofs.Common.{◌≡◌, ◌+◌, drop}
use Rattle.std.specs.Prelude.{sum_by}
use Rattle.pw_plan.specs.Opening.{opening_count}
use Rattle.pw_plan.specs.Requests.{opening_bound}
use Rattle.pw_plan.proofs.plan.Plan.opening_bound.Given as goal

abbrev pub invariant-loop-domain : goal.invariant-loop-domain
invariant-loop-domain l = l.bound + sum_by opening_count (drop l.domain-index l.domain-items) ≡ opening_bound l.self
