use Rattle.std.proofs.Common.{◌≡◌, ◌≤◌, ◌+◌, ◌*◌, drop}
use Rattle.std.specs.Prelude.{sum_by}
use Rattle.pw_cppc.specs.Requests.{opening_bound, opening_count}
use Rattle.pw_cppc.proofs.plan.CppcPlan.opening_bound.Given as goal

abbrev pub invariant-loop-domain : goal.invariant-loop-domain
invariant-loop-domain l = record {
  counted : l.bound + sum_by (opening_count l.self) (drop l.domain-index l.domain-items) ≡ opening_bound l.self;
  small : l.bound ≤ 768 * l.domain-index;
}
