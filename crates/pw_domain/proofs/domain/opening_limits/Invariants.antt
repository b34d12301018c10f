use Rattle.std.proofs.Common.{◌≡◌, map, take}
use Rattle.pw_plan.specs.Parts.{scale_of}
use Rattle.pw_plan.specs.Places.{cpu_at}
use Rattle.pw_model.specs.States.{opening_limit}
use Rattle.pw_domain.proofs.domain.opening_limits.Given as goal

abbrev pub invariant-loop-member : goal.invariant-loop-member
invariant-loop-member l = l.limits.items ≡ map (λ p. opening_limit (scale_of l.kind (cpu_at l.plan p))) (take l.member-index l.members)
