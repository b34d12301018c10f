use Rattle.std.proofs.Common.{◌≡◌, map, drop, max}
use Rattle.std.specs.Prelude.{fold}
use Rattle.pw_plan.specs.Parts.{scale_of}
use Rattle.pw_plan.specs.Places.{cpu_at}
use Rattle.pw_model.specs.States.{opening_limit}
use Rattle.pw_core.proofs.opening.slowest_limit.Given as goal

abbrev pub invariant-loop-member : goal.invariant-loop-member
invariant-loop-member l =
    fold max l.limit (map (λ p. opening_limit (scale_of l.kind (cpu_at l.plan p))) (drop l.member-index l.members))
    ≡ fold max 0 (map (λ p. opening_limit (scale_of l.kind (cpu_at l.plan p))) l.members)
