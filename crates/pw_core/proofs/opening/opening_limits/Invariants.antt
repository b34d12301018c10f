use Rattle.std.proofs.Common.{◌≡◌, map, take}
use Rattle.pw_plan.specs.Parts.{scale_of}
use Rattle.pw_model.specs.States.{opening_limit}
use Rattle.pw_core.proofs.opening.opening_limits.Given as goal

abbrev pub invariant-loop-cpu : goal.invariant-loop-cpu
invariant-loop-cpu l = l.limits.items ≡ map (λ c. opening_limit (scale_of l.kind c)) (take l.cpu l.plan.cpus)
