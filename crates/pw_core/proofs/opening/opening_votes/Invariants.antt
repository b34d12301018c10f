use Rattle.std.proofs.Common.{◌≡◌, map, take}
use Rattle.pw_model.specs.States.{running}
use Rattle.pw_core.proofs.opening.opening_votes.Given as goal

abbrev pub invariant-loop-cpu : goal.invariant-loop-cpu
invariant-loop-cpu l = l.votes.items ≡ map (λ c. running) (take l._cpu-index l._cpu-items)
