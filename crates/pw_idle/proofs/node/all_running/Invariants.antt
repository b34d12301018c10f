use Rattle.std.proofs.Common.{◌≡◌, map, take}
use Rattle.pw_model.specs.States.{running}
use Rattle.pw_idle.proofs.node.all_running.Given as goal

abbrev pub invariant-loop-child : goal.invariant-loop-child
invariant-loop-child l = l.votes.items ≡ map (λ c. running) (take l._child-index l.children)
