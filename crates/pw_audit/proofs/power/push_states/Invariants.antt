use Rattle.std.proofs.Common.{◌≡◌, ◌∷◌, ◌++◌, take, decimal}
use Rattle.std.specs.List.{flat_map}
use Rattle.pw_audit.proofs.power.push_states.Given as goal

abbrev pub invariant-loop-state : goal.invariant-loop-state
invariant-loop-state l = l.line.items ≡ l.initial.line.items ++ flat_map (λ s. 32 ∷ decimal s) (take l.state-index l.states)
