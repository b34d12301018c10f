use Rattle.std.proofs.Common.{true, ◌∷◌, take, decimal}
use Rattle.std.specs.List.{flat_map}
use Rattle.pw_text.specs.Puts.{PutsText}
use Rattle.pw_script.proofs.words.put_states.Given as goal

abbrev pub invariant-loop-state : goal.invariant-loop-state
invariant-loop-state g l = PutsText g.K.Sink l.initial.sink l.sink l.initial.page l.page (flat_map (λ s. 32 ∷ decimal s) (take l.state-index l.states)) true
