use Rattle.std.proofs.Common.{◌≡◌, ◌-◌, ◌++◌, ℕ, List, true, length}
use Rattle.std.specs.List.{flat_map, range_with_len}
use Rattle.pw_text.specs.Puts.{PutsText}
use Rattle.pw_generate.specs.inner.Ending.{state_behind, states_behind}
use Rattle.pw_generate.proofs.ends.put_states.Given as goal

abbrev pub invariant-loop-node : goal.invariant-loop-node
invariant-loop-node g l =
    (done : List ℕ) × PutsText g.K.Sink l.initial.sink l.sink l.initial.page l.page done true
    × (done ++ flat_map (state_behind l.plan l.state) (range_with_len l.node (length l.plan.containers - l.node))
    ≡ states_behind l.plan l.state)
