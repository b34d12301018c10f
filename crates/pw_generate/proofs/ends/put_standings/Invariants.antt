use Rattle.std.proofs.Common.{◌≡◌, ◌-◌, ◌++◌, ℕ, List, true, length}
use Rattle.std.specs.List.{flat_map, range_with_len}
use Rattle.pw_text.specs.Puts.{PutsText}
use Rattle.pw_generate.specs.inner.Ending.{standing_behind, standings_behind}
use Rattle.pw_generate.proofs.ends.put_standings.Given as goal

abbrev pub invariant-loop-place : goal.invariant-loop-place
invariant-loop-place g l =
    (done : List ℕ) × PutsText g.K.Sink l.initial.sink l.sink l.initial.page l.page done true
    × (done ++ flat_map (standing_behind l.plan l.state) (range_with_len l.place (length l.plan.domains - l.place))
    ≡ standings_behind l.plan l.state)
