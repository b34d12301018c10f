use Rattle.std.proofs.Common.{◌≡◌, ◌++◌, ◌-◌, map}
use Rattle.std.specs.List.{range_with_len}
use Rattle.pw_cppc.specs.inner.Stood.{stood_by}
use Rattle.pw_cppc.proofs.following.stood_by_all.Given as goal

abbrev pub invariant-loop-cpu : goal.invariant-loop-cpu
invariant-loop-cpu l =
    l.stood.items ++ map (stood_by l.plan l.numbers) (range_with_len l.cpu (l.count - l.cpu)) ≡ map (stood_by l.plan l.numbers) (range_with_len 0 l.count)
