use Rattle.std.proofs.Common.{◌≡◌, ◌≤◌, ◌++◌, ◌-◌, true, take, length}
use Rattle.pw_base.specs.Outside.{KeepsSink}
use Rattle.pw_base.proofs.sink.put_all.Given as goal

abbrev pub invariant-loop-done : goal.invariant-loop-done
invariant-loop-done g l = record {
  keeps : KeepsSink g.K.Sink.told g.K.Sink.faults l.initial.sink l.sink;
  within : l.done ≤ length l.bytes;
  taken : g.K.Sink.told l.initial.sink ≡ true → g.K.Sink.written l.sink ≡ g.K.Sink.written l.initial.sink ++ take l.done l.bytes;
}

abbrev pub decreases-loop-done : goal.decreases-loop-done
decreases-loop-done g l = length l.bytes - l.done
