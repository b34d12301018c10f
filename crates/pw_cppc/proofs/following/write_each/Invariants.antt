use Rattle.std.proofs.Common.{◌≡◌, drop, length}
use Rattle.pw_cppc.specs.inner.Stood.{written}
use Rattle.pw_cppc.proofs.following.write_each.Given as goal

abbrev pub invariant-loop-place : goal.invariant-loop-place
invariant-loop-place l = record {
  rest : written l.stood (drop l.place-index l.places) l.value ≡ written l.initial.stood l.places l.value;
  size : length l.stood ≡ length l.initial.stood;
}
