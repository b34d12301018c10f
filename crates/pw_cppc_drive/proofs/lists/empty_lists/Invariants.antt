use Rattle.std.proofs.Common.{◌≡◌, []}
use Rattle.std.specs.Prelude.{vec_capacity}
use Rattle.pw_cppc_drive.specs.inner.Lists.{AreLists}
use Rattle.pw_cppc_drive.proofs.lists.empty_lists.Given as goal

abbrev pub invariant-loop : goal.invariant-loop
invariant-loop l = record {
  empty : AreLists [] l.counter l.lists.items;
  room : vec_capacity l.lists ≡ l.count;
}
