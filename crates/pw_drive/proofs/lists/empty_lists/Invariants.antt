use Rattle.std.proofs.Common.{◌≡◌, [], length}
use Rattle.std.specs.Prelude.{vec_capacity}
use Rattle.pw_drive.specs.inner.Lists.{AreLists}
use Rattle.pw_drive.proofs.lists.empty_lists.Given as goal

abbrev pub invariant-loop-count : goal.invariant-loop-count
invariant-loop-count l = record {
  empty : AreLists [] l.count-index l.lists.items;
  room : vec_capacity l.lists ≡ length l.counts;
}
