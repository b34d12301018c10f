use Rattle.std.proofs.Common.{◌≡◌, ◌++◌, map, take}
use Rattle.pw_model.specs.Operations.{set_on}
use Rattle.pw_core.proofs.setting.set_each.Given as goal

abbrev pub invariant-loop-member : goal.invariant-loop-member
invariant-loop-member l = record {
  list : l.ops.elements ≡ l.initial.ops.elements ++ map (set_on l.plan l.kind l.state) (take l.member-index l.members);
  capacity : l.ops.capacity ≡ l.initial.ops.capacity;
}
