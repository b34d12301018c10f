use Rattle.std.proofs.Common.{◌≡◌, ◌≤◌, ◌+◌, ◌-◌, ◌++◌, length, drop}
use Rattle.std.specs.List.{flat_map}
use Rattle.pw_cppc.specs.declared.parts.Control.TheVariants.{Desired}
use Rattle.pw_cppc.specs.Operations.{set_on}
use Rattle.pw_cppc.proofs.setting.set_each.Given as goal

abbrev pub invariant-loop-member : goal.invariant-loop-member
invariant-loop-member l = record {
  list : l.ops.elements ++ flat_map (λ p. set_on l.plan Desired p l.value) (drop l.member-index l.members) ≡ l.initial.ops.elements ++ flat_map (λ p. set_on l.plan Desired p l.value) l.members;
  room : length l.ops.elements + (length l.members - l.member-index) ≤ l.ops.capacity;
  capacity : l.ops.capacity ≡ l.initial.ops.capacity;
}
