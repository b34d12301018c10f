use Rattle.std.proofs.Common.{◌≡◌, ◌≤◌, ◌+◌, ◌++◌, length, drop}
use Rattle.std.specs.Prelude.{sum_by}
use Rattle.std.specs.List.{flat_map}
use Rattle.pw_cppc.specs.declared.parts.Control.TheVariants as controls
use Rattle.pw_cppc.specs.Planning.{parts_at}
use Rattle.pw_cppc.specs.Requests.{register_count}
use Rattle.pw_cppc.specs.Operations.{range_ops}
use Rattle.pw_cppc.proofs.opening.set_ranges.Given as goal

abbrev pub invariant-loop-member : goal.invariant-loop-member
invariant-loop-member l = record {
  list : l.ops.elements ++ flat_map (range_ops l.plan) (drop l.member-index l.members) ≡ l.initial.ops.elements ++ flat_map (range_ops l.plan) l.members;
  room : length l.ops.elements + sum_by (λ p. register_count controls.Minimum (parts_at l.plan p) + register_count controls.Maximum (parts_at l.plan p)) (drop l.member-index l.members) ≤
      l.ops.capacity;
  capacity : l.ops.capacity ≡ l.initial.ops.capacity;
}
