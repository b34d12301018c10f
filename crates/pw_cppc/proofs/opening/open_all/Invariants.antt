use Rattle.std.proofs.Common.{◌≡◌, ◌≤◌, ◌+◌, ◌-◌, ◌++◌, length, drop}
use Rattle.std.specs.Prelude.{sum_by}
use Rattle.std.specs.List.{flat_map, range_with_len}
use Rattle.pw_cppc.specs.Requests.{opening_count}
use Rattle.pw_cppc.specs.Operations.{opening_ops, opening_ops_of}
use Rattle.pw_cppc.proofs.opening.open_all.Given as goal

abbrev pub invariant-loop-place : goal.invariant-loop-place
invariant-loop-place l = record {
  list : l.ops.elements ++ flat_map (opening_ops_of l.plan) (range_with_len l.place (length l.plan.domains - l.place)) ≡ l.initial.ops.elements ++ opening_ops l.plan;
  room : length l.ops.elements + sum_by (opening_count l.plan) (drop l.place l.plan.domains) ≤ l.ops.capacity;
  capacity : l.ops.capacity ≡ l.initial.ops.capacity;
}
