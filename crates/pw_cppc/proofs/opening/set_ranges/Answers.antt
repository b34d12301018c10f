use Rattle.std.proofs.Common.{◌≡◌, ◌++◌, ◌+◌, ℕ, get_or, length-append, ap, ◌∙◌, arith}
use Rattle.std.proofs.lemmas.List.Sums.{sum_by-drop_more}
use Rattle.acpi_values.specs.declared.operation.Op.{Op}
use Rattle.pw_base.specs.Room.{Bounded}
use Rattle.pw_cppc.specs.declared.parts.Control.TheVariants as controls
use Rattle.pw_cppc.specs.Planning.{parts_at}
use Rattle.pw_cppc.specs.Requests.{register_count}
use Rattle.pw_cppc.specs.Operations.{range_ops}
use Rattle.pw_cppc.proofs.Appending.{appended}
use Rattle.pw_cppc.proofs.Counting.{range_ops_length}
use Rattle.pw_cppc.proofs.opening.set_ranges.Goals as goal

pub set_range-requires-clause-room : goal.set_range-requires-clause-room
set_range-requires-clause-room c =
    let P = c.args.plan.now in
    let count = λ (p : ℕ). register_count controls.Minimum (parts_at P p) + register_count controls.Maximum (parts_at P p) in
    let room = c.loop-member.invariant.room in
    let later = sum_by-drop_more count c.args.members.now c.loop-member.member-index 0 c.loop-member-test.true in
    omega (arith, room, later)

pub loop-member-preserved : goal.loop-member-preserved
loop-member-preserved c =
    let P = c.args.plan.now in
    let p = get_or c.args.members.now c.loop-member.member-index 0 in
    let count = λ (q : ℕ). register_count controls.Minimum (parts_at P q) + register_count controls.Maximum (parts_at P q) in
    let pushed : c.set_range.new.ops.elements ≡ c.loop-member.ops.elements ++ range_ops P p = ap (λ (ops : Bounded Op). ops.elements) c.set_range.ensures in
    let same : c.set_range.new.ops.capacity ≡ c.loop-member.ops.capacity = ap (λ (ops : Bounded Op). ops.capacity) c.set_range.ensures in
    let more = length-append c.loop-member.ops.elements (range_ops P p) in
    let few = range_ops_length P p in
    let later = sum_by-drop_more count c.args.members.now c.loop-member.member-index 0 c.loop-member-test.true in
    let room = c.loop-member.invariant.room in
    record {
      list = rw pushed (appended (range_ops P) c.args.members.now c.loop-member.member-index 0 c.loop-member.ops.elements _ c.loop-member-test.true c.loop-member.invariant.list);
      room = rw (pushed, same) (omega (arith, more, few, room, later));
      capacity = same ∙ c.loop-member.invariant.capacity;
    }
