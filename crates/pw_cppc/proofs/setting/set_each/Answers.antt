use Rattle.std.proofs.Common.{◌≡◌, ◌++◌, ℕ, get_or, length-append, ap, ◌∙◌, arith}
use Rattle.acpi_values.specs.declared.operation.Op.{Op}
use Rattle.pw_base.specs.Room.{Bounded}
use Rattle.pw_cppc.specs.declared.parts.Control.TheVariants.{Desired}
use Rattle.pw_cppc.specs.Operations.{set_on}
use Rattle.pw_cppc.proofs.Appending.{appended}
use Rattle.pw_cppc.proofs.Counting.{set_on_le}
use Rattle.pw_cppc.proofs.setting.set_each.Goals as goal

pub loop-member-preserved : goal.loop-member-preserved
loop-member-preserved c =
    let P = c.args.plan.now in
    let p = get_or c.args.members.now c.loop-member.member-index 0 in
    let f = λ (q : ℕ). set_on P Desired q c.args.value in
    let pushed : c.set_on.new.ops.elements ≡ c.loop-member.ops.elements ++ f p = ap (λ (ops : Bounded Op). ops.elements) c.set_on.ensures in
    let same : c.set_on.new.ops.capacity ≡ c.loop-member.ops.capacity = ap (λ (ops : Bounded Op). ops.capacity) c.set_on.ensures in
    let more = length-append c.loop-member.ops.elements (f p) in
    let few = set_on_le P Desired p c.args.value in
    let room = c.loop-member.invariant.room in
    let lt = c.loop-member-test.true in
    record {
      list = rw pushed (appended f c.args.members.now c.loop-member.member-index 0 c.loop-member.ops.elements _ lt c.loop-member.invariant.list);
      room = rw (pushed, same) (omega (arith, more, few, room, lt));
      capacity = same ∙ c.loop-member.invariant.capacity;
    }
