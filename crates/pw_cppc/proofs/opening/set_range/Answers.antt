use Rattle.std.proofs.Common.{◌≡◌, ◌++◌, ap, length-append, arith}
use Rattle.acpi_values.specs.declared.operation.Op.{Op}
use Rattle.pw_base.specs.Room.{Bounded}
use Rattle.pw_cppc.specs.declared.parts.Control.TheVariants as controls
use Rattle.pw_cppc.specs.Operations.{set_on}
use Rattle.pw_cppc.proofs.Counting.{set_on_length}
use Rattle.pw_cppc.proofs.opening.set_range.Goals as goal

pub set_on-requires-2-clause-room : goal.set_on-requires-2-clause-room
set_on-requires-2-clause-room c =
    let P = c.args.plan.now in
    let first = set_on P controls.Minimum c.args.cpu c.lowest.result in
    let pushed : c.set_on.new.ops.elements ≡ c.args.ops.now.elements ++ first = ap (λ (ops : Bounded Op). ops.elements) c.set_on.ensures in
    let same : c.set_on.new.ops.capacity ≡ c.args.ops.now.capacity = ap (λ (ops : Bounded Op). ops.capacity) c.set_on.ensures in
    let more = length-append c.args.ops.now.elements first in
    let count = set_on_length P controls.Minimum c.args.cpu c.lowest.result in
    let room = c.requires.room in
    rw (pushed, same) (omega (arith, more, count, room))
