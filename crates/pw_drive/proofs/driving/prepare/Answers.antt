use Rattle.std.proofs.Common.{ap}
use Rattle.acpi_values.specs.declared.operation.Op.{Op}
use Rattle.pw_base.specs.Room.{Bounded}
use Rattle.pw_drive.proofs.Requesting.{stands_first}
use Rattle.pw_drive.proofs.driving.prepare.Goals as goal

pub returns-clause-stands : goal.returns-clause-stands
returns-clause-stands c = stands_first c.args.plan.now c.in_ok-records.records c.in_ok-records.ensures.of c.in_ok-records.ensures.parts

pub returns-clause-room : goal.returns-clause-room
returns-clause-room c =
    let same = ap (λ (b : Bounded Op). b.capacity) c.in_ok-ops.ensures in
    rw same c.most_operations.ensures.requests
