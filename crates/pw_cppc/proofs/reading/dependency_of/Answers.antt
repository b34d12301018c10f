use Rattle.pw_cppc.proofs.Read.{absent_below, read_below}
use Rattle.pw_cppc.proofs.reading.dependency_of.Goals as goal

pub returns-in_err-placed : goal.returns-in_err-placed
returns-in_err-placed c =
    let processor = c.in_ok-processor.processor.now in
    rw c.from_residual-in_err-placed.ensures
    (absent_below c.args.space.now c.args.cpu.now processor c.of_segment.result c.in_ok-processor.ensures c.of_segment.ensures c.in_err-placed.ensures)

pub returns : goal.returns
returns c =
    let processor = c.in_ok-processor.processor.now in
    let placed = c.in_ok-placed.placed.now in
    rw c.dependency_in.ensures
    (read_below c.args.space.now c.args.cpu.now processor placed c.of_segment.result c.placed-objects.ensures.distinct c.requires c.in_ok-processor.ensures c.of_segment.ensures c.in_ok-placed.ensures)
