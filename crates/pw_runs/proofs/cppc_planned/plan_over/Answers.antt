use Rattle.std.proofs.Common.{codes}
use Rattle.pw_load.specs.Ends.Stops.{without_memory}
use Rattle.pw_runs.proofs.cppc_planned.plan_over.Goals as goal

pub returns-in-Err-made-clause-stopped : goal.returns-in-Err-made-clause-stopped
returns-in-Err-made-clause-stopped g c =
    let said = rw c.in-Ok.ensures.quiet at c.without_memory.ensures.line in
    record { line = codes "no memory\n"; way = rw c.without_memory.ensures.status without_memory; said = said }
