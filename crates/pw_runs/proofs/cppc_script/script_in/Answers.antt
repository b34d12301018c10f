use Rattle.std.proofs.Common.{codes}
use Rattle.pw_base.specs.Seen.{files_seen}
use Rattle.pw_load.specs.Ends.Stops.{read_fault, without_memory}
use Rattle.pw_load.proofs.Outcomes.{stopped_within}
use Rattle.pw_runs.proofs.CppcCuts.{held_if, parsing_within}
use Rattle.pw_base.proofs.Facts.{if_err}
use Rattle.pw_runs.proofs.cppc_script.script_in.Goals as goal

pub returns-in-Err-ReadFault-clause-stopped : goal.returns-in-Err-ReadFault-clause-stopped
returns-in-Err-ReadFault-clause-stopped g c =
    let rose = c.in-Err-ReadFault.ensures.failed c.in-Err-ReadFault.field-0-is in
    record { line = codes "read fault\n"; way = rw c.read_fault.ensures.status (read_fault rose); said = c.read_fault.ensures.line }

pub returns-in-Err-Memory-clause-stopped : goal.returns-in-Err-Memory-clause-stopped
returns-in-Err-Memory-clause-stopped g c =
    record { line = codes "no memory\n"; way = rw c.without_memory.ensures.status without_memory; said = c.without_memory.ensures.line }

pub returns-in-Ok-clause-held : goal.returns-in-Ok-clause-held
returns-in-Ok-clause-held g c =
    let read = rw c.deref.ensures.value at c.script_of.ensures.script in
    held_if c.args.plan.now c.in-Ok.bytes.items (g.F.Files.told c.args.files.now) (g.F.Files.holds c.args.files.now c.args.name.now) c.script_of.result c.in-Ok.ensures.content read

pub returns-in-Ok-clause-stopped : goal.returns-in-Ok-clause-stopped
returns-in-Ok-clause-stopped g c =
    let within = parsing_within c.args.plan.now c.in-Ok.bytes.items (files_seen g.F.Files c.args.files.now) (files_seen g.F.Files c.read_all.new.files) c.args.name.now
    c.in-Ok.ensures.content in
    if_err c.script_of.result (λ status stopped. stopped_within g.K.Sink c.args.err.now c.script_of.new.err within stopped)
    (rw c.deref.ensures.value at c.script_of.ensures.stopped)
