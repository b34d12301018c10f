use Rattle.std.proofs.Common.{codes, refl}
use Rattle.pw_base.specs.Seen.{files_seen}
use Rattle.aml_block.specs.Held.{names_of}
use Rattle.pw_load.specs.Ends.Stops.{without_memory}
use Rattle.pw_load.specs.Seen.{all_seen}
use Rattle.pw_load.proofs.Outcomes.{ended_as, ended_saying}
use Rattle.pw_runs.specs.CppcWorkers.Steers.{stopped}
use Rattle.pw_runs.proofs.CppcSteps.{stops_together, works_steer}
use Rattle.pw_runs.proofs.cppc_working.cppc.Goals as goal

pub returns-in_default-clause-did : goal.returns-in_default-clause-did
returns-in_default-clause-did g c =
    ended_saying g.K.Sink c.args.out.now c.args.err.now c.without_memory.new.err (codes "no memory\n") c.without_memory.result
    (rw c.without_memory.ensures.status (stopped without_memory refl)) c.without_memory.ensures.line

pub returns-in-Err-clause-did : goal.returns-in-Err-clause-did
returns-in-Err-clause-did g c =
    let why = c.in-Err.ensures.stopped in
    let before = files_seen g.F.Files c.args.files.now in
    let after = files_seen g.F.Files c.read_given.new.files in
    ended_saying g.K.Sink c.args.out.now c.args.err.now c.read_given.new.err why.line c.in-Err.status
    (stopped (stops_together c.args.script.now (names_of c.args.blocks.now) before after why.way) refl) why.said

pub returns-clause-did : goal.returns-clause-did
returns-clause-did g c =
    let worked = rw c.in-Ok-read_given.ensures.quiet at c.work.ensures.worked in
    let before = all_seen g.F.Files g.K.Sink g.R.Registers c.args.files.now c.args.out.now c.args.err.now c.args.regs in
    let after = all_seen g.F.Files g.K.Sink g.R.Registers c.read_given.new.files c.work.new.out c.work.new.err c.work.result.1 in
    ended_as (works_steer c.args.script.now (names_of c.args.blocks.now) before after
    c.in-Ok-read_given.plan c.in-Ok-read_given.lines.lines c.in-Ok-read_given.ensures.given c.work.result.0) worked
