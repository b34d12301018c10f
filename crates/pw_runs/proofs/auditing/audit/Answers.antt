use Rattle.std.proofs.Common.{codes}
use Rattle.pw_base.specs.Seen.{files_seen}
use Rattle.aml_block.specs.Held.{names_of}
use Rattle.pw_load.specs.Ends.Does.{stopped}
use Rattle.pw_load.specs.Ends.Stops.{without_memory}
use Rattle.pw_load.proofs.Outcomes.{did_within, ended_saying}
use Rattle.pw_runs.proofs.AuditSteps.{judging_within, stops_given}
use Rattle.pw_runs.proofs.auditing.audit.Goals as goal

pub returns-in_default-clause-did : goal.returns-in_default-clause-did
returns-in_default-clause-did g c =
    ended_saying g.K.Sink c.args.out.now c.args.err.now c.without_memory.new.err (codes "no memory\n") c.without_memory.result
    (rw c.without_memory.ensures.status (stopped without_memory)) c.without_memory.ensures.line

pub returns-in-Err-clause-did : goal.returns-in-Err-clause-did
returns-in-Err-clause-did g c =
    let why = c.in-Err.ensures.stopped in
    let given = stops_given c.args.form c.args.step c.args.script.now c.args.history.now (names_of c.args.blocks.now)
    (files_seen g.F.Files c.args.files.now) (files_seen g.F.Files c.read_given.new.files) why.way in
    ended_saying g.K.Sink c.args.out.now c.args.err.now c.read_given.new.err why.line c.in-Err.status (stopped given) why.said

pub returns-clause-did : goal.returns-clause-did
returns-clause-did g c =
    let within = judging_within c.args.form g.F.Files c.args.files.now c.read_given.new.files c.judge-status.new.files c.read_given.ensures.keeps_files c.args.history.now
    c.args.step c.args.script.now (names_of c.args.blocks.now) c.in-Ok-read_given.plan c.in-Ok-read_given.script.lines c.in-Ok-read_given.ensures.given in
    did_within within (rw (c.in-Ok-read_given.ensures.quiet, c.as_slice-lines.ensures) at c.judge-status.ensures.did)
