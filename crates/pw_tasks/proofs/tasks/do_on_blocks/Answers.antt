use Rattle.std.proofs.Common.{codes}
use Rattle.pw_base.specs.Seen.{files_seen}
use Rattle.aml_block.specs.Held.{names_of}
use Rattle.pw_load.specs.Ends.Stops.{without_memory}
use Rattle.pw_load.specs.Ends.Does.{stopped}
use Rattle.pw_load.proofs.Outcomes.{did_stop, did_within, ended_saying}
use Rattle.pw_tasks.proofs.Parts.{loading_within, over_within}
use Rattle.pw_tasks.proofs.tasks.do_on_blocks.Goals as goal

pub returns-in_default-clause-did : goal.returns-in_default-clause-did
returns-in_default-clause-did g c =
    ended_saying g.K.Sink c.args.out.now c.args.err.now c.without_memory.new.err (codes "no memory\n") c.without_memory.result
    (rw c.without_memory.ensures.status (stopped without_memory)) c.without_memory.ensures.line

pub returns-in-Err-clause-did : goal.returns-in-Err-clause-did
returns-in-Err-clause-did g c =
    let before = files_seen g.F.Files c.args.files.now in
    let after = files_seen g.F.Files c.load.new.files in
    did_within (loading_within c.args.task (names_of c.args.names.now) before after)
    (did_stop g.K.Sink c.args.out.now c.args.err.now c.load.new.err c.in-Err.status c.in-Err.ensures.stopped)

pub returns-clause-did : goal.returns-clause-did
returns-clause-did g c =
    let before = files_seen g.F.Files c.args.files.now in
    let after = files_seen g.F.Files c.load.new.files in
    let did = rw (c.deref.ensures.value, c.in-Ok-load.ensures.quiet) at c.do_over-status.ensures.did in
    did_within (over_within c.args.task (names_of c.args.names.now) before after c.in-Ok-load.blocks.items c.in-Ok-load.ensures.held) did
