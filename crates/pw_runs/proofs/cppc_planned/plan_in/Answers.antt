use Rattle.pw_base.specs.Seen.{files_seen}
use Rattle.aml_block.specs.Held.{names_of}
use Rattle.pw_load.proofs.Outcomes.{stopped_within}
use Rattle.pw_runs.proofs.Steps.{loading_within, mapping_within}
use Rattle.pw_runs.proofs.CppcSteps.{steered_by}
use Rattle.pw_base.proofs.Facts.{if_ok, if_err}
use Rattle.pw_runs.proofs.cppc_planned.plan_in.Goals as goal

pub returns-in-Err-clause-stopped : goal.returns-in-Err-clause-stopped
returns-in-Err-clause-stopped g c =
    let before = files_seen g.F.Files c.args.files.now in
    let after = files_seen g.F.Files c.load.new.files in
    stopped_within g.K.Sink c.args.err.now c.load.new.err (loading_within before after (names_of c.args.names.now)) c.in-Err.ensures.stopped

pub returns-in-Ok-clause-steered : goal.returns-in-Ok-clause-steered
returns-in-Ok-clause-steered g c =
    let before = files_seen g.F.Files c.args.files.now in
    if_ok c.plan_of-made.result (λ P by. steered_by before (names_of c.args.names.now) c.in-Ok.blocks.items P c.in-Ok.ensures.held by)
    (rw c.deref.ensures.value at c.plan_of-made.ensures.made)

pub returns-in-Ok-clause-stopped : goal.returns-in-Ok-clause-stopped
returns-in-Ok-clause-stopped g c =
    let before = files_seen g.F.Files c.args.files.now in
    let after = files_seen g.F.Files c.load.new.files in
    let within = mapping_within before after (names_of c.args.names.now) c.in-Ok.blocks.items c.in-Ok.ensures.held in
    if_err c.plan_of-made.result (λ status stopped. stopped_within g.K.Sink c.args.err.now c.plan_of-made.new.err within stopped)
    (rw (c.deref.ensures.value, c.in-Ok.ensures.quiet) at c.plan_of-made.ensures.stopped)
