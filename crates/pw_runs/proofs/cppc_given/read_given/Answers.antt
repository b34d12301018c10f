use Rattle.pw_base.specs.Seen.{files_seen}
use Rattle.aml_block.specs.Held.{names_of}
use Rattle.pw_load.proofs.Outcomes.{stopped_within}
use Rattle.pw_runs.proofs.CppcSteps.{given_by, readying_within, scripting_within}
use Rattle.pw_base.proofs.Facts.{if_err}
use Rattle.pw_runs.proofs.cppc_given.read_given.Goals as goal

pub returns-in-Err-clause-stopped : goal.returns-in-Err-clause-stopped
returns-in-Err-clause-stopped g c =
    let before = files_seen g.F.Files c.args.files.now in
    let after = files_seen g.F.Files c.plan_in.new.files in
    let within = readying_within c.args.script.now (names_of c.args.blocks.now) before after in
    stopped_within g.K.Sink c.args.err.now c.plan_in.new.err within c.in-Err.ensures.stopped

pub returns-in-Ok-clause-given : goal.returns-in-Ok-clause-given
returns-in-Ok-clause-given g c =
    given_by g.F.Files c.args.files.now c.plan_in.new.files c.plan_in.ensures.keeps_files c.args.script.now (names_of c.args.blocks.now) c.in-Ok.plan c.with_script.result
    c.in-Ok.ensures.steered c.with_script.ensures.plan c.with_script.ensures.held c.with_script.ensures.bounded

pub returns-in-Ok-clause-stopped : goal.returns-in-Ok-clause-stopped
returns-in-Ok-clause-stopped g c =
    let within = scripting_within g.F.Files c.args.files.now c.plan_in.new.files c.with_script.new.files c.plan_in.ensures.keeps_files
    c.args.script.now (names_of c.args.blocks.now) c.in-Ok.plan c.in-Ok.ensures.steered in
    if_err c.with_script.result (λ status stopped. stopped_within g.K.Sink c.args.err.now c.with_script.new.err within stopped)
    (rw c.in-Ok.ensures.quiet at c.with_script.ensures.stopped)
