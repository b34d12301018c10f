use Rattle.pw_load.proofs.Outcomes.{stopped_within}
use Rattle.pw_runs.proofs.Steps.{placing_within, planning_within}
use Rattle.pw_runs.proofs.CppcSteps.{plan_by}
use Rattle.pw_base.proofs.Facts.{if_ok, if_err}
use Rattle.pw_runs.proofs.cppc_planned.plan_of.Goals as goal

pub plan_over-made-requires-clause-countable : goal.plan_over-made-requires-clause-countable
plan_over-made-requires-clause-countable g c = rw c.in-Ok.ensures.placed (c.blocks_are_countable.ensures c.args.blocks.now c.requires.writable)

pub returns-in-Err-clause-stopped : goal.returns-in-Err-clause-stopped
returns-in-Err-clause-stopped g c =
    stopped_within g.K.Sink c.args.err.now c.place.new.err (placing_within c.args.blocks.now) c.in-Err.ensures.stopped

pub returns-in-Ok-clause-made : goal.returns-in-Ok-clause-made
returns-in-Ok-clause-made g c =
    if_ok c.plan_over-made.result (λ P made. plan_by c.in-Ok.space c.args.blocks.now P c.in-Ok.ensures.placed c.in-Ok.ensures.distinct made) c.plan_over-made.ensures.made

pub returns-in-Ok-clause-stopped : goal.returns-in-Ok-clause-stopped
returns-in-Ok-clause-stopped g c =
    let within = planning_within c.in-Ok.space c.args.blocks.now c.in-Ok.ensures.placed c.in-Ok.ensures.distinct in
    if_err c.plan_over-made.result (λ status stopped. stopped_within g.K.Sink c.args.err.now c.plan_over-made.new.err within stopped)
    (rw c.in-Ok.ensures.quiet at c.plan_over-made.ensures.stopped)
