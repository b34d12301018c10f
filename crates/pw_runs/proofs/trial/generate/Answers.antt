use Rattle.std.proofs.Common.{codes}
use Rattle.pw_regs.specs.Seen.{registers_seen}
use Rattle.pw_load.specs.Seen.{outputs_seen}
use Rattle.pw_load.proofs.Outcomes.{ended_as, ended_saying}
use Rattle.pw_runs.specs.Trials.Generates.{undone}
use Rattle.pw_runs.proofs.Trying.{tried}
use Rattle.pw_runs.proofs.trial.generate.Goals as goal
use Rattle.std.proofs.Common.{refl}

pub run-requires-clause-few : goal.run-requires-clause-few
run-requires-clause-few g c κs within = rw c.in-Ok.ensures.load (c.generated_loads_fit.ensures.lines c.args.n c.requires)

pub run-requires-clause-has : goal.run-requires-clause-has
run-requires-clause-has g c κs within =
    let machine = c.in-Ok.ensures.plan in
    let plan = c.generated_machines_have_plans.ensures.plan c.args.n c.in-Ok.plan machine.notes c.requires machine.made in
    rw c.in-Ok.ensures.load (c.generated_loads_fit.ensures.fit c.args.n c.in-Ok.plan plan.1)

pub returns-in_default-clause-did : goal.returns-in_default-clause-did
returns-in_default-clause-did g c =
    ended_saying g.K.Sink c.args.out.now c.args.err.now c.without_memory.new.err (codes "no memory\n") c.without_memory.result
    (rw c.without_memory.ensures.status (undone refl refl)) c.without_memory.ensures.line

pub returns-clause-did : goal.returns-clause-did
returns-clause-did g c =
    let machine = c.in-Ok.ensures.plan in
    let plan = c.generated_machines_have_plans.ensures.plan c.args.n c.in-Ok.plan machine.notes c.requires machine.made in
    let few = c.generated_loads_fit.ensures.operations c.args.n c.in-Ok.plan c.requires plan.1 in
    let ran = rw c.in-Ok.ensures.load at c.run.ensures.ran in
    ended_as (tried c.args.n c.in-Ok.plan c.run.result.sealed (outputs_seen g.K.Sink c.args.out.now c.args.err.now) (outputs_seen g.K.Sink c.run.new.out c.run.new.err)
    (registers_seen g.R.Registers c.args.regs) (registers_seen g.R.Registers c.run.result.regs) c.requires machine few c.run.result.status) ran
