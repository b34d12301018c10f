use Rattle.std.proofs.Common.{codes}
use Rattle.pw_load.specs.Ends.Stops.{without_memory}
use Rattle.pw_load.specs.Ends.Does.{stopped}
use Rattle.pw_load.proofs.Outcomes.{ended_saying}
use Rattle.pw_tasks.proofs.lint.lint_passing.Goals as goal

pub returns-in_default-clause-did : goal.returns-in_default-clause-did
returns-in_default-clause-did g c =
    ended_saying g.K.Sink c.args.out.now c.args.err.now c.without_memory.new.err (codes "no memory\n") c.without_memory.result
    (rw c.without_memory.ensures.status (stopped without_memory)) c.without_memory.ensures.line

pub returns-clause-did : goal.returns-clause-did
returns-clause-did g c = rw (← c.in-Ok.ensures.passed, ← c.deref.ensures.value) c.lint_space.ensures.did
