use Rattle.std.proofs.Common.{inr, ap, codes}
use Rattle.pw_findings.specs.Words.{findings_text}
use Rattle.pw_load.specs.Ends.Stops.{without_memory}
use Rattle.pw_load.specs.Ends.Does.{stopped}
use Rattle.pw_load.proofs.Outcomes.{did_print, ended_saying}
use Rattle.pw_tasks.specs.Tasks.{linting}
use Rattle.pw_tasks.proofs.lint.lint_space.Goals as goal

pub returns-in_default-clause-did : goal.returns-in_default-clause-did
returns-in_default-clause-did g c =
    ended_saying g.K.Sink c.args.out.now c.args.err.now c.without_memory.new.err (codes "no memory\n") c.without_memory.result
    (rw c.without_memory.ensures.status (stopped without_memory)) c.without_memory.ensures.line

pub returns-clause-did : goal.returns-clause-did
returns-clause-did g c =
    rw c.printed.ensures.status (did_print (linting c.args.space.now c.args.passed.now) g.K.Sink c.args.out.now c.print_findings-outcome.new.out c.args.err.now c.printed.new.err
    (findings_text c.deref.result.now) c.print_findings-outcome.result (record {
      found = c.in-Ok.found.items;
      made = c.in-Ok.ensures;
      says = ap findings_text c.deref.ensures.value;
    })
    c.print_findings-outcome.ensures.whole c.print_findings-outcome.ensures.part c.print_findings-outcome.ensures.sink
    (λ memory. inr (c.print_findings-outcome.ensures.memory memory)) c.printed.ensures.line)
