use Rattle.std.proofs.Common.{inr, ap}
use Rattle.pw_check.specs.CheckText.{check_text}
use Rattle.pw_load.proofs.Outcomes.{did_print, did_stop, did_within}
use Rattle.pw_tasks.specs.Tasks.{checking}
use Rattle.pw_tasks.proofs.Parts.{planning_within}
use Rattle.pw_tasks.proofs.check.check_space.Goals as goal

pub returns-in-Err-clause-did : goal.returns-in-Err-clause-did
returns-in-Err-clause-did g c =
    did_within (planning_within c.args.space.now)
    (did_stop g.K.Sink c.args.out.now c.args.err.now c.make_plan.new.err c.in-Err.status c.in-Err.ensures.stopped)

pub returns-in-Ok-clause-did : goal.returns-in-Ok-clause-did
returns-in-Ok-clause-did g c =
    let said = rw c.in-Ok.ensures.quiet at c.printed.ensures.line in
    rw c.printed.ensures.status (did_print (checking c.args.space.now) g.K.Sink c.args.out.now c.print_check-outcome.new.out c.args.err.now c.printed.new.err
    (check_text c.in-Ok.plan c.deref.result.now) c.print_check-outcome.result (record {
      plan = c.in-Ok.plan;
      notes = c.in-Ok.notes.items;
      made = c.in-Ok.ensures.made;
      says =
          ap (check_text c.in-Ok.plan) c.deref.ensures.value;
    })
    c.print_check-outcome.ensures.whole c.print_check-outcome.ensures.part c.print_check-outcome.ensures.sink
    (λ memory. inr (c.print_check-outcome.ensures.memory memory)) said)
