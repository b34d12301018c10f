use Rattle.std.proofs.Common.{◌∙◌, codes}
use Rattle.pw_load.specs.Ends.Stops.{without_memory}
use Rattle.pw_load.specs.Ends.Prints.{whole, write_fault}
use Rattle.pw_load.specs.Ends.Does.{stopped, printed}
use Rattle.pw_load.proofs.Outcomes.{ended_printing, ended_saying, ended_within}
use Rattle.pw_tasks.proofs.rewrite.rewrite.Goals as goal

pub returns-in_default-clause-did : goal.returns-in_default-clause-did
returns-in_default-clause-did g c =
    ended_saying g.K.Sink c.args.out.now c.args.err.now c.without_memory.new.err (codes "no memory\n") c.without_memory.result
    (rw c.without_memory.ensures.status (stopped without_memory)) c.without_memory.ensures.line

pub returns-in-Ok-put_all-clause-did : goal.returns-in-Ok-put_all-clause-did
returns-in-Ok-put_all-clause-did g c =
    ended_printing g.K.Sink c.args.out.now c.put_all.new.sink c.args.err.now c.as_slice.result.now 0
    (printed (c.as_slice.ensures.value ∙ c.in-Ok.ensures) whole) c.in-Ok-put_all.ensures.ok

pub returns-clause-did : goal.returns-clause-did
returns-clause-did g c =
    let text = c.as_slice.result.now in
    ended_within g.K.Sink c.args.out.now c.put_all.new.sink c.args.err.now c.write_fault.new.err text (codes "write fault\n") c.write_fault.result
    (λ n. rw c.write_fault.ensures.status (printed (c.as_slice.ensures.value ∙ c.in-Ok.ensures) (write_fault n c.in-Err.ensures.failed))) c.in-Err.ensures.part c.write_fault.ensures.line
