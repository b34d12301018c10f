use Rattle.std.proofs.Common.{codes, refl}
use Rattle.pw_load.specs.Ends.Does.{printed}
use Rattle.pw_load.specs.Ends.Prints.{whole, write_fault}
use Rattle.pw_load.proofs.Outcomes.{ended_printing, ended_within}
use Rattle.pw_runs.specs.Histories.{lawful_line}
use Rattle.pw_runs.proofs.Sent.{sent_part, sent_whole}
use Rattle.pw_runs.proofs.audit_print.print_lawful.Goals as goal

pub returns-in-Ok-clause-did : goal.returns-in-Ok-clause-did
returns-in-Ok-clause-did g c =
    ended_printing g.K.Sink c.args.out.now c.put_lawful.new.sink c.args.err.now (lawful_line c.args.entries) 0 (printed refl whole)
    (sent_whole c.requires c.put_lawful.ensures.empty c.in-Ok.ensures.text)

pub returns-in-Err-clause-did : goal.returns-in-Err-clause-did
returns-in-Err-clause-did g c =
    let put = c.in-Err.ensures.text in
    ended_within g.K.Sink c.args.out.now c.put_lawful.new.sink c.args.err.now c.write_fault.new.err (lawful_line c.args.entries) (codes "write fault\n") c.write_fault.result
    (λ n. rw c.write_fault.ensures.status (printed refl (write_fault n (put.failed refl)))) (sent_part c.requires put) c.write_fault.ensures.line
