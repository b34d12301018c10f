use Rattle.std.proofs.Common.{codes, map}
use Rattle.pw_base.specs.Seen.{files_seen}
use Rattle.pw_load.specs.Ends.Does.{stopped}
use Rattle.pw_load.specs.Ends.Stops.{read_fault}
use Rattle.pw_load.proofs.Outcomes.{did_within, ended_saying}
use Rattle.pw_runs.specs.Histories.{history_line}
use Rattle.pw_runs.proofs.AuditSteps.{stops_judging, telling_within}
use Rattle.pw_runs.proofs.auditing.judge.Goals as goal

pub returns-in-Ok-clause-did : goal.returns-in-Ok-clause-did
returns-in-Ok-clause-did g c =
    did_within (telling_within g.T.Audited.words c.args.form (files_seen g.F.Files c.args.files.now) (files_seen g.F.Files c.read_history.new.files) c.args.name.now
    c.args.plan.now (map g.T.Audited.ask c.args.lines.now) c.in-Ok.entries c.in-Ok.ensures.held) c.print_lawful.ensures.did

pub returns-in-Err-Unread-clause-did : goal.returns-in-Err-Unread-clause-did
returns-in-Err-Unread-clause-did g c =
    let rose = rw c.in-Err-Unread.field-0-is at c.in-Err-Unread.ensures.unlawful in
    ended_saying g.K.Sink c.args.out.now c.args.err.now c.read_fault.new.err (codes "read fault\n") c.read_fault.result
    (rw c.read_fault.ensures.status (stopped (read_fault rose))) c.read_fault.ensures.line

pub returns-in-Err-Fault-clause-did : goal.returns-in-Err-Fault-clause-did
returns-in-Err-Fault-clause-did g c =
    let why = rw c.in-Err-Fault.field-0-is at c.in-Err-Fault.ensures.unlawful in
    let fault = c.in-Err-Fault.fault in
    ended_saying g.K.Sink c.args.out.now c.args.err.now c.refuse_history.new.err (history_line fault) c.refuse_history.result
    (rw c.refuse_history.ensures.status (stopped (stops_judging g.T.Audited.words c.args.form (files_seen g.F.Files c.args.files.now) (files_seen g.F.Files c.read_history.new.files) c.args.name.now
    c.args.plan.now (map g.T.Audited.ask c.args.lines.now) fault why))) c.refuse_history.ensures.line
