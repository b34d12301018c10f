use Rattle.std.proofs.Common.{codes}
use Rattle.pw_base.specs.Seen.{files_seen}
use Rattle.pw_load.specs.Ends.Stops.{read_fault}
use Rattle.pw_runs.specs.Scripts.{script_line}
use Rattle.pw_runs.proofs.Steps.{stops_scripting}
use Rattle.pw_runs.proofs.given.script_in.Goals as goal

pub returns-in-Err-Unread-clause-stopped : goal.returns-in-Err-Unread-clause-stopped
returns-in-Err-Unread-clause-stopped g c =
    let rose = rw c.in-Err-Unread.field-0-is at c.in-Err-Unread.ensures.missing in
    record { line = codes "read fault\n"; way = rw c.read_fault.ensures.status (read_fault rose); said = c.read_fault.ensures.line }

pub returns-in-Err-Fault-clause-stopped : goal.returns-in-Err-Fault-clause-stopped
returns-in-Err-Fault-clause-stopped g c =
    let why = rw c.in-Err-Fault.field-0-is at c.in-Err-Fault.ensures.missing in
    let fault = c.in-Err-Fault.fault in
    record {
      line = script_line fault;
      way = rw c.refuse_script.ensures.status
          (stops_scripting (files_seen g.F.Files c.args.files.now) (files_seen g.F.Files c.read_script.new.files) c.args.plan.now c.args.step c.args.name.now fault why);
      said = c.refuse_script.ensures.line;
    }
