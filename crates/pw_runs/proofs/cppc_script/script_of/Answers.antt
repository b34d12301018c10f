use Rattle.pw_runs.specs.Scripts.{script_line}
use Rattle.pw_runs.proofs.CppcSteps.{stops_parsing}
use Rattle.pw_runs.proofs.cppc_script.script_of.Goals as goal

pub returns-in-Err-clause-stopped : goal.returns-in-Err-clause-stopped
returns-in-Err-clause-stopped g c =
    let fault = c.in-Err.fault in
    record {
      line = script_line fault;
      way = rw c.refuse_script.ensures.status (stops_parsing c.args.plan.now c.args.bytes.now fault c.in-Err.ensures.none);
      said = c.refuse_script.ensures.line;
    }
