use Rattle.pw_check.specs.Refusals.{refusal_line}
use Rattle.pw_load.proofs.Stopping.{stops_planning}
use Rattle.pw_load.proofs.planning.make_plan.Goals as goal

pub returns-in-Err-clause-stopped : goal.returns-in-Err-clause-stopped
returns-in-Err-clause-stopped g c =
    let fault = c.in-Err.fault in
    record {
      line = refusal_line fault;
      way = rw c.refuse_plan.ensures.status (stops_planning c.args.space.now fault c.in-Err.ensures.fault);
      said = c.refuse_plan.ensures.line;
    }
