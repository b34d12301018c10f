use Rattle.std.proofs.Common.{map}
use Rattle.pw_runs.proofs.Held.{audited, unaudited}
use Rattle.pw_runs.proofs.history.count_entries.Goals as goal

pub returns-in-Ok-clause-whole : goal.returns-in-Ok-clause-whole
returns-in-Ok-clause-whole g c =
    rw c.as_slice.ensures (rw c.in-Ok.is at (audited g.T.Audited.words c.args.form c.args.plan.now (map g.T.Audited.ask c.args.lines.now) c.args.bytes.now c.audit_as.result c.audit_as.ensures))

pub returns-in-Err-clause-none : goal.returns-in-Err-clause-none
returns-in-Err-clause-none g c =
    rw c.in-Err.is at (unaudited g.T.Audited.words c.args.form c.args.plan.now (map g.T.Audited.ask c.args.lines.now) c.args.bytes.now c.audit_as.result c.audit_as.ensures)
