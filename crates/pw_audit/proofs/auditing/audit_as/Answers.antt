use Rattle.pw_audit.proofs.Verdicts.{told_of}
use Rattle.std.proofs.Common.{map}
use Rattle.pw_audit.proofs.auditing.audit_as.Goals as goal

pub returns : goal.returns
returns g c =
    told_of g.T.Audited.words c.args.form c.args.plan.now (map g.T.Audited.ask c.args.lines.now) c.args.text.now c.read_text.result
    c.if-text.false c.read_text.ensures.shown c.read_text.ensures.refuses
