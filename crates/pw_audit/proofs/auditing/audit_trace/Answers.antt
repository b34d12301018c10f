use Rattle.std.proofs.Common.{List, subst}
use Rattle.pw_script.specs.declared.script.Line.{Line as line}
use Rattle.pw_script.specs.HistoryText.{power_words}
use Rattle.pw_script.specs.Reading.{requests_of}
use Rattle.pw_audit.specs.declared.answer.AuditFault.TheVariants.{TooLong, Wrong, Unfinished}
use Rattle.pw_audit.specs.declared.form.Form.TheVariants.{Trace}
use Rattle.pw_audit.specs.Judging.{Told}
use Rattle.pw_audit.specs.Tracing.{ShowsAs}
use Rattle.pw_audit.specs.inner.Answering.{power_audit}
use Rattle.pw_audit.proofs.Answering.{answer_err, answer_ok, answer_shown}
use Rattle.pw_audit.proofs.Verdicts.{told_long, told_shown, told_unfinished, told_whole, told_wrong}
use Rattle.pw_audit.proofs.auditing.audit_trace.Goals as goal

pub returns : goal.returns
returns c =
    let P = c.args.plan.now in
    let qs = requests_of c.args.script.now.lines in
    let text = c.args.text.now in
    let r = c.audit_as.result in
    let told = subst (λ (ls : List line). Told power_words Trace P (requests_of ls) text r) c.as_slice-lines.ensures c.audit_as.ensures in
    rw c.power_audit.ensures (record {
      shown = answer_shown power_audit (ShowsAs power_words Trace P qs text) _ (λ o entries h. h) r (told_shown power_words Trace P qs text r told);
      whole = answer_ok power_audit r (told_whole power_words Trace P qs text r told);
      long = λ b. answer_err power_audit (TooLong b) r (told_long power_words Trace P qs text b r told);
      wrong = λ k. answer_err power_audit (Wrong k) r (told_wrong power_words Trace P qs text k r told);
      unfinished = λ n. answer_err power_audit (Unfinished n) r (told_unfinished power_words Trace P qs text n r told);
    })
