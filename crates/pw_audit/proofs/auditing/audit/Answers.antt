use Rattle.std.proofs.Common.{List, subst}
use Rattle.pw_script.specs.declared.script.Line.{Line as line}
use Rattle.pw_script.specs.HistoryText.{power_words}
use Rattle.pw_script.specs.Reading.{requests_of}
use Rattle.pw_audit.specs.declared.answer.AuditFault.TheVariants.{TooLong, Wrong, Unfinished}
use Rattle.pw_audit.specs.declared.form.Form.TheVariants.{History}
use Rattle.pw_audit.specs.Judging.{Shows, Told}
use Rattle.pw_audit.specs.inner.Answering.{power_audit}
use Rattle.pw_audit.proofs.Answering.{answer_err, answer_ok, answer_shown}
use Rattle.pw_audit.proofs.Histories.{audited_long, audited_shown, audited_unfinished, audited_whole, audited_wrong}
use Rattle.pw_audit.proofs.auditing.audit.Goals as goal

pub returns : goal.returns
returns c =
    let P = c.args.plan.now in
    let qs = requests_of c.args.script.now.lines in
    let text = c.args.text.now in
    let r = c.audit_as.result in
    let told = subst (λ (ls : List line). Told power_words History P (requests_of ls) text r) c.as_slice-lines.ensures c.audit_as.ensures in
    rw c.power_audit.ensures (record {
      shown = answer_shown power_audit (Shows power_words P qs text) _ (λ o entries h. h) r (audited_shown power_words P qs text r told);
      whole = answer_ok power_audit r (audited_whole power_words P qs text r told);
      long = λ b. answer_err power_audit (TooLong b) r (audited_long power_words P qs text b r told);
      wrong = λ k. answer_err power_audit (Wrong k) r (audited_wrong power_words P qs text k r told);
      unfinished = λ n. answer_err power_audit (Unfinished n) r (audited_unfinished power_words P qs text n r told);
    })
