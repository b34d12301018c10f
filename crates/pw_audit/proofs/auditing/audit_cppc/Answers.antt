use Rattle.std.proofs.Common.{List, subst}
use Rattle.pw_cppc_drive.specs.declared.script.CppcLine.{CppcLine as line}
use Rattle.pw_cppc_drive.specs.HistoryText.{performance_words}
use Rattle.pw_cppc_drive.specs.Reading.{requests_of}
use Rattle.pw_audit.specs.declared.answer.AuditFault.TheVariants.{TooLong, Wrong, Unfinished}
use Rattle.pw_audit.specs.declared.form.Form.TheVariants.{History}
use Rattle.pw_audit.specs.Judging.{Shows, Told}
use Rattle.pw_audit.specs.inner.Answering.{performance_audit}
use Rattle.pw_audit.proofs.Answering.{answer_err, answer_ok, answer_shown}
use Rattle.pw_audit.proofs.Histories.{audited_long, audited_shown, audited_unfinished, audited_whole, audited_wrong}
use Rattle.pw_audit.proofs.auditing.audit_cppc.Goals as goal

pub returns : goal.returns
returns c =
    let P = c.args.plan.now in
    let qs = requests_of c.args.script.now.lines in
    let text = c.args.text.now in
    let r = c.audit_as.result in
    let told = subst (λ (ls : List line). Told performance_words History P (requests_of ls) text r) c.as_slice-lines.ensures c.audit_as.ensures in
    rw c.performance_audit.ensures (record {
      shown = answer_shown performance_audit (Shows performance_words P qs text) _ (λ o entries h. h) r (audited_shown performance_words P qs text r told);
      whole = answer_ok performance_audit r (audited_whole performance_words P qs text r told);
      long = λ b. answer_err performance_audit (TooLong b) r (audited_long performance_words P qs text b r told);
      wrong = λ k. answer_err performance_audit (Wrong k) r (audited_wrong performance_words P qs text k r told);
      unfinished = λ n. answer_err performance_audit (Unfinished n) r (audited_unfinished performance_words P qs text n r told);
    })
