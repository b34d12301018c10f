use Rattle.std.proofs.Common.{List, subst}
use Rattle.pw_cppc_drive.specs.declared.script.CppcLine.{CppcLine as line}
use Rattle.pw_cppc_drive.specs.HistoryText.{performance_words}
use Rattle.pw_cppc_drive.specs.Reading.{requests_of}
use Rattle.pw_audit.specs.declared.answer.AuditFault.TheVariants.{TooLong, Wrong, Unfinished}
use Rattle.pw_audit.specs.declared.form.Form.TheVariants.{Trace}
use Rattle.pw_audit.specs.Judging.{Told}
use Rattle.pw_audit.specs.Tracing.{ShowsAs}
use Rattle.pw_audit.specs.inner.Answering.{performance_audit}
use Rattle.pw_audit.proofs.Answering.{answer_err, answer_ok, answer_shown}
use Rattle.pw_audit.proofs.Verdicts.{told_long, told_shown, told_unfinished, told_whole, told_wrong}
use Rattle.pw_audit.proofs.auditing.audit_cppc_trace.Goals as goal

pub returns : goal.returns
returns c =
    let P = c.args.plan.now in
    let qs = requests_of c.args.script.now.lines in
    let text = c.args.text.now in
    let r = c.audit_as.result in
    let told = subst (λ (ls : List line). Told performance_words Trace P (requests_of ls) text r) c.as_slice-lines.ensures c.audit_as.ensures in
    rw c.performance_audit.ensures (record {
      shown = answer_shown performance_audit (ShowsAs performance_words Trace P qs text) _ (λ o entries h. h) r (told_shown performance_words Trace P qs text r told);
      whole = answer_ok performance_audit r (told_whole performance_words Trace P qs text r told);
      long = λ b. answer_err performance_audit (TooLong b) r (told_long performance_words Trace P qs text b r told);
      wrong = λ k. answer_err performance_audit (Wrong k) r (told_wrong performance_words Trace P qs text k r told);
      unfinished = λ n. answer_err performance_audit (Unfinished n) r (told_unfinished performance_words Trace P qs text n r told);
    })
