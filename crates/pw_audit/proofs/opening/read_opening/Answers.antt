use Rattle.std.proofs.Common.{◌≡◌, ◌∙◌, ◌++◌, List, ℕ, length, map, ap, subst, inr, arith}
use Rattle.std.proofs.lemmas.Result.{err_from_is_err_and}
use Rattle.acpi_values.specs.declared.operation.Op.{Op}
use Rattle.pw_text.specs.Lines.{text_of}
use Rattle.pw_text.specs.Openings.{opened}
use Rattle.pw_history.specs.HistoryText.{op_line}
use Rattle.pw_audit.specs.inner.Stopping.{StopsIn, WithinOpening}
use Rattle.pw_audit.proofs.Firsts.{opened_few}
use Rattle.pw_audit.proofs.Lining.{lines_by}
use Rattle.pw_audit.proofs.Refusing.{opening_out, opening_read}
use Rattle.pw_audit.proofs.opening.read_opening.Goals as goal

pub overflow_add-result : goal.overflow_add-result
overflow_add-result g c =
    let size = ap (λ (ops : List Op). length ops) c.opened-done.ensures in
    let few = opened_few c.in-Some.opening c.args.ops.now in
    omega arith

pub returns-then-branch-clause-read : goal.returns-then-branch-clause-read
returns-then-branch-clause-read g c =
    let read = rw c.in-Some.is at c.in_ok-opening.ensures in
    let out = c.in_ok-leaves_out.ensures.out c.if-branch.true in
    opening_out g.T.Audited.words c.args.form c.args.plan.now c.in-Some.opening c.args.text.now c.in-Some.rest.now out.0 out.1 out.2 read.1

pub returns-in_err-next-clause-stops : goal.returns-in_err-next-clause-stops
returns-in_err-next-clause-stops g c =
    let W = g.T.Audited.words in
    let p = err_from_is_err_and c.from_residual-in_err-next.result c.from_residual-in_err-next.ensures.1 in
    let P = c.args.plan.now in
    let o = c.in-Some.opening in
    let read = rw c.in-Some.is at c.in_ok-opening.ensures in
    let done : c.opened-done.result.now ≡ opened o (W.opening_ops P) = c.opened-done.ensures ∙ ap (λ (ops : List Op). opened o ops) c.requires.ops in
    let lines = lines_by W P c.args.paths.now c.requires.paths c.opened-done.result.now ∙ ap (λ (ops : List Op). map (op_line W P) ops) done in
    rw (p.1, p.2)
    (inr (inr (inr (record {
      opening = o;
      within = subst (λ (ops : List Op). WithinOpening (length ops) o) c.requires.ops read.0;
      rest = c.in-Some.rest.now;
      is = read.1;
      stops = subst (λ (ls : List (List ℕ)). StopsIn ls 1 c.in-Some.rest.now c.in_err-next.field-0.0) lines c.in_err-next.ensures.stops;
      has = c.in_ok-leaves_out.ensures.has c.if-branch.false;
    }))))

pub returns-clause-read : goal.returns-clause-read
returns-clause-read g c =
    let W = g.T.Audited.words in
    let P = c.args.plan.now in
    let o = c.in-Some.opening in
    let read = rw c.in-Some.is at c.in_ok-opening.ensures in
    let done : c.opened-done.result.now ≡ opened o (W.opening_ops P) = c.opened-done.ensures ∙ ap (λ (ops : List Op). opened o ops) c.requires.ops in
    let next = c.in_ok-next.next.now in
    let lines = lines_by W P c.args.paths.now c.requires.paths c.opened-done.result.now in
    opening_read W c.args.form P o c.args.text.now c.in-Some.rest.now next c.opened-done.result.now done read.1 (c.in_ok-next.ensures.ok ∙ ap (λ (ls : List (List ℕ)). text_of ls ++ next) lines)
