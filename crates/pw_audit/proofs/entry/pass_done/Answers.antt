use Rattle.std.proofs.Common.{◌∙◌, ◌++◌, ap, sym, subst}
use Rattle.std.specs.Prelude.{IfErr, IfOk, Result, Ok, Err}
use Rattle.pw_text.specs.Lines.{text_of}
use Rattle.pw_audit.specs.declared.form.Form.{Form}
use Rattle.pw_audit.specs.inner.Stopping.{OpsRead, StopsIn, StopsInOps}
use Rattle.pw_audit.proofs.Lining.{lines_by}
use Rattle.pw_audit.proofs.Passing.{listed_read, listed_stops}
use Rattle.pw_audit.proofs.entry.pass_done.Goals as goal

if_err_more : {X E : Type 0} {A B : E → Type 0} (r : Result X E) → ((e : E) → A e → B e) → IfErr r A → IfErr r B
if_err_more (Ok x) f h = tt
if_err_more (Err e) f h = f e h

if_ok_more : {X E : Type 0} {A B : X → Type 0} (r : Result X E) → ((x : X) → A x → B x) → IfOk r A → IfOk r B
if_ok_more (Ok x) f h = f x h
if_ok_more (Err e) f h = tt

pub returns-in-History-clause-ok : goal.returns-in-History-clause-ok
returns-in-History-clause-ok g c =
    let W = g.T.Audited.words in
    let P = c.args.plan.now in
    let lines = lines_by W P c.args.paths.now c.requires.paths.named c.args.done.now in
    subst (λ (form : Form). IfOk c.pass_ops.result (λ rest. OpsRead W form P c.args.done.now c.args.left.now rest.now)) (sym c.in-History.is)
    (if_ok_more c.pass_ops.result (λ rest h. listed_read W P c.args.done.now c.args.left.now rest.now (h ∙ ap (λ ls. text_of ls ++ rest.now) lines)) c.pass_ops.ensures.ok)

pub returns-in-History-clause-stops : goal.returns-in-History-clause-stops
returns-in-History-clause-stops g c =
    let W = g.T.Audited.words in
    let P = c.args.plan.now in
    let lines = lines_by W P c.args.paths.now c.requires.paths.named c.args.done.now in
    subst (λ (form : Form). IfErr c.pass_ops.result (StopsInOps W form P c.args.done.now c.args.before c.args.left.now)) (sym c.in-History.is)
    (if_err_more c.pass_ops.result (λ e h. listed_stops W P c.args.done.now c.args.before c.args.left.now e (subst (λ ls. StopsIn ls c.args.before c.args.left.now e) lines h))
    c.pass_ops.ensures.stops)
