use Rattle.std.proofs.Common.{ne_eqb}
use Rattle.pw_text.proofs.Putting.{PutsText-stop, PutsText-then}
use Rattle.pw_findings.proofs.putting.put_inner_place.Goals as goal

pub returns-in_err-put_labelled : goal.returns-in_err-put_labelled
returns-in_err-put_labelled g c =
    rw (ne_eqb c.args.at.outer 0 c.if-at-eq0.false, ne_eqb c.args.at.inner 0 c.if-at-eq0-2.false)
    (PutsText-stop _ c.from_residual.result c.from_residual.ensures.0 (rw c.from-2.ensures at c.in_err-put_labelled.ensures))

pub returns : goal.returns
returns g c =
    rw (ne_eqb c.args.at.outer 0 c.if-at-eq0.false, ne_eqb c.args.at.inner 0 c.if-at-eq0-2.false)
    (PutsText-then (rw c.from-2.ensures at c.in_ok-put_labelled.ensures) (rw c.from-3.ensures at c.put_labelled-3.ensures))
