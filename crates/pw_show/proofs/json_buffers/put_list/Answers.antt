use Rattle.std.proofs.Common.{◌∙◌, ap, decimal, sym}
use Rattle.std.specs.List.{flat_map}
use Rattle.pw_text.proofs.Putting.{PutsText-as, PutsText-stop, PutsText-then}
use Rattle.pw_show.specs.inner.Pieces.{comma_number}
use Rattle.pw_show.proofs.Joining.{joined, joined-cons}
use Rattle.pw_show.proofs.json_buffers.put_list.Goals as goal

pub returns-in_err-put_number : goal.returns-in_err-put_number
returns-in_err-put_number g c =
    let first = c.in-Some.first.now in
    let rest = c.in-Some.rest.now in
    PutsText-as _ (sym (ap (joined decimal) c.in-Some.ensures.cases.0 ∙ joined-cons decimal first rest))
    (PutsText-stop (flat_map comma_number rest) c.from_residual.result c.from_residual.ensures.0 (rw c.from.ensures at c.in_err-put_number.ensures))

pub returns : goal.returns
returns g c =
    let first = c.in-Some.first.now in
    let rest = c.in-Some.rest.now in
    PutsText-as _ (sym (ap (joined decimal) c.in-Some.ensures.cases.0 ∙ joined-cons decimal first rest))
    (PutsText-then (rw c.from.ensures at c.in_ok-put_number.ensures) c.put_others.ensures)
