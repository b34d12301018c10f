use Rattle.std.proofs.Common.{◌∙◌}
use Rattle.pw_text.proofs.Putting.{PutsText-as}
use Rattle.pw_show.proofs.Escapes.{within_quotes}
use Rattle.pw_show.proofs.Putting.{fault_is, puts_done, puts_failed, puts_nothing}
use Rattle.pw_show.proofs.json_strings.put_others.Goals as goal

pub inside-requires : goal.inside-requires
inside-requires g c = (within_quotes c.args.bytes.now c.as_slice.result.now (c.as_slice.ensures.value ∙ c.in_ok-text.ensures)).0

pub returns-in_err-text : goal.returns-in_err-text
returns-in_err-text g c = puts_nothing _ (fault_is c.from_residual.result _ c.from_residual.ensures.1)

pub returns-in_err-put : goal.returns-in_err-put
returns-in_err-put g c =
    let inside = within_quotes c.args.bytes.now c.as_slice.result.now (c.as_slice.ensures.value ∙ c.in_ok-text.ensures) in
    puts_failed (fault_is c.from_residual-in_err-put.result _ c.from_residual-in_err-put.ensures.1)
    (PutsText-as _ (c.inside.ensures ∙ inside.1) c.in_err-put.ensures)

pub returns : goal.returns
returns g c =
    let inside = within_quotes c.args.bytes.now c.as_slice.result.now (c.as_slice.ensures.value ∙ c.in_ok-text.ensures) in
    puts_done _ (PutsText-as _ (c.inside.ensures ∙ inside.1) c.in_ok-put.ensures)
