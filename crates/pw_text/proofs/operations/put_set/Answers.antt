use Rattle.pw_text.proofs.Putting.{PutsText-as, PutsText-stop, PutsText-then}
use Rattle.pw_text.proofs.operations.put_set.Goals as goal
use Rattle.pw_text.specs.Paths.{text_at}
use Rattle.pw_text.proofs.Operated.{set_line}

pub returns-in_err-put : goal.returns-in_err-put
returns-in_err-put g c = PutsText-as _ (set_line (text_at c.args.paths.now) c.args.cpu c.args.register.now c.args.value)
    (PutsText-stop _ c.from_residual.result c.from_residual.ensures.0 c.in_err-put.ensures)

pub returns-in_err-put_place : goal.returns-in_err-put_place
returns-in_err-put_place g c = PutsText-as _ (set_line (text_at c.args.paths.now) c.args.cpu c.args.register.now c.args.value)
    (PutsText-then c.in_ok-put.ensures (PutsText-stop _ c.from_residual-in_err-put_place.result c.from_residual-in_err-put_place.ensures.0 c.in_err-put_place.ensures))

pub returns : goal.returns
returns g c = PutsText-as _ (set_line (text_at c.args.paths.now) c.args.cpu c.args.register.now c.args.value)
    (PutsText-then c.in_ok-put.ensures (PutsText-then c.in_ok-put_place.ensures c.put_value.ensures))
