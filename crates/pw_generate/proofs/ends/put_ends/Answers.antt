use Rattle.pw_text.proofs.Putting.{PutsText-as, PutsText-stop, PutsText-then}
use Rattle.pw_generate.proofs.Printed.{ends_text}
use Rattle.pw_generate.proofs.ends.put_ends.Goals as goal

pub returns-in_err-put_containers_line : goal.returns-in_err-put_containers_line
returns-in_err-put_containers_line g c =
    PutsText-as _ (ends_text c.args.plan.now c.args.state.now)
    (PutsText-stop _ c.from_residual.result c.from_residual.ensures.0 c.in_err-put_containers_line.ensures)

pub returns : goal.returns
returns g c = PutsText-as _ (ends_text c.args.plan.now c.args.state.now)
    (PutsText-then c.in_ok-put_containers_line.ensures c.put_standing_line.ensures)
