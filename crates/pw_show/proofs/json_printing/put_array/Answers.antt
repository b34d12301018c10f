use Rattle.std.proofs.Common.{◌++◌, codes, refl, sym}
use Rattle.pw_text.proofs.Putting.{PutsText-then}
use Rattle.pw_show.specs.Json.{entry_text}
use Rattle.pw_show.proofs.Joining.{joined}
use Rattle.pw_show.proofs.Putting.{fault_is, puts_as, puts_done, puts_failed, puts_stop, puts_then}
use Rattle.pw_show.proofs.json_printing.put_array.Goals as goal

pub returns-in_err-put : goal.returns-in_err-put
returns-in_err-put g c =
    puts_stop (joined entry_text c.args.space.now ++ codes "]\n") c.from_residual.ensures.0
    (puts_failed (fault_is c.from_residual.result _ c.from_residual.ensures.1) c.in_err-put.ensures)

pub returns-in_err-put_objects : goal.returns-in_err-put_objects
returns-in_err-put_objects g c =
    let fault = fault_is c.from_residual-in_err-put_objects.result _ c.from_residual-in_err-put_objects.ensures.1 in
    puts_then c.in_ok-put.ensures (puts_stop (codes "]\n") c.from_residual-in_err-put_objects.ensures.0
    (puts_as _ refl (sym fault) c.in_err-put_objects.ensures))

pub returns-in_err-put-2 : goal.returns-in_err-put-2
returns-in_err-put-2 g c =
    puts_then c.in_ok-put.ensures (puts_then (c.in_ok-put_objects.ensures.whole refl)
    (puts_failed (fault_is c.from_residual-in_err-put-2.result _ c.from_residual-in_err-put-2.ensures.1) c.in_err-put-2.ensures))

pub returns : goal.returns
returns g c =
    puts_done _ (PutsText-then c.in_ok-put.ensures (PutsText-then (c.in_ok-put_objects.ensures.whole refl) c.in_ok-put-2.ensures))
