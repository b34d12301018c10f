use Rattle.std.proofs.Common.{codes}
use Rattle.std.specs.List.{flat_map}
use Rattle.pw_text.proofs.Putting.{PutsText-stop, PutsText-then, stop_at_first}
use Rattle.pw_show.specs.Values.{escaped}
use Rattle.pw_show.proofs.strings.put_string.Goals as goal

pub returns-in_err-put : goal.returns-in_err-put
returns-in_err-put g c = stop_at_first (flat_map escaped c.args.text.now) (codes "\"") c.from_residual.result c.from_residual.ensures.0 c.in_err-put.ensures

pub returns-in_err-put_escaped : goal.returns-in_err-put_escaped
returns-in_err-put_escaped g c =
    PutsText-stop (codes "\"") c.from_residual-in_err-put_escaped.result c.from_residual-in_err-put_escaped.ensures.0 (PutsText-then c.in_ok-put.ensures c.in_err-put_escaped.ensures)

pub returns : goal.returns
returns g c = PutsText-then (PutsText-then c.in_ok-put.ensures c.in_ok-put_escaped.ensures) c.put-2.ensures
