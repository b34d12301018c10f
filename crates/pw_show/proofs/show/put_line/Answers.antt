use Rattle.std.proofs.Common.{codes}
use Rattle.pw_text.proofs.Putting.{PutsText-stop, PutsText-then, stop_at_first}
use Rattle.acpi_space.specs.Things.{thing}
use Rattle.pw_show.specs.Show.{object_text}
use Rattle.pw_show.proofs.show.put_line.Goals as goal

pub returns-in_err-put_place : goal.returns-in_err-put_place
returns-in_err-put_place g c = stop_at_first (object_text (thing c.args.object)) (codes "\n") c.from_residual.result c.from_residual.ensures.0 c.in_err-put_place.ensures

pub returns-in_err-put_object : goal.returns-in_err-put_object
returns-in_err-put_object g c =
    PutsText-stop (codes "\n") c.from_residual-in_err-put_object.result c.from_residual-in_err-put_object.ensures.0 (PutsText-then c.in_ok-put_place.ensures c.in_err-put_object.ensures)

pub returns : goal.returns
returns g c = PutsText-then (PutsText-then c.in_ok-put_place.ensures c.in_ok-put_object.ensures) c.put.ensures
