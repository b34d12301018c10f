use Rattle.std.proofs.Common.{◌++◌, codes, decimal, append_assoc}
use Rattle.pw_text.specs.Text.{hex_text}
use Rattle.pw_text.proofs.Putting.{PutsText-as, PutsText-stop, PutsText-then}
use Rattle.pw_load.specs.Lines.{at_place}
use Rattle.pw_load.proofs.lines.put_at_number.Goals as goal

pub returns-in_err-put_at : goal.returns-in_err-put_at
returns-in_err-put_at g c =
    let what = c.args.what.now in
    let number = hex_text c.args.number in
    PutsText-as (at_place c.args.at (what ++ number)) (append_assoc (codes "at " ++ decimal c.args.at) what number)
    (PutsText-stop number c.from_residual.result c.from_residual.ensures.0 c.in_err-put_at.ensures)

pub returns : goal.returns
returns g c =
    let what = c.args.what.now in
    let number = hex_text c.args.number in
    PutsText-as (at_place c.args.at (what ++ number)) (append_assoc (codes "at " ++ decimal c.args.at) what number)
    (PutsText-then c.in_ok-put_at.ensures c.put_hex.ensures)
