use Rattle.std.proofs.Common.{◌++◌, append_assoc, codes}
use Rattle.serde_json.specs.Data.{string}
use Rattle.serde_json.specs.Written.{compact_text}
use Rattle.pw_text.specs.Text.{place_text}
use Rattle.pw_text.proofs.Putting.{PutsText-as, PutsText-stop, PutsText-then}
use Rattle.pw_show.specs.inner.Putting.{comma_before}
use Rattle.pw_show.proofs.json_objects.put_head.Goals as goal

pub returns-in_err-put_front : goal.returns-in_err-put_front
returns-in_err-put_front g c =
    let a = c.args in
    let end = compact_text (string (place_text a.path.now)) ++ a.behind.now in
    PutsText-as _ (append_assoc (comma_before a.index) (a.kind.now ++ codes ",\"path\":") end)
    (PutsText-stop end c.from_residual.result c.from_residual.ensures.0 c.in_err-put_front.ensures)

pub returns-in_err-put_json_place : goal.returns-in_err-put_json_place
returns-in_err-put_json_place g c =
    let a = c.args in
    let end = compact_text (string (place_text a.path.now)) ++ a.behind.now in
    PutsText-as _ (append_assoc (comma_before a.index) (a.kind.now ++ codes ",\"path\":") end)
    (PutsText-then c.in_ok-put_front.ensures
    (PutsText-stop a.behind.now c.from_residual-in_err-put_json_place.result c.from_residual-in_err-put_json_place.ensures.0
    c.in_err-put_json_place.ensures))

pub returns : goal.returns
returns g c =
    let a = c.args in
    let end = compact_text (string (place_text a.path.now)) ++ a.behind.now in
    PutsText-as _ (append_assoc (comma_before a.index) (a.kind.now ++ codes ",\"path\":") end)
    (PutsText-then c.in_ok-put_front.ensures (PutsText-then c.in_ok-put_json_place.ensures c.put.ensures))
