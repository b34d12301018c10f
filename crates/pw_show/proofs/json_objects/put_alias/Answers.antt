use Rattle.std.proofs.Common.{◌++◌, codes}
use Rattle.json.specs.Print.{escape_byte}
use Rattle.serde_json.specs.Data.{string}
use Rattle.serde_json.specs.Written.{compact_text}
use Rattle.pw_text.specs.Text.{path_text}
use Rattle.pw_text.proofs.Putting.{PutsText-as, PutsText-stop, PutsText-then}
use Rattle.pw_show.specs.inner.Putting.{comma_before}
use Rattle.pw_show.proofs.Compact.{valued_in_pieces}
use Rattle.pw_show.proofs.json_objects.put_alias.Goals as goal

pub returns-in_err-put_head : goal.returns-in_err-put_head
unfolding escape_byte
returns-in_err-put_head g c =
    let value = string (path_text c.args.target.now) in
    PutsText-as _ (valued_in_pieces (comma_before c.args.index) (codes "alias") c.args.path.now value)
    (PutsText-stop (compact_text value ++ codes "}") c.from_residual.result c.from_residual.ensures.0 c.in_err-put_head.ensures)

pub returns-in_err-put_json_path : goal.returns-in_err-put_json_path
unfolding escape_byte
returns-in_err-put_json_path g c =
    let value = string (path_text c.args.target.now) in
    PutsText-as _ (valued_in_pieces (comma_before c.args.index) (codes "alias") c.args.path.now value)
    (PutsText-then c.in_ok-put_head.ensures
    (PutsText-stop (codes "}") c.from_residual-in_err-put_json_path.result c.from_residual-in_err-put_json_path.ensures.0 c.in_err-put_json_path.ensures))

pub returns : goal.returns
unfolding escape_byte
returns g c =
    let value = string (path_text c.args.target.now) in
    PutsText-as _ (valued_in_pieces (comma_before c.args.index) (codes "alias") c.args.path.now value)
    (PutsText-then c.in_ok-put_head.ensures (PutsText-then c.in_ok-put_json_path.ensures c.put.ensures))
