use Rattle.std.proofs.Common.{◌++◌, codes, refl, sym}
use Rattle.std.specs.List.{flat_map}
use Rattle.pw_text.proofs.Putting.{PutsText-as, PutsText-then}
use Rattle.pw_show.specs.inner.Pieces.{character_text}
use Rattle.pw_show.proofs.Escapes.{string_in_pieces}
use Rattle.pw_show.proofs.Putting.{fault_is, puts_as, puts_done, puts_failed, puts_stop, puts_then}
use Rattle.pw_show.proofs.json_strings.put_characters.Goals as goal

pub returns-in_err-put : goal.returns-in_err-put
returns-in_err-put g c =
    puts_as _ (string_in_pieces c.args.bytes.now) refl
    (puts_stop (flat_map character_text c.args.bytes.now ++ codes "\"") c.from_residual.ensures.0
    (puts_failed (fault_is c.from_residual.result _ c.from_residual.ensures.1) c.in_err-put.ensures))

pub returns-in_err-put_pieces : goal.returns-in_err-put_pieces
returns-in_err-put_pieces g c =
    let fault = fault_is c.from_residual-in_err-put_pieces.result _ c.from_residual-in_err-put_pieces.ensures.1 in
    puts_as _ (string_in_pieces c.args.bytes.now) refl
    (puts_then c.in_ok-put.ensures (puts_stop (codes "\"") c.from_residual-in_err-put_pieces.ensures.0
    (puts_as _ refl (sym fault) c.in_err-put_pieces.ensures)))

pub returns-in_err-put-2 : goal.returns-in_err-put-2
returns-in_err-put-2 g c =
    puts_as _ (string_in_pieces c.args.bytes.now) refl
    (puts_then c.in_ok-put.ensures (puts_then (c.in_ok-put_pieces.ensures.whole refl)
    (puts_failed (fault_is c.from_residual-in_err-put-2.result _ c.from_residual-in_err-put-2.ensures.1) c.in_err-put-2.ensures)))

pub returns : goal.returns
returns g c =
    puts_done _ (PutsText-as _ (string_in_pieces c.args.bytes.now)
    (PutsText-then c.in_ok-put.ensures (PutsText-then (c.in_ok-put_pieces.ensures.whole refl) c.in_ok-put-2.ensures)))
