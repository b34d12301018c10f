use Rattle.std.proofs.Common.{◌<◌, length, refl, add-one, arith}
use Rattle.pw_show.proofs.Escapes.{encodes-take-suc}
use Rattle.pw_show.proofs.json_strings.characters_of.Goals as goal

pub loop-byte-preserved : goal.loop-byte-preserved
loop-byte-preserved c =
    let bytes = c.args.bytes.now in
    let at = c.loop-byte.byte-index in
    let inside : at < length bytes = omega arith in
    let pushed = c.in_ok-push.ensures.bytes in
    rw (add-one, encodes-take-suc bytes at inside, pushed, c.from.ensures, c.loop-byte.invariant) refl
