use Rattle.std.proofs.Common.{◌<◌, get_or, length, arith}
use Rattle.std.proofs.lemmas.List.{get_or_default}
use Rattle.pw_show.specs.Values.{escaped}
use Rattle.pw_show.proofs.Chains.{each_more, each_stop}
use Rattle.pw_show.proofs.strings.put_escaped.Goals as goal

pub returns-in_err-put_byte : goal.returns-in_err-put_byte
returns-in_err-put_byte g c =
    let text = c.args.text.now in
    let at = c.loop-byte.byte-index in
    let inside : at < length text = omega arith in
    each_stop escaped text at (get_or text at 0) c.from_residual.result inside (get_or_default text at 0 (get_or text at 0) inside)
    c.from_residual.ensures.0 c.loop-byte.invariant c.in_err-put_byte.ensures

pub loop-byte-preserved : goal.loop-byte-preserved
loop-byte-preserved g c =
    let text = c.args.text.now in
    let at = c.loop-byte.byte-index in
    let inside : at < length text = omega arith in
    each_more escaped text at (get_or text at 0) inside (get_or_default text at 0 (get_or text at 0) inside) c.loop-byte.invariant c.in_ok-put_byte.ensures
