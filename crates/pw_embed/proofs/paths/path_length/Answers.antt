use Rattle.std.proofs.Common.{◌≤◌, ◌∙◌, length, ap, arith}
use Rattle.std.proofs.lemmas.List.{take_all}
use Rattle.pw_embed.proofs.Leading.{led, led_length}
use Rattle.pw_embed.proofs.paths.path_length.Goals as goal

pub returns-clause-value : goal.returns-clause-value
returns-clause-value c =
    let segs = c.args.segs.now in
    let some : 1 ≤ length segs = grind arith in
    c.loop-seg.invariant.text ∙ ap (λ ss. length (led ss)) (take_all c.loop-seg.seg-index segs c.loop-seg-test.false) ∙ led_length segs some
