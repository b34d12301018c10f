use Rattle.std.proofs.Common.{refl, arith}
use Rattle.pw_text.proofs.value.value_of.Goals as goal
use Rattle.pw_text.specs.Forms.{value_of}
use Rattle.pw_text.proofs.Values.{value_large}

pub returns-then-value-from : goal.returns-then-value-from
returns-then-value-from c =
    let large = value_large c.loop-left.value (value_of c.args.text.now) c.loop-left.left.now c.in-len1-up.len_at_least (omega (arith, c.from.ensures, c.from-in-len1-up.ensures, c.if-value-from.true))
    c.loop-left.invariant.so_far in
    rw large refl
