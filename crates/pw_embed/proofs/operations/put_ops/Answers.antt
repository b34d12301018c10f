use Rattle.std.proofs.Common.{arith}
use Rattle.pw_embed.specs.Operations.{op_numbers}
use Rattle.pw_embed.proofs.Writing.{written-next}
use Rattle.pw_embed.proofs.operations.put_ops.Goals as goal

pub loop-i-preserved : goal.loop-i-preserved
loop-i-preserved c = rw (c.loop-i.invariant, c.of.ensures)
    (written-next op_numbers c.args.list.now c.args.out.now c.loop-i.i _ c.loop-i-test.true (omega (arith, c.loop-i-test.true, c.requires)))
