use Rattle.std.proofs.Common.{◌≡◌, ◌++◌, map, take, drop}
use Rattle.pw_embed.specs.Operations.{op_numbers}
use Rattle.pw_embed.proofs.operations.put_ops.Given as goal

abbrev pub invariant-loop-i : goal.invariant-loop-i
invariant-loop-i l = l.out ≡ map op_numbers (take l.i l.list) ++ drop l.i l.fn.out
