use Rattle.std.proofs.Common.{arith}
use Rattle.pw_words.proofs.Counts.{one_is}
use Rattle.pw_words.proofs.count.from_one.Goals as goal

pub returns-in_default : goal.returns-in_default
returns-in_default c n is = let a = one_is c.args.ones n is in let here = c.in_default in omega arith

pub returns-in_default-2 : goal.returns-in_default-2
returns-in_default-2 c n is = let a = one_is c.args.ones n is in let here = c.in_default in omega arith
