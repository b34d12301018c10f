use Rattle.std.proofs.Common.{arith}
use Rattle.pw_words.proofs.Counts.{two_are}
use Rattle.pw_words.proofs.count.from_two.Goals as goal

pub returns-in_default-count : goal.returns-in_default-count
returns-in_default-count c n is = let a = two_are c.args.tens c.args.ones n is in let here = c.in_default-count in omega arith

pub returns-in_default-count-2 : goal.returns-in_default-count-2
returns-in_default-count-2 c n is = let a = two_are c.args.tens c.args.ones n is in let here = c.in_default-count in omega arith

pub returns-in_default : goal.returns-in_default
returns-in_default c n is = let a = two_are c.args.tens c.args.ones n is in let here = c.in_default in omega arith

pub returns-in_default-2 : goal.returns-in_default-2
returns-in_default-2 c n is = let a = two_are c.args.tens c.args.ones n is in let here = c.in_default in omega arith

pub returns-in_default-3 : goal.returns-in_default-3
returns-in_default-3 c n is = let a = two_are c.args.tens c.args.ones n is in let here = c.in_default in omega arith

pub returns-in_default-4 : goal.returns-in_default-4
returns-in_default-4 c n is = let a = two_are c.args.tens c.args.ones n is in let here = c.in_default in omega arith
