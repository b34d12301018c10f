use Rattle.std.proofs.Common.{◌<◌, inl, inr, arith, sym}
use Rattle.pw_findings.specs.Firsts.{number_in}
use Rattle.pw_findings.proofs.Below.{outside}
use Rattle.pw_findings.proofs.firsts.stood_between.Goals as goal

pub returns-then-number-least : goal.returns-then-number-least
returns-then-number-least c =
    let less : number_in c.args.numbers.now c.args.k < c.args.least = (let e = c.number_in-number.ensures in omega arith) in
    sym (outside c.args.numbers.now c.args.k c.args.least c.args.most c.requires.between (inl less))

pub returns-then-most-number : goal.returns-then-most-number
returns-then-most-number c =
    let more : c.args.most < number_in c.args.numbers.now c.args.k = (let e = c.number_in-number.ensures in omega arith) in
    sym (outside c.args.numbers.now c.args.k c.args.least c.args.most c.requires.between (inr more))
