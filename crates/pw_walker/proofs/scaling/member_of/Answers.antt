use Rattle.std.proofs.Common.{arith}
use Rattle.pw_walker.proofs.Members.{member_small}
use Rattle.pw_walker.proofs.scaling.member_of.Goals as goal

pub overflow_cast-result : goal.overflow_cast-result
overflow_cast-result c =
    let few = member_small c.args.plan.now c.args.kind c.args.cpu c.requires.cpu c.requires.scale
    c.in-Some.membership.place c.in-Some.membership.member c.in-Some.ensures.place.0 c.in-Some.ensures.member in
    omega (arith, few)
