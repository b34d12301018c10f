use Rattle.std.proofs.Common.{◌≡◌, arith, subst}
use Rattle.pw_plan.specs.Places.{group_at}
use Rattle.pw_model.specs.Effects.{member_place}
use Rattle.pw_walker.proofs.Groups.{member_few}
use Rattle.pw_walker.proofs.grouping.member_of.Goals as goal

pub overflow_cast-result : goal.overflow_cast-result
overflow_cast-result c =
    let P = c.args.plan.now in
    let there = subst (λ g. c.in-Some.at.member ≡ member_place (group_at P g).members c.args.cpu) c.in-Some.ensures.place.0 c.in-Some.ensures.member in
    let few = member_few P c.args.cpu c.requires c.in-Some.at.member there in
    omega (arith, few)
