use Rattle.std.proofs.Common.{arith, sym}
use Rattle.pw_walker.proofs.Children.{child_at, child_small}
use Rattle.pw_walker.proofs.climbing.vote_of.Goals as goal

pub overflow_cast-child : goal.overflow_cast-child
overflow_cast-child c =
    let few = child_small c.args.plan.now c.args.child c.args.node c.in-Some.place c.args.held.now.node c.requires.of.number c.requires.parent c.in-Some.ensures c.requires.node in
    omega (arith, few)

pub returns-clause-child : goal.returns-clause-child
returns-clause-child c = sym (child_at c.args.plan.now c.args.child c.args.node c.in-Some.place c.args.held.now.node c.requires.of.number c.requires.parent c.in-Some.ensures)
