use Rattle.std.proofs.Common.{◌∙◌, arith}
use Rattle.pw_idle.specs.Nodes.{node_part}
use Rattle.pw_model.specs.Effects.{votes_in, votes_with}
use Rattle.pw_walker.proofs.Children.{child_fits, child_small, child_voted, child_within, voted_is}
use Rattle.pw_walker.proofs.turning.set_vote.Goals as goal

pub overflow_cast-place : goal.overflow_cast-place
overflow_cast-place c =
    let few = child_small c.args.plan.now c.args.child c.args.node c.in-Some.place c.args.held.now.node c.requires.of.number c.requires.parent c.in-Some.ensures c.requires.node in
    omega (arith, few)

pub vote-after-requires-clause-child : goal.vote-after-requires-clause-child
vote-after-requires-clause-child c =
    child_within c.args.plan.now c.args.child c.args.node c.in-Some.place c.args.held.now.node c.requires.of.number c.requires.parent c.in-Some.ensures

pub vote-after-requires-clause-state : goal.vote-after-requires-clause-state
vote-after-requires-clause-state c =
    child_fits c.args.plan.now c.args.child c.args.node c.in-Some.place c.args.held.now.node c.requires.of.number c.requires.parent c.in-Some.ensures c.args.vote c.requires.state

pub returns-clause-part : goal.returns-clause-part
returns-clause-part c =
    child_voted c.args.plan.now c.args.child c.args.node c.in-Some.place c.args.held.now.node c.requires.of.number c.requires.parent c.in-Some.ensures c.args.vote
    (node_part c.args.held.now) (node_part c.vote-after.new.self) c.vote-after.ensures.part

pub returns-clause-vote : goal.returns-clause-vote
returns-clause-vote c =
    let P = c.args.plan.now in
    let new = votes_with P c.args.node c.args.child c.args.vote (votes_in (node_part c.args.held.now)) in
    let part = child_voted P c.args.child c.args.node c.in-Some.place c.args.held.now.node c.requires.of.number c.requires.parent c.in-Some.ensures c.args.vote
    (node_part c.args.held.now) (node_part c.vote-after.new.self) c.vote-after.ensures.part in
    voted_is P c.args.node c.vote-after.new.self.node (node_part c.vote-after.new.self) new c.vote-after.result c.tolerance.result
    (c.vote-after.ensures.node ∙ c.requires.of.number) part c.vote-after.ensures.state (c.tolerance.ensures P c.vote-after.ensures.of)
