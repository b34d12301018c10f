use Rattle.pw_idle.specs.Nodes.{node_part}
use Rattle.pw_walker.proofs.Undoing.{vote_undone}
use Rattle.pw_walker.proofs.climbing.step_node.Goals as goal

pub returns-clause-old : goal.returns-clause-old
returns-clause-old c = record {
  fits = c.vote_of-old.ensures.fits;
  back = vote_undone c.args.plan.now c.args.node c.args.climb.child c.args.climb.vote c.vote_of-old.result.vote c.args.held.now.votes c.vote_of-old.result.child
      (node_part c.set_vote-turned.new.held) c.vote_of-old.ensures.child c.vote_of-old.ensures.vote c.set_vote-turned.ensures.part;
}
