use Rattle.std.proofs.Common.{◌∙◌, ap}
use Rattle.pw_model.specs.Containers.{node_vote}
use Rattle.pw_idle.proofs.Nodes.{vote_holds}
use Rattle.pw_idle.proofs.node.NodeRec.vote.Goals as goal

pub deepest-self-requires-clause-holds : goal.deepest-self-requires-clause-holds
deepest-self-requires-clause-holds c = rw (c.as_slice-2.ensures, c.set.ensures)
    (vote_holds c.args.plan.now c.args.self.now.node c.args.child (record { state = c.args.state; tolerance = c.args.tolerance }) c.args.self.now.votes c.requires.of.holds c.requires.child
    c.requires.state c.requires.tolerance)

pub deepest-self-requires-clause-counts : goal.deepest-self-requires-clause-counts
deepest-self-requires-clause-counts c = rw (c.as_slice-2.ensures, c.as_slice-3.ensures, c.set.ensures, ← c.as_slice.ensures) c.recount.ensures

pub returns-clause-of : goal.returns-clause-of
returns-clause-of c = record {
  exists = c.requires.of.exists;
  holds = rw c.set.ensures
      (vote_holds c.args.plan.now c.args.self.now.node c.args.child (record { state = c.args.state; tolerance = c.args.tolerance }) c.args.self.now.votes c.requires.of.holds c.requires.child
      c.requires.state c.requires.tolerance);
  counts = rw (c.set.ensures, ← c.as_slice.ensures) c.recount.ensures;
  state = c.deepest-self.ensures ∙ ap (λ vs. (node_vote c.args.plan.now c.args.self.now.node vs).state) c.as_slice-2.ensures;
}
