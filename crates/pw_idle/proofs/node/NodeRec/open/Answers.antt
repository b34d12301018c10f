use Rattle.std.proofs.Common.{ap, ◌∙◌}
use Rattle.pw_model.specs.Containers.{node_vote}
use Rattle.pw_idle.proofs.Counts.{opening_counts}
use Rattle.pw_idle.proofs.Nodes.{opening_holds}
use Rattle.pw_idle.proofs.node.NodeRec.open.Goals as goal

pub deepest-state-requires-clause-holds : goal.deepest-state-requires-clause-holds
deepest-state-requires-clause-holds c = rw (c.as_slice.ensures, c.in_ok-votes.ensures, c.children_of.ensures) (opening_holds c.args.plan.now c.args.node)

pub deepest-state-requires-clause-counts : goal.deepest-state-requires-clause-counts
deepest-state-requires-clause-counts c =
    rw (c.as_slice.ensures, c.as_slice-2.ensures, c.in_ok-votes.ensures, c.in_ok-allowing.ensures, c.children_of.ensures, c.states.ensures, c.container.ensures)
    (opening_counts c.args.plan.now c.args.node)

pub returns-clause-of : goal.returns-clause-of
returns-clause-of c = record {
  exists = c.requires;
  holds = rw (c.in_ok-votes.ensures, c.children_of.ensures) (opening_holds c.args.plan.now c.args.node);
  counts = rw (c.in_ok-votes.ensures, c.in_ok-allowing.ensures, c.children_of.ensures, c.states.ensures, c.container.ensures) (opening_counts c.args.plan.now c.args.node);
  state = c.deepest-state.ensures ∙ ap (λ vs. (node_vote c.args.plan.now c.args.node vs).state) c.as_slice.ensures;
}
