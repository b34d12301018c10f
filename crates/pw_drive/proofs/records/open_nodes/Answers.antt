use Rattle.std.proofs.Common.{◌+◌, ◌∷◌, [], ◌∙◌, ap, length-append}
use Rattle.pw_drive.specs.Keeping.{OpensNode, no_node_record}
use Rattle.pw_drive.proofs.Places.{placed_more}
use Rattle.pw_drive.proofs.records.open_nodes.Goals as goal

pub loop-node-preserved : goal.loop-node-preserved
loop-node-preserved c =
    let P = c.args.plan.now in
    let i = c.loop-node.node in
    let held = c.loop-node.nodes.items in
    let r = c.in_ok-open.field-0 in
    let opens : OpensNode P i r = (record { of = c.in_ok-open.ensures.of; number = c.in_ok-open.ensures.node }, c.in_ok-open.ensures.part) in
    rw c.in_ok-push.ensures.items (record {
      count = length-append held (r ∷ []) ∙ ap (λ k. k + 1) c.loop-node.invariant.count;
      each = placed_more (OpensNode P) no_node_record held r i c.loop-node.invariant.count c.loop-node.invariant.each opens;
    })
