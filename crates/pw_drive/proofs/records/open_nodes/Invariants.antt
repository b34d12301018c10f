use Rattle.std.proofs.Common.{◌≡◌, ◌<◌, ℕ, length}
use Rattle.pw_drive.specs.Keeping.{OpensNode, node_in}
use Rattle.pw_drive.proofs.records.open_nodes.Given as goal

abbrev pub invariant-loop-node : goal.invariant-loop-node
invariant-loop-node l = record {
  count : length l.nodes.items ≡ l.node;
  each : (k : ℕ) → k < l.node → OpensNode l.plan k (node_in l.nodes.items k);
}
