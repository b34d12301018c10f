use Rattle.std.proofs.Common.{◌≡◌}
use Rattle.pw_idle.specs.Nodes.{IsNodeOf}
use Rattle.pw_worked.proofs.steps.records.node_record.Given as goal

abbrev pub invariant-loop-note : goal.invariant-loop-note
invariant-loop-note l = IsNodeOf l.plan l.held × (l.held.node ≡ l.node)
