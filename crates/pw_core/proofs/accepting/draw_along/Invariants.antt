use Rattle.std.proofs.Common.{◌≡◌, ◌≤◌, ◌+◌, ◌++◌, length, map, drop}
use Rattle.pw_model.specs.States.{with_change}
use Rattle.pw_model.specs.Operations.{enter}
use Rattle.pw_core.specs.inner.Drawn.{drawn_among}
use Rattle.pw_core.proofs.accepting.draw_along.Given as goal

abbrev pub invariant-loop-member : goal.invariant-loop-member
invariant-loop-member l = record {
  list : l.ops.elements ++ map (enter l.plan (with_change l.state l.change)) (drawn_among l.plan l.state (with_change l.state l.change) l.cpu (drop l.member-index l.members))
      ≡ l.initial.ops.elements ++ map (enter l.plan (with_change l.state l.change)) (drawn_among l.plan l.state (with_change l.state l.change) l.cpu l.members);
  room : length l.ops.elements + length (drawn_among l.plan l.state (with_change l.state l.change) l.cpu (drop l.member-index l.members)) ≤ l.ops.capacity;
  capacity : l.ops.capacity ≡ l.initial.ops.capacity;
}
