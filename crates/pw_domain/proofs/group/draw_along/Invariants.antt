use Rattle.std.proofs.Common.{◌≡◌, ◌≤◌, ◌+◌, ◌++◌, ◌==◌, ◌&&◌, not, length, map, drop, set}
use Rattle.std.specs.Prelude.{filter}
use Rattle.pw_model.specs.Effects.{c_state_by, drawn_by, drawn_ops, enter_c}
use Rattle.pw_domain.proofs.group.draw_along.Given as goal

abbrev pub invariant-loop-member : goal.invariant-loop-member
invariant-loop-member l =
    let new = set l.states l.place l.own in
    let left = filter (λ q. not (q == l.cpu) && drawn_by l.plan l.members l.states new q) (drop l.member-index l.members) in
    record {
      list : l.ops.elements ++ map (λ q. enter_c l.plan q (c_state_by l.plan l.members new q)) left ≡ l.initial.ops.elements ++ drawn_ops l.plan l.members l.states new l.cpu;
      room : length l.ops.elements + length left ≤ l.ops.capacity;
      capacity : l.ops.capacity ≡ l.initial.ops.capacity;
    }
