use Rattle.std.proofs.Common.{◌≡◌, ◌++◌, map, take}
use Rattle.pw_plan.specs.Parts.{scale_of}
use Rattle.pw_plan.specs.Places.{cpu_at}
use Rattle.pw_model.specs.States.{opening_limit}
use Rattle.pw_model.specs.Operations.{set_on}
use Rattle.pw_core.proofs.opening.open_each.Given as goal

abbrev pub invariant-loop-member : goal.invariant-loop-member
invariant-loop-member l = record {
  list : l.ops.elements ≡ l.initial.ops.elements ++ map (λ p. set_on l.plan l.kind (opening_limit (scale_of l.kind (cpu_at l.plan p))) p) (take l.member-index l.members);
  capacity : l.ops.capacity ≡ l.initial.ops.capacity;
}
