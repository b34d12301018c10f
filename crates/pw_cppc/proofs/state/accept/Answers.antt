use Rattle.std.proofs.Common.{ap, ◌∙◌}
use Rattle.pw_cppc.specs.States.{changed}
use Rattle.pw_cppc.specs.Operations.{standing_ops}
use Rattle.pw_cppc.proofs.Accepting.{sets_standing}
use Rattle.pw_cppc.proofs.Appending.{in_turn}
use Rattle.pw_cppc.proofs.state.accept.Goals as goal

pub returns-clause-list : goal.returns-clause-list
returns-clause-list c =
    let P = c.args.plan.now in
    let S = c.args.numbers.now in
    let T = changed S c.args.request in
    in_turn c.args.ops.now c.set_bound.new.ops c.set_changed.new.ops _ _ _ c.set_bound.ensures c.set_changed.ensures
    (sets_standing P S T c.in-Some.place c.cpu-cpu.result c.standing-before.result c.standing-after.result c.in-Some.ensures.0 c.standing-before.ensures
    (rw (← c.change.ensures) c.standing-after.ensures) ∙ ap (standing_ops P S T) c.cpu-cpu.ensures)
