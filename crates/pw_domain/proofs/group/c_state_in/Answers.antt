use Rattle.std.proofs.Common.{◌∙◌, sym, arith, set}
use Rattle.pw_model.proofs.Greatest.{greatest-step}
use Rattle.pw_model.specs.Effects.{enters_by}
use Rattle.pw_domain.proofs.group.c_state_in.Goals as goal

pub loop-level-preserved : goal.loop-level-preserved
loop-level-preserved c =
    let test = enters_by c.args.plan.now c.args.members.now (set c.args.states.now c.args.place c.args.own) c.args.cpu in
    let fails = sym c.may_enter.ensures ∙ c.if-may_enter.false in
    sym (rw fails at (greatest-step test c.loop-level.level (omega arith))) ∙ c.loop-level.invariant
