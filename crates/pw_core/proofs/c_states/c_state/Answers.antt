use Rattle.std.proofs.Common.{◌∙◌, sym, arith}
use Rattle.pw_model.specs.States.{with_change}
use Rattle.pw_model.specs.Domains.{may_enter}
use Rattle.pw_model.proofs.Greatest.{greatest-here, greatest-step}
use Rattle.pw_core.proofs.c_states.c_state.Goals as goal

pub loop-level-preserved : goal.loop-level-preserved
loop-level-preserved c =
    let test = may_enter c.args.plan.now (with_change c.args.state.now c.args.change) c.args.cpu in
    let fails = sym c.may_enter.ensures ∙ c.if-may_enter.false in
    sym (rw fails at (greatest-step test c.loop-level.level (omega arith))) ∙ c.loop-level.invariant

pub returns-then-may_enter : goal.returns-then-may_enter
returns-then-may_enter c =
    let test = may_enter c.args.plan.now (with_change c.args.state.now c.args.change) c.args.cpu in
    sym (greatest-here test c.loop-level.level (omega arith) (sym c.may_enter.ensures ∙ c.if-may_enter.true)) ∙ c.loop-level.invariant
