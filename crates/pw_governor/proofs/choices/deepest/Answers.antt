use Rattle.std.proofs.Common.{◌≡◌, ◌∙◌, ◌<◌, ℕ, false, sym, arith}
use Rattle.pw_plan.specs.Places.{row_at}
use Rattle.pw_governor.specs.Choices.{is_lawful, choice}
use Rattle.pw_model.proofs.Greatest.{greatest-below}
use Rattle.pw_governor.proofs.choices.deepest.Goals as goal

pub loop-state-preserved : goal.loop-state-preserved
unfolding choice
loop-state-preserved c =
    let test = λ (i : ℕ). is_lawful c.args.tolerance c.args.residency (row_at c.args.table.now i) in
    let w = c.loop-state.invariant.within in
    let lt : 0 < c.loop-state.state = omega arith in
    let fails : test c.loop-state.state ≡ false = grind (arith, c.may_choose.ensures, c.if-may_choose.false) in
    record {
      within = omega arith;
      so_far = sym (greatest-below test c.loop-state.state lt fails) ∙ c.loop-state.invariant.so_far;
    }
