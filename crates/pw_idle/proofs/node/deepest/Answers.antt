use Rattle.std.proofs.Common.{◌≡◌, ◌<◌, length, arith, sym, ◌∙◌}
use Rattle.std.proofs.lemmas.Bool.Decides.{nat_tests}
use Rattle.pw_idle.proofs.Nodes.{state_found, state_none, state_tried}
use Rattle.pw_idle.proofs.node.deepest.Goals as goal

pub returns-then-is_empty : goal.returns-then-is_empty
returns-then-is_empty c =
    let none : length c.args.votes.now ≡ 0 = grind (arith, nat_tests) in
    state_none c.args.plan.now c.args.node c.args.votes.now none

pub returns-else-not-may_idle : goal.returns-else-not-may_idle
returns-else-not-may_idle c =
    let some : 0 < length c.args.votes.now = grind (arith, nat_tests) in
    state_found c.args.plan.now c.args.node c.args.votes.now c.loop-state.state some c.loop-state.invariant.rest c.loop-state-test.true
    (sym c.may_idle.ensures ∙ c.if-not-may_idle.false)

pub returns-after-loop-state : goal.returns-after-loop-state
returns-after-loop-state c =
    let some : 0 < length c.args.votes.now = grind (arith, nat_tests) in
    state_tried c.args.plan.now c.args.node c.args.votes.now c.loop-state.state some c.loop-state.invariant.rest c.loop-state-test.false
