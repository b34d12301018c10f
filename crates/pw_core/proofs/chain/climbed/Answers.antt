use Rattle.std.proofs.Common.{◌≡◌, ◌==◌, ◌∷◌, ℕ, List, false, ap, sym, ◌∙◌, arith}
use Rattle.std.proofs.lemmas.Bool.Decides.{nat_tests}
use Rattle.pw_plan.specs.declared.plan.Plan.{Plan}
use Rattle.pw_model.specs.declared.state.State.{State}
use Rattle.pw_model.specs.declared.state.Vote.{Vote}
use Rattle.pw_model.specs.States.{vote_of, with_change}
use Rattle.pw_model.specs.Containers.{ancestors, container_vote}
use Rattle.pw_model.specs.Answers.{states_along}
use Rattle.pw_core.proofs.Climbing.{climbs-end, climbs-falls, climbs-more, climbs-room, climbs-stop}
use Rattle.pw_core.proofs.chain.climbed.Goals as goal

all : Plan → State → ℕ → List ℕ
all P S p = (vote_of S p).state ∷ states_along P S (ancestors P p)

pub returns-then-vote-eq0 : goal.returns-then-vote-eq0
unfolding all
returns-then-vote-eq0 c =
    let P = c.args.plan.now in
    let S = with_change c.args.state.now c.args.change in
    let h = rw c.in-Some.is at c.loop-next.invariant.climbs in
    climbs-stop P S (all P S c.args.cpu) c.loop-next.chain c.in-Some.node h (sym (ap (λ (v : Vote). v.state) c.container_vote-vote.ensures) ∙ c.if-vote-eq0.true)

pub extended-chain-requires-clause-room : goal.extended-chain-requires-clause-room
unfolding all
extended-chain-requires-clause-room c =
    let P = c.args.plan.now in
    let S = with_change c.args.state.now c.args.change in
    let h = rw c.in-Some.is at c.loop-next.invariant.climbs in
    climbs-room P S (all P S c.args.cpu) c.loop-next.chain c.in-Some.node h

pub loop-next-smaller : goal.loop-next-smaller
unfolding all
loop-next-smaller c =
    let P = c.args.plan.now in
    let S = with_change c.args.state.now c.args.change in
    let h = rw c.in-Some.is at c.loop-next.invariant.climbs in
    rw (c.in-Some.is, c.container.ensures) (climbs-falls P S (all P S c.args.cpu) c.loop-next.chain c.in-Some.node h)

pub loop-next-preserved : goal.loop-next-preserved
unfolding all
loop-next-preserved c =
    let P = c.args.plan.now in
    let S = with_change c.args.state.now c.args.change in
    let h = rw c.in-Some.is at c.loop-next.invariant.climbs in
    let s : c.container_vote-vote.result.state ≡ (container_vote P S c.in-Some.node).state = ap (λ (v : Vote). v.state) c.container_vote-vote.ensures in
    let above : ((container_vote P S c.in-Some.node).state == 0) ≡ false = rw (← s) (grind (arith, nat_tests)) in
    record {
      climbs = rw c.container.ensures (climbs-more P S (all P S c.args.cpu) c.loop-next.chain c.in-Some.node h c.extended-chain.result above (rw (← s) c.extended-chain.ensures));
      known = c.container_vote-vote.ensures;
    }

pub returns : goal.returns
unfolding all
returns c =
    let P = c.args.plan.now in
    let S = with_change c.args.state.now c.args.change in
    let h = rw c.in_default.is at c.loop-next.invariant.climbs in
    climbs-end P S (all P S c.args.cpu) c.loop-next.chain h
