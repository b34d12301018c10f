use Rattle.std.proofs.Common.{◌≡◌, ◌<◌, sym, ◌∙◌, ap, arith, map, min}
use Rattle.std.specs.Prelude.{fold}
use Rattle.std.proofs.lemmas.List.{drop_all}
use Rattle.pw_model.specs.declared.state.Vote.{Vote}
use Rattle.pw_model.specs.States.{any_latency}
use Rattle.pw_model.specs.Containers.{least_tolerance}
use Rattle.pw_idle.proofs.Nodes.{bears_any, bears_least}
use Rattle.pw_idle.proofs.node.NodeRec.tolerance.Goals as goal

pub returns-then-self-eq0 : goal.returns-then-self-eq0
returns-then-self-eq0 c = λ P h. bears_any P c.args.self.now.node c.args.self.now.votes (sym h.state ∙ c.if-self-eq0.true)

pub returns : goal.returns
unfolding any_latency
returns c = λ P h.
    let above : 0 < c.args.self.now.state = omega arith in
    let least : c.loop-vote.least ≡ least_tolerance c.args.self.now.votes =
    ap (λ vs. fold min c.loop-vote.least (map (λ (v : Vote). v.tolerance) vs)) (sym (drop_all c.loop-vote.vote-index c.as_slice-vote-items.result.now c.loop-vote-test.false))
    ∙ c.loop-vote.invariant ∙ ap least_tolerance c.as_slice-vote-items.ensures in
    least ∙ bears_least P c.args.self.now.node c.args.self.now.votes (rw (← h.state) above)
