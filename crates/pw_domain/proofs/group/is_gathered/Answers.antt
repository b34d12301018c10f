use Rattle.std.proofs.Common.{◌∙◌, sym, ℕ, nat_le, set}
use Rattle.pw_model.specs.Domains.{state_of}
use Rattle.pw_model.specs.Effects.{gathered_by, state_by}
use Rattle.pw_domain.proofs.Tests.{all_failed, all_passed}
use Rattle.pw_domain.proofs.group.is_gathered.Goals as goal

pub returns-then-not-passes : goal.returns-then-not-passes
returns-then-not-passes c =
    let ms = c.args.members.now in
    let ss = set c.args.states.now c.args.place c.args.own in
    all_failed (λ (q : ℕ). nat_le (state_of c.args.domain.now) (state_by ms ss q)) c.as_slice-member-items.result.now c.loop-member.member-index (gathered_by ms ss c.args.domain.now)
    c.loop-member-test.true c.loop-member.invariant (sym c.passes.ensures ∙ c.if-not-passes.true)

pub loop-member-preserved : goal.loop-member-preserved
loop-member-preserved c =
    let ms = c.args.members.now in
    let ss = set c.args.states.now c.args.place c.args.own in
    all_passed (λ (q : ℕ). nat_le (state_of c.args.domain.now) (state_by ms ss q)) c.as_slice-member-items.result.now c.loop-member.member-index (gathered_by ms ss c.args.domain.now)
    c.loop-member-test.true c.loop-member.invariant (sym c.passes.ensures ∙ c.if-not-passes.false)
