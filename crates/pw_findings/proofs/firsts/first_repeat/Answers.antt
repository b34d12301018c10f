use Rattle.std.proofs.Common.{◌≡◌, ◌<◌, ◌∙◌, true, false, length, None, Some, refl, subst, sym, arith}
use Rattle.pw_findings.specs.Firsts.{first_below, first_repeat, stood}
use Rattle.pw_findings.proofs.Below.{first_is, none_further, wider}
use Rattle.pw_findings.proofs.firsts.first_repeat.Goals as goal

pub returns-then-stood_between : goal.returns-then-stood_between
unfolding first_repeat
returns-then-stood_between c =
    let all = c.args.numbers.now in
    let k = c.loop-k.k in
    let inside : k < length all = omega arith in
    let here : stood all k ≡ true = sym c.stood_between.ensures ∙ c.if-stood_between.true in
    let first : first_below (stood all) (length all) ≡ Some k = first_is (stood all) k (length all) c.loop-k.invariant.0 here inside in
    rw (first, c.repeat_at.ensures) refl

pub returns : goal.returns
unfolding first_repeat
returns c =
    let all = c.args.numbers.now in
    let past : c.loop-k.k ≡ length all = omega arith in
    let none : first_below (stood all) (length all) ≡ None = subst (λ n. first_below (stood all) n ≡ None) past c.loop-k.invariant.0 in
    rw none refl

pub loop-k-preserved : goal.loop-k-preserved
loop-k-preserved c =
    let all = c.args.numbers.now in
    let k = c.loop-k.k in
    let new : stood all k ≡ false = sym c.stood_between.ensures ∙ c.if-stood_between.false in
    let bounds = wider all k c.loop-k.least c.loop-k.most c.loop-k.invariant.1 in
    (none_further (stood all) k c.loop-k.invariant.0 new, rw (c.min-least.ensures, c.max-most.ensures, c.number_in-number.ensures) bounds)
