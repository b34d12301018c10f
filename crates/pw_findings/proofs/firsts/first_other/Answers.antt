use Rattle.std.proofs.Common.{◌≡◌, ◌<◌, ◌∙◌, true, length, None, Some, refl, subst, sym, arith}
use Rattle.pw_findings.specs.Firsts.{differ_at, first_below, first_other}
use Rattle.pw_findings.proofs.Below.{first_is}
use Rattle.pw_findings.proofs.firsts.first_other.Goals as goal

pub returns-then-differ_at : goal.returns-then-differ_at
unfolding first_other
returns-then-differ_at c =
    let one = c.args.one.now in
    let other = c.args.other.now in
    let k = c.loop-k.k in
    let inside : k < length one = omega arith in
    let here : differ_at one other k ≡ true = sym c.differ_at.ensures ∙ c.if-differ_at.true in
    let first : first_below (differ_at one other) (length one) ≡ Some k =
    first_is (differ_at one other) k (length one) c.loop-k.invariant here inside in
    rw first refl

pub returns : goal.returns
unfolding first_other
returns c =
    let one = c.args.one.now in
    let other = c.args.other.now in
    let past : c.loop-k.k ≡ length one = omega arith in
    let none : first_below (differ_at one other) (length one) ≡ None = subst (λ n. first_below (differ_at one other) n ≡ None) past c.loop-k.invariant in
    rw none refl
