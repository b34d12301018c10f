use Rattle.std.proofs.Common.{◌≡◌, ◌∙◌, ◌∷◌, ◌++◌, ℕ, List, [], Some, None, ap, sym}
use Rattle.pw_audit.specs.inner.Heading.{head_text}
use Rattle.pw_audit.specs.inner.Looking.{cpu_by}
use Rattle.pw_audit.specs.inner.Queues.{left_of}
use Rattle.pw_audit.proofs.Heads.{found}
use Rattle.pw_audit.proofs.head.read_head.Goals as goal

none_some : {p : ℕ} → None ≡ Some p → ⊥
none_some e = cc

same_some : {p q : ℕ} → Some p ≡ Some q → p ≡ q
same_some e = cc

nothing : {X : Type 0} {x : X} {xs : List X} → [] ≡ x ∷ xs → ⊥
nothing e = cc

same_first : {X : Type 0} {x y : X} {xs ys : List X} → x ∷ xs ≡ y ∷ ys → x ≡ y
same_first e = cc

pub returns-in_default-clause-read : goal.returns-in_default-clause-read
returns-in_default-clause-read g c = λ q has next b.
    let laws = c.requires.laws in
    let line = rw c.clear.ensures.items at c.in_ok-push.ensures in
    let look = found laws.paths c.args.paths.now c.requires.paths laws.texts c.args.number q c.args.left.now c.word.result.0.now c.word.result.1.now c.word-2.result.0.now c.word-2.result.1.now
    c.word.ensures c.word-2.ensures has b in
    none_some (sym c.in_default.is ∙ c.find.ensures.found ∙ ap (cpu_by 0 c.args.paths.now) line ∙ look)

pub returns-in_default-take-clause-read : goal.returns-in_default-take-clause-read
returns-in_default-take-clause-read g c = λ q has next b.
    let laws = c.requires.laws in
    let line = rw c.clear.ensures.items at c.in_ok-push.ensures in
    let look = found laws.paths c.args.paths.now c.requires.paths laws.texts c.args.number q c.args.left.now c.word.result.0.now c.word.result.1.now c.word-2.result.0.now c.word-2.result.1.now
    c.word.ensures c.word-2.ensures has b in
    let cpu = same_some (sym c.in-Some.is ∙ c.find.ensures.found ∙ ap (cpu_by 0 c.args.paths.now) line ∙ look) in
    nothing (sym c.in_default-take.ensures ∙ ap (left_of c.args.asked.now) cpu ∙ next.is)

pub returns-in-None-clause-read : goal.returns-in-None-clause-read
returns-in-None-clause-read g c = λ q has next b.
    let laws = c.requires.laws in
    let line = rw c.clear.ensures.items at c.in_ok-push.ensures in
    let look = found laws.paths c.args.paths.now c.requires.paths laws.texts c.args.number q c.args.left.now c.word.result.0.now c.word.result.1.now c.word-2.result.0.now c.word-2.result.1.now
    c.word.ensures c.word-2.ensures has b in
    let cpu = same_some (sym c.in-Some.is ∙ c.find.ensures.found ∙ ap (cpu_by 0 c.args.paths.now) line ∙ look) in
    let request : c.in-Some-take.request ≡ q = same_first (sym c.in-Some-take.ensures.first ∙ ap (left_of c.args.asked.now) cpu ∙ next.is) in
    let put = rw c.clear-2.ensures.items at c.in_ok-push_head.ensures in
    let shown = c.as_slice.ensures.value ∙ put ∙ ap (λ r. head_text g.T.Audited.words c.args.plan.now c.args.number r) request in
    c.in-None.ensures (record { rest = b.rest; is = b.is ∙ ap (λ (l : List ℕ). l ++ b.rest) (sym shown) })

pub returns-in-Some-strip-clause-only : goal.returns-in-Some-strip-clause-only
returns-in-Some-strip-clause-only g c = λ q has next b.
    let laws = c.requires.laws in
    let line = rw c.clear.ensures.items at c.in_ok-push.ensures in
    let look = found laws.paths c.args.paths.now c.requires.paths laws.texts c.args.number q c.args.left.now c.word.result.0.now c.word.result.1.now c.word-2.result.0.now c.word-2.result.1.now
    c.word.ensures c.word-2.ensures has b in
    let cpu = same_some (sym c.in-Some.is ∙ c.find.ensures.found ∙ ap (cpu_by 0 c.args.paths.now) line ∙ look) in
    sym (same_first (sym c.in-Some-take.ensures.first ∙ ap (left_of c.args.asked.now) cpu ∙ next.is))
