use Rattle.std.proofs.Common.{◌-◌, ◌<◌, length, refl, subst, arith}
use Rattle.std.specs.List.{AllByRecursion}
use Rattle.std.proofs.lemmas.List.{take_all}
use Rattle.aml_data.proofs.WrittenLengths.{all_at}
use Rattle.aml_block.specs.WrittenTerms.{IsWritableTerm}
use Rattle.aml_block.proofs.WrittenTerms.{none_writable, are_each, each_are}
use Rattle.aml_block.proofs.writable.+writable.Goals as goal

pub are_writable-returns-then-depth-eq0 : goal.are_writable-returns-then-depth-eq0
are_writable-returns-then-depth-eq0 t c = (λ f. absurd (let impossible = f in cc), λ w. absurd (none_writable c.args.depth c.args.terms.now c.if-depth-eq0.true w))

pub are_writable-returns-then-not-is_writable_term : goal.are_writable-returns-then-not-is_writable_term
are_writable-returns-then-not-is_writable_term t c =
    let terms = c.args.terms.now in
    let at = c.loop-term.term-index in
    let inside : at < length terms = omega arith in (
      λ f. absurd (let impossible = f in cc),
      λ w. (let one = all_at (IsWritableTerm (c.args.depth - 1)) terms at c.term-item.result inside c.term-item.is (are_each c.args.depth terms w) in
          let passed = c.is_writable_term.ensures.1 one in let failed = c.if-not-is_writable_term.true in cc),
    )

pub are_writable-returns : goal.are_writable-returns
are_writable-returns t c =
    let terms = c.args.terms.now in
    let whole = take_all c.loop-term.term-index terms (omega arith) in
    (λ f. each_are c.args.depth terms (omega arith) (subst (λ l. AllByRecursion (IsWritableTerm (c.args.depth - 1)) l) whole c.loop-term.invariant), λ w. refl)
