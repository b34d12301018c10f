use Rattle.std.proofs.Common.{sym, arith}
use Rattle.std.proofs.lemmas.List.{length-take-le, take_all}
use Rattle.acpi_space.proofs.terms.front_of.Goals as goal

pub slice_bounds-result-end : goal.slice_bounds-result-end
slice_bounds-result-end c = let more = c.if-body-le-LONGEST.false in sym (length-take-le 1023 c.args.body.now (omega arith))

pub returns-then-body-le-LONGEST-clause-value : goal.returns-then-body-le-LONGEST-clause-value
returns-then-body-le-LONGEST-clause-value c = sym (take_all 1023 c.args.body.now c.if-body-le-LONGEST.true)

pub returns-else-body-le-LONGEST-clause-small : goal.returns-else-body-le-LONGEST-clause-small
returns-else-body-le-LONGEST-clause-small c =
    let more = c.if-body-le-LONGEST.false in
    let size = length-take-le 1023 c.args.body.now (omega arith) in omega (arith, size)
