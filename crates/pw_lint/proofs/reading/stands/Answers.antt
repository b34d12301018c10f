use Rattle.std.proofs.Common.{◌∙◌, ap, sym}
use Rattle.std.specs.Prelude.{is_some}
use Rattle.aml_data.specs.declared.path.FullPath.{FullPath}
use Rattle.acpi_space.specs.Lookup.{number_at}
use Rattle.pw_lint.specs.Tables.{stands}
use Rattle.pw_lint.proofs.Given.{none_stands, some_stands}
use Rattle.pw_lint.proofs.reading.stands.Goals as goal

pub returns-in_default : goal.returns-in_default
unfolding stands
returns-in_default c =
    let space = c.args.space.now in
    sym (ap (λ (q : FullPath). is_some (number_at space q.segs)) (sym c.in_ok-place.ensures)
    ∙ none_stands space c.in_ok-place.place.segs c.in_default.ensures)

pub returns : goal.returns
unfolding stands
returns c =
    let space = c.args.space.now in
    sym (ap (λ (q : FullPath). is_some (number_at space q.segs)) (sym c.in_ok-place.ensures)
    ∙ some_stands space c.in_ok-place.place.segs c.in-Some._placed.now c.placed-objects.ensures.distinct c.in-Some.ensures)
