use Rattle.std.proofs.Common.{◌∙◌, ap, not, sym}
use Rattle.aml_data.specs.declared.path.FullPath.{FullPath}
use Rattle.acpi_space.specs.Lookup.{number_at}
use Rattle.pw_lint.specs.Tables.{is_known, is_there, is_veiled}
use Rattle.pw_lint.proofs.Given.{none_there, some_there}
use Rattle.pw_lint.proofs.reading.is_known.Goals as goal

pub returns-in_default : goal.returns-in_default
unfolding is_known
returns-in_default c =
    let space = c.args.space.now in
    ap not (sym (ap (λ (q : FullPath). is_there is_veiled space (number_at space q.segs)) (sym c.in_ok-place.ensures)
    ∙ none_there is_veiled space c.in_ok-place.place.segs c.in_default.ensures))

pub returns : goal.returns
unfolding is_known
returns c =
    let space = c.args.space.now in
    ap not (c.is_veiled.ensures ∙ sym (ap (λ (q : FullPath). is_there is_veiled space (number_at space q.segs)) (sym c.in_ok-place.ensures)
    ∙ some_there is_veiled space c.in_ok-place.place.segs c.in-Some.placed.now c.placed-objects.ensures.distinct c.in-Some.ensures))
