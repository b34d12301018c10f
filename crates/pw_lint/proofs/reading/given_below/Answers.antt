use Rattle.std.proofs.Common.{◌≡◌, ◌∙◌, None, ap, inl, inr, sym}
use Rattle.aml_data.specs.declared.path.FullPath.{FullPath}
use Rattle.acpi_space.specs.declared.object.Object.{Object}
use Rattle.acpi_space.specs.Things.{thing}
use Rattle.pw_lint.specs.Tables.{given_at, given_in}
use Rattle.pw_lint.proofs.Given.{none_given, some_given}
use Rattle.pw_lint.proofs.reading.given_below.Goals as goal

pub returns-in_default-clause-value : goal.returns-in_default-clause-value
returns-in_default-clause-value c =
    let space = c.args.space.now in
    sym (ap (given_at space) (sym (ap (λ (p : FullPath). p.segs) c.in_ok-table.ensures)) ∙ none_given space c.in_ok-table.table.segs c.in_default.ensures)

pub returns-in-Data-clause-value : goal.returns-in-Data-clause-value
returns-in-Data-clause-value c =
    let space = c.args.space.now in
    let p = c.in-Some.placed.now in
    sym (ap (given_at space) (sym (ap (λ (p : FullPath). p.segs) c.in_ok-table.ensures))
    ∙ some_given space c.in_ok-table.table.segs p c.placed-objects.ensures.distinct c.in-Some.ensures
    ∙ ap (λ (o : Object). given_in p.width (thing o)) c.in-Data.is)

pub returns : goal.returns
returns c =
    let space = c.args.space.now in
    let p = c.in-Some.placed.now in
    let none : given_in p.width (thing p.object) ≡ None = elim c.in-Device.is [
      | inl e ↦ ap (λ (o : Object). given_in p.width (thing o)) e
      | inr (inl e) ↦ ap (λ (o : Object). given_in p.width (thing o)) e
      | inr (inr (inl e)) ↦ ap (λ (o : Object). given_in p.width (thing o)) e
      | inr (inr (inr e)) ↦ ap (λ (o : Object). given_in p.width (thing o)) e.1
    ] in
    record {
      value = sym (ap (given_at space) (sym (ap (λ (p : FullPath). p.segs) c.in_ok-table.ensures))
          ∙ some_given space c.in_ok-table.table.segs p c.placed-objects.ensures.distinct c.in-Some.ensures ∙ none);
      countable = tt {0};
    }
