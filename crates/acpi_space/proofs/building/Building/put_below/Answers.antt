use Rattle.std.proofs.Common.{◌≡◌, ◌++◌, ◌∷◌, [], get_or, refl, sym, ap, subst, ◌∙◌}
use Rattle.std.specs.Prelude.{is_some}
use Rattle.acpi_space.specs.Distinct.{IsFirstRepeat}
use Rattle.acpi_space.specs.Things.{thing}
use Rattle.acpi_space.specs.Steps.{gives}
use Rattle.acpi_space.specs.Namespace.{entries_of, places_of}
use Rattle.acpi_space.specs.inner.Standing.{told_at, IsNoted}
use Rattle.acpi_space.proofs.Known.{some_there, none_there, given_twice, after_placing}
use Rattle.acpi_space.proofs.Passing.{nothing_passed}
use Rattle.acpi_space.proofs.building.Building.put_below.Goals as goal

pub returns-then-is_some-clause-done : goal.returns-then-is_some-clause-done
returns-then-is_some-clause-done c before stands =
    let old = c.args.self.now in
    let place = get_or old.tree c.args.start [] ++ c.args.segs.now in
    let name = c.in_ok-name.name in
    let told = some_there (told_at old.index.items name) (ap is_some (ap (λ l. told_at l name) (sym c.as_slice.ensures.value) ∙ sym c.number_at.ensures) ∙ sym c.is_some.ensures ∙ c.if-is_some.true) in
    let segs : c.in_ok-path.path.segs ≡ place = c.in_ok-path.ensures ∙ c.in_ok-name.ensures.here.1 in
    subst (IsFirstRepeat (places_of (entries_of (before ++ gives c.args.width place (thing c.args.object) ∷ [])))) (sym segs)
    (given_twice old.tree c.settle.new.self old.placed.items old.index.items before name told.0 place c.args.width (thing c.args.object) stands.0 c.in_ok-name.ensures c.facts.ensures.closed told.1)

pub returns-clause-done : goal.returns-clause-done
returns-clause-done c before stands =
    let old = c.args.self.now in
    let place = get_or old.tree c.args.start [] ++ c.args.segs.now in
    let name = c.in_ok-name.name in
    let free = none_there (told_at old.index.items name) (ap is_some (ap (λ l. told_at l name) (sym c.as_slice.ensures.value) ∙ sym c.number_at.ensures) ∙ sym c.is_some.ensures ∙ c.if-is_some.false)
    in
    let count = c.len-index.ensures ∙ old.placed.ok.0 in
    let noted = subst (λ n. IsNoted old.index.items c.note.new.index.items name n) count c.in_ok-note.ensures in
    let reached = c.in_ok-name.ensures in (
      rw (c.in_ok-push.ensures.items, count)
          (after_placing old.tree c.settle.new.self old.placed.items old.index.items c.note.new.index.items before name place c.args.width c.args.object stands.0 reached c.facts.ensures.closed
          c.facts.ensures.distinct free noted),
      nothing_passed old.tree c.settle.new.self old.passed.items before (gives c.args.width place (thing c.args.object)) stands.1 (reached.more, reached.grown) refl,
    )
