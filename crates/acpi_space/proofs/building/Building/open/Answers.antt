use Rattle.std.proofs.Common.{[], get_or, refl}
use Rattle.acpi_space.specs.Places.{opened}
use Rattle.acpi_space.specs.Steps.{opens, touched}
use Rattle.acpi_space.proofs.Known.{after_opening}
use Rattle.acpi_space.proofs.Passing.{nothing_passed}
use Rattle.acpi_space.proofs.building.Building.open.Goals as goal

pub returns-clause-here : goal.returns-clause-here
returns-clause-here c before stands = (c.in_ok-name.ensures.found (touched before) stands.0.known).here

pub returns-clause-done : goal.returns-clause-done
returns-clause-done c before stands =
    let old = c.args.self.now in
    let place = opened (touched before) (get_or old.tree c.args.scope []) c.args.path.now in
    let reached = c.in_ok-name.ensures.found (touched before) stands.0.known in (
      after_opening old.tree c.open.new.self old.placed.items old.index.items before c.in_ok-name.name place stands.0 reached c.facts.ensures.closed,
      nothing_passed old.tree c.open.new.self old.passed.items before (opens place) stands.1 (reached.more, reached.grown) refl,
    )
