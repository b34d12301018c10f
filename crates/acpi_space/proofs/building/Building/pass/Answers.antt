use Rattle.acpi_space.proofs.Passing.{after_passing, one_passed}
use Rattle.acpi_space.proofs.building.Building.pass.Goals as goal

pub returns-clause-done : goal.returns-clause-done
returns-clause-done c before stands =
    let old = c.args.self.now in
    let k = c.args.scope in (
      after_passing old.tree old.placed.items old.index.items before k c.args.opcode stands.0 c.requires c.facts.ensures.closed,
      rw c.in_ok-push.ensures.items (one_passed old.tree old.passed.items before k c.args.opcode stands.1 c.requires),
    )
