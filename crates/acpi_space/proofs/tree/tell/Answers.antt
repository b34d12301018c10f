use Rattle.std.proofs.Common.{sym, ◌∙◌}
use Rattle.acpi_space.specs.inner.Trees.{key}
use Rattle.acpi_space.proofs.Trees.{told_again}
use Rattle.acpi_space.proofs.tree.tell.Goals as goal

pub returns-in-Ok-clause-told : goal.returns-in-Ok-clause-told
returns-in-Ok-clause-told c =
    let was = sym c.in_ok-known.ensures.old ∙ c.in-Some.is in (
      was,
      told_again c.args.map.now c.insert.new.self c.insert-in-Some.new.self (key c.args.seg c.args.at) c.args.number c.in-Some.before was c.in_ok-known.ensures.updates c.in-Ok.ensures.updates,
    )
