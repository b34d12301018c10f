use Rattle.std.proofs.Common.{sym, ap, subst, ◌∙◌}
use Rattle.acpi_space.specs.Things.{thing}
use Rattle.acpi_build.specs.Tables.{IsCountableThing}
use Rattle.acpi_build.proofs.tables.look.Goals as goal

pub returns-in-Data-clause-countable : goal.returns-in-Data-clause-countable
returns-in-Data-clause-countable c = subst IsCountableThing (sym c.in-Some.ensures.object ∙ ap thing c.in-Data.is) (c.requires.countable c.in-Some.placed.now.index)
