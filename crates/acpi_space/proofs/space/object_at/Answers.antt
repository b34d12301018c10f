use Rattle.std.proofs.Common.{sym, ◌∙◌}
use Rattle.acpi_space.proofs.Known.{free_place}
use Rattle.acpi_space.proofs.space.object_at.Goals as goal

pub returns-in-None : goal.returns-in-None
returns-in-None c = free_place c.args.tree.now c.args.placed.now c.args.index.now c.args.name c.requires.indexed c.requires.distinct c.requires.within (sym c.number_at.ensures ∙ c.in-None.is)
