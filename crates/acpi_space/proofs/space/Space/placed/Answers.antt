use Rattle.acpi_space.proofs.Known.{are_objects, distinct_places}
use Rattle.acpi_space.proofs.space.Space.placed.Goals as goal

pub returns-clause-objects : goal.returns-clause-objects
returns-clause-objects c =
    are_objects c.self.inside.tree c.self.inside.placed.items c.as_slice.result.now c.self.inside.index.items c.args.self.now c.self.invariant c.self.view_is c.as_slice.ensures.value

pub returns-clause-distinct : goal.returns-clause-distinct
returns-clause-distinct c =
    distinct_places c.self.inside.tree c.self.inside.placed.items c.self.inside.index.items c.args.self.now c.self.invariant c.facts.ensures.distinct c.self.view_is
