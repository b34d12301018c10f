use Rattle.std.proofs.Common.{[], subst}
use Rattle.acpi_space.specs.inner.Trees.{IsClosed, IsAt}
use Rattle.acpi_space.proofs.Trees.{closed, root_at}
use Rattle.acpi_space.proofs.Rising.{ordered}
use Rattle.acpi_space.proofs.tree.Tree.facts.Goals as goal

pub returns-clause-closed : goal.returns-clause-closed
returns-clause-closed c = subst IsClosed c.self.view_is (closed c.self.inside.names.items c.self.inside.numbers c.self.invariant)

pub returns-clause-root : goal.returns-clause-root
returns-clause-root c = subst (λ t. IsAt t 0 []) c.self.view_is (root_at c.self.inside.names.items)

pub returns-clause-ordered : goal.returns-clause-ordered
returns-clause-ordered c = ordered c.self.inside.names.items c.self.inside.numbers c.args.self.now c.self.invariant c.self.view_is
