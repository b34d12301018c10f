use Rattle.std.proofs.Common.{◌∙◌}
use Rattle.acpi_space.proofs.Trees.{child_answer}
use Rattle.acpi_space.proofs.tree.Tree.child.Goals as goal

pub returns : goal.returns
returns c =
    child_answer c.self.inside.names.items c.self.inside.numbers c.args.at c.args.seg c.args.self.now c.self.invariant c.self.view_is c.requires c.copied.result (c.copied.ensures
    ∙ c.get.ensures.value)
