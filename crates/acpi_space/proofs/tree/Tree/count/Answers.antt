use Rattle.std.proofs.Common.{length, ap, arith}
use Rattle.acpi_space.proofs.Trees.{length_in}
use Rattle.acpi_space.proofs.tree.Tree.count.Goals as goal

pub returns : goal.returns
returns c =
    let size = length_in c.self.inside.names.items in
    let same = ap length c.self.view_is in
    let count = c.self.inside.names.ok.0 in
    omega (arith, size, same, count, c.len.ensures)
