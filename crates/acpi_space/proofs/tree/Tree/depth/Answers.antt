use Rattle.std.proofs.Common.{[], length, get_or, ap, ◌∙◌, arith}
use Rattle.acpi_space.specs.inner.Trees.{places_in}
use Rattle.acpi_space.proofs.Trees.{length_in}
use Rattle.acpi_space.proofs.tree.Tree.depth.Goals as goal

pub returns : goal.returns
returns c =
    c.depth_in.ensures ∙ ap (λ ns. length (get_or (places_in ns) c.args.at [])) c.as_slice.ensures.value ∙ ap (λ t. length (get_or t c.args.at [])) c.self.view_is

pub depth_in-requires-clause-within : goal.depth_in-requires-clause-within
depth_in-requires-clause-within c =
    let size = length_in c.self.inside.names.items in
    let same = ap length c.self.view_is in
    let count = ap length c.as_slice.ensures.value in
    let inside = c.requires in
    omega (arith, size, same, count, inside)
