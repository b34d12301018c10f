use Rattle.std.proofs.Common.{◌≡◌, ◌-◌, ◌+◌, [], length, get_or, sym, ap, ◌∙◌, arith}
use Rattle.acpi_space.specs.inner.Trees.{places_in}
use Rattle.acpi_space.proofs.Trees.{root_at}
use Rattle.acpi_space.proofs.tree.depth_in.Goals as goal

pub returns-then-at-eq0 : goal.returns-then-at-eq0
returns-then-at-eq0 c = rw c.if-at-eq0.true (sym (ap length (root_at c.args.names.now).1))

pub returns : goal.returns
returns c =
    let names = c.args.names.now in
    let some = c.if-at-eq0.false in
    let within = c.requires.within in
    let back : (c.args.at - 1) + 1 ≡ c.args.at = omega (arith, some) in
    c.requires.deep (c.args.at - 1) c.index-names-at.result (omega (arith, some, within)) ∙ ap (λ k. length (get_or (places_in names) k [])) back
