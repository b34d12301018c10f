use Rattle.std.proofs.Common.{◌≡◌, [], length, get_or, ap, subst, arith}
use Rattle.acpi_space.proofs.Trees.{root_at, length_in, above_answer}
use Rattle.acpi_space.proofs.tree.Tree.above.Goals as goal

pub returns-then-at-eq0-clause-root : goal.returns-then-at-eq0-clause-root
returns-then-at-eq0-clause-root c = rw c.if-at-eq0.true (subst (λ t. get_or t 0 [] ≡ []) c.self.view_is (root_at c.self.inside.names.items).1)

pub index-name-requires : goal.index-name-requires
index-name-requires c =
    let size = length_in c.self.inside.names.items in
    let same = ap length c.self.view_is in
    let count = c.self.inside.names.ok.0 in
    let inside = c.requires in
    let some = c.if-at-eq0.false in
    omega (arith, size, same, count, inside, some)

pub returns-clause-root : goal.returns-clause-root
returns-clause-root c =
    (above_answer c.self.inside.names.items c.self.inside.numbers c.args.at c.index-name.result.now c.args.self.now c.self.invariant c.self.view_is c.requires c.if-at-eq0.false c.index-name.ensures).0

pub returns-clause-less : goal.returns-clause-less
returns-clause-less c =
    (above_answer c.self.inside.names.items c.self.inside.numbers c.args.at c.index-name.result.now c.args.self.now c.self.invariant c.self.view_is c.requires c.if-at-eq0.false c.index-name.ensures).1
