use Rattle.std.proofs.Common.{◌-◌, ◌<◌, length, sym, ap, subst, arith}
use Rattle.acpi_space.specs.inner.Trees.{IsRisen}
use Rattle.acpi_space.proofs.Trees.{length_in, above_answer}
use Rattle.acpi_space.proofs.Rising.{risen_above, risen_by, back_read}
use Rattle.acpi_space.proofs.tree.Tree.rise.Goals as goal

pub index-name-requires : goal.index-name-requires
index-name-requires c =
    let size = length_in c.self.inside.names.items in
    let same = ap length c.self.view_is in
    let count = c.self.inside.names.ok.0 in
    let inside = c.requires.within in
    let some = c.requires.some in
    omega (arith, size, same, count, inside, some)

pub returns-then-back-eq0 : goal.returns-then-back-eq0
returns-then-back-eq0 c =
    let some = c.requires.some in
    let up = above_answer c.self.inside.names.items c.self.inside.numbers c.args.at c.index-name.result.now c.args.self.now c.self.invariant c.self.view_is c.requires.within
    (λ e. omega (arith, some, e)) c.index-name.ensures in
    risen_above c.args.self.now c.args.at c.args.least c.index-name.result.now.above c.index-name.result.now.seg up.0 up.1

pub returns-then-back-at : goal.returns-then-back-at
returns-then-back-at c =
    let some = c.requires.some in
    let bare = c.if-back-eq0.false in
    let far = c.if-back-at.true in
    let back = back_read c.self.inside.names.items c.args.at c.index-name.result.now (omega (arith, some)) c.index-name.ensures (subst
    (λ t. c.args.at < length t) (sym c.self.view_is) c.requires.within) in
    risen_by c.self.inside.names.items c.self.inside.numbers c.args.self.now c.args.at c.args.least c.index-name.result.now.back c.self.invariant c.self.view_is c.requires.within
    (omega (arith, bare)) (omega (arith, back)) (omega (arith, far, some))

pub returns-else-back-at : goal.returns-else-back-at
returns-else-back-at c =
    let some = c.requires.some in
    let bare = c.if-back-eq0.false in
    let far = c.if-back-at.false in
    let back = back_read c.self.inside.names.items c.args.at c.index-name.result.now (omega (arith, some)) c.index-name.ensures (subst
    (λ t. c.args.at < length t) (sym c.self.view_is) c.requires.within) in
    let steps = risen_by c.self.inside.names.items c.self.inside.numbers c.args.self.now c.args.at c.args.least (c.args.at - c.args.least) c.self.invariant c.self.view_is c.requires.within
    (omega (arith, some)) (omega (arith, back, far)) (omega (arith, some)) in
    subst (λ k. IsRisen c.args.self.now c.args.at c.args.least k) (omega (arith, some)) steps
