use Rattle.std.proofs.Common.{◌∙◌, ◌++◌, List, ap, arith, sym}
use Rattle.acpi_values.specs.declared.operation.Op.{Op}
use Rattle.pw_script.proofs.Replied.{tells_place}
use Rattle.pw_script.proofs.known.stand.Goals as goal

pub unreachable-requires : goal.unreachable-requires
unreachable-requires c =
    let P = c.args.plan.now in
    let place = (tells_place P c.args.state.now c.args.index c.requires.fits c.args.request c.requires.request c.requires.told).placed in
    let e = rw (c.in_default.is, c.kind_of-kind.ensures, c.cpu-cpu.ensures) at c.domain_of.ensures.place in
    omega (arith, place, e)

pub overflow_cast-index : goal.overflow_cast-index
overflow_cast-index c =
    let few = (tells_place c.args.plan.now c.args.state.now c.args.index c.requires.fits c.args.request c.requires.request c.requires.told).few in
    omega (arith, few)

pub set_changed-requires-clause-room : goal.set_changed-requires-clause-room
set_changed-requires-clause-room c =
    let P = c.args.plan.now in
    let is = (tells_place P c.args.state.now c.args.index c.requires.fits c.args.request c.requires.request c.requires.told).bound in
    let place = rw (c.kind_of-kind.ensures, c.cpu-cpu.ensures) at c.in-Some.ensures.place.0 in
    rw (place, ← is) c.requires.room

pub returns : goal.returns
returns c =
    let P = c.args.plan.now in
    let is = (tells_place P c.args.state.now c.args.index c.requires.fits c.args.request c.requires.request c.requires.told).ops in
    let place = rw (c.kind_of-kind.ensures, c.cpu-cpu.ensures) at c.in-Some.ensures.place.0 in
    rw (c.standing_now-before.ensures, c.kind_of-kind.ensures, c.cpu-cpu.ensures, c.lists.ensures, place) at c.set_changed.ensures
    ∙ ap (λ (ops : List Op). record { elements = c.args.ops.now.elements ++ ops; capacity = c.args.ops.now.capacity }) (sym is)
