use Rattle.std.proofs.Common.{◌≤◌, ◌∙◌, ◌++◌, List, length, ap, arith, sym}
use Rattle.acpi_values.specs.declared.operation.Op.{Op}
use Rattle.pw_plan.specs.Places.{group_of}
use Rattle.pw_plan.specs.Requests.{cpu_of}
use Rattle.pw_script.proofs.Replied.{tells}
use Rattle.pw_script.proofs.known.enter.Goals as goal

pub enter_alone-requires-clause-chain : goal.enter_alone-requires-clause-chain
enter_alone-requires-clause-chain c = (tells c.args.plan.now c.args.state.now c.args.chain.now c.requires.fits c.args.request c.requires.request c.requires.told).chain

pub enter_alone-requires-clause-states : goal.enter_alone-requires-clause-states
enter_alone-requires-clause-states c =
    rw c.cpu-in-None.ensures ((tells c.args.plan.now c.args.state.now c.args.chain.now c.requires.fits c.args.request c.requires.request c.requires.told).states)

pub enter_alone-requires-clause-room : goal.enter_alone-requires-clause-room
enter_alone-requires-clause-room c =
    let bound = (tells c.args.plan.now c.args.state.now c.args.chain.now c.requires.fits c.args.request c.requires.request c.requires.told).bound in
    let room = c.requires.room in
    omega (arith, bound, room)

pub returns-in-None : goal.returns-in-None
returns-in-None c =
    let P = c.args.plan.now in
    let q = c.args.request in
    let past : length P.groups ≤ group_of P (cpu_of q) = let e = rw c.cpu.ensures at c.in-None.ensures.place in omega (arith, e) in
    let is = (tells P c.args.state.now c.args.chain.now c.requires.fits q c.requires.request c.requires.told).alone past in
    rw c.cpu-in-None.ensures at c.enter_alone.ensures
    ∙ ap (λ (ops : List Op). record { elements = c.args.ops.now.elements ++ ops; capacity = c.args.ops.now.capacity }) (sym is)
