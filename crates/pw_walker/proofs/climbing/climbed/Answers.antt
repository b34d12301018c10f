use Rattle.std.proofs.Common.{◌≤◌, ◌+◌, arith, length}
use Rattle.pw_plan.specs.Requests.{group_bound}
use Rattle.pw_core.specs.Chains.{states_in}
use Rattle.pw_walker.proofs.Climbs.{all_states}
use Rattle.pw_walker.proofs.Groups.{some_bound}
use Rattle.pw_walker.proofs.climbing.climbed.Goals as goal

pub chain_composite-requires-clause-states : goal.chain_composite-requires-clause-states
chain_composite-requires-clause-states c =
    all_states c.args.plan.now c.args.request.now c.in-Idle.cpu c.in-Idle.state c.in-Idle.tolerance (states_in c.args.chain) c.in-Idle.is c.requires.states

pub push-requires : goal.push-requires
push-requires c =
    let room : length c.args.ops.now.elements + group_bound c.args.plan.now c.in-Idle.cpu ≤ c.args.ops.now.capacity = rw c.in-Idle.is at c.requires.ready.room in
    let some = some_bound c.args.plan.now c.in-Idle.cpu in
    omega (arith, room, some)
