use Rattle.pw_core.specs.Chains.{states_in}
use Rattle.pw_walker.specs.Places.{ahead}
use Rattle.pw_walker.proofs.Climbs.{up_to_none}
use Rattle.pw_walker.proofs.climbing.climb_on.Goals as goal

pub climbed-requires-clause-states : goal.climbed-requires-clause-states
climbed-requires-clause-states c =
    up_to_none c.args.plan.now c.args.request.now (states_in c.args.climb.chain) (ahead c.args.plan.now c.args.climb) c.requires.hands.climb.states
