use Rattle.pw_walker.specs.Places.{walk_of}
use Rattle.pw_walker.proofs.Climbs.{hands_on, past_goes, past_stops, some_room, states_all, vote_may}
use Rattle.pw_walker.proofs.climbing.go_past.Goals as goal

pub chain_with-chain-requires-clause-room : goal.chain_with-chain-requires-clause-room
chain_with-chain-requires-clause-room c = some_room c.args.plan.now c.args.request.now c.args.node c.args.climb c.requires.node c.requires.room

pub climbed-requires-clause-states : goal.climbed-requires-clause-states
climbed-requires-clause-states c =
    let P = c.args.plan.now in
    let q = c.args.request.now in
    states_all P q c.args.node c.args.climb c.requires.node c.requires.room c.args.turned.vote c.goes_on-rising.result c.chain_with-chain.result c.goes_on-rising.ensures c.chain_with-chain.ensures
    c.requires.climb c.requires.parent (vote_may P q c.args.node c.args.turned.vote c.requires.voted)

pub returns-then-turned-clause-walk : goal.returns-then-turned-clause-walk
returns-then-turned-clause-walk c =
    past_stops c.args.plan.now c.args.request.now c.args.node c.args.climb c.requires.node c.requires.room c.args.turned.vote c.goes_on-rising.result c.chain_with-chain.result
    c.goes_on-rising.ensures c.chain_with-chain.ensures (walk_of c.climbed.result c.climbed.new.ops.elements) c.args.turned.runs c.if-turned.true c.climbed.ensures.walk

pub climb_on-requires-clause-hands : goal.climb_on-requires-clause-hands
climb_on-requires-clause-hands c =
    hands_on c.args.plan.now c.args.request.now c.args.node c.args.climb c.requires.node c.requires.room c.args.turned.vote c.goes_on-rising.result c.chain_with-chain.result
    c.goes_on-rising.ensures c.chain_with-chain.ensures c.requires.climb c.requires.parent c.requires.accepted c.requires.voted

pub returns-clause-walk : goal.returns-clause-walk
returns-clause-walk c =
    past_goes c.args.plan.now c.args.request.now c.args.node c.args.climb c.requires.node c.requires.room c.args.turned.vote c.goes_on-rising.result c.chain_with-chain.result
    c.goes_on-rising.ensures c.chain_with-chain.ensures (walk_of c.climb_on.result c.climb_on.new.ops.elements) c.args.turned.runs c.if-turned.false c.climb_on.ensures.walk
