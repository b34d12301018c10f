use Rattle.std.proofs.Common.{arith}
use Rattle.pw_walker.proofs.Beginnings.{states_alone}
use Rattle.pw_walker.proofs.Scaled.{groups_few}
use Rattle.pw_walker.proofs.beginning.begin_vote.Goals as goal

pub overflow_cast-result : goal.overflow_cast-result
overflow_cast-result c = let few = groups_few c.args.plan.now in omega (arith, few, c.in-Some.ensures.place.0, c.in-Some.ensures.place.1)

pub climbed-requires-clause-states : goal.climbed-requires-clause-states
climbed-requires-clause-states c =
    states_alone c.args.plan.now c.args.request.now c.requires.vote c.requires.accepted c.own_vote-vote.result c.own_vote-vote.ensures
    c.chain_of_one-chain.result c.chain_of_one-chain.ensures
