use Rattle.std.proofs.Common.{◌∷◌, length}
use Rattle.pw_plan.specs.Tree.{line_from}
use Rattle.pw_model.specs.States.{vote_of, with_change}
use Rattle.pw_model.specs.Containers.{ancestors}
use Rattle.pw_model.specs.Answers.{states_along}
use Rattle.pw_core.specs.inner.Known.{IsKnown}
use Rattle.pw_core.proofs.Climbing.{Climbs}
use Rattle.pw_core.proofs.chain.climbed.Given as goal

abbrev pub invariant-loop-next : goal.invariant-loop-next
invariant-loop-next l = record {
  climbs : Climbs l.plan (with_change l.state l.change) ((vote_of (with_change l.state l.change) l.cpu).state ∷ states_along l.plan (with_change l.state l.change) (ancestors l.plan l.cpu)) l.chain
      l.next;
  known : IsKnown l.plan (with_change l.state l.change) l.known;
}

abbrev pub decreases-loop-next : goal.decreases-loop-next
decreases-loop-next l = length (line_from l.plan.containers l.next)
