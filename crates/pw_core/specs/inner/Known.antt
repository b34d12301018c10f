-- A container whose vote was computed before.
use Rattle.std.specs.Prelude.{◌≡◌, ◌==◌, ℕ, Option, Some, None, if◌then◌else◌}
use Rattle.pw_plan.specs.declared.plan.Plan.{Plan}
use Rattle.pw_model.specs.declared.state.State.{State}
use Rattle.pw_model.specs.declared.state.Vote.{Vote}
use Rattle.pw_model.specs.Containers.{container_vote}
use Rattle.pw_core.specs.declared.tree.KnownVote.{KnownVote}

-- what is known is the container's vote in this state
abbrev pub IsKnown : Plan → State → Option KnownVote → Type 0
IsKnown P S None = Unit {0}
IsKnown P S (Some k) = k.vote ≡ container_vote P S k.node

-- the vote of container n, where it is the one that is known
abbrev pub known_vote : Option KnownVote → ℕ → Option Vote
known_vote None n = None
known_vote (Some k) n = if k.node == n then Some k.vote else None
