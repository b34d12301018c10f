-- The climb as a loop that puts each part as it goes.
use Rattle.std.specs.Prelude.{◌≡◌, ℕ, List, [], ◌∷◌, Some, if◌then◌else◌}
use Rattle.pw_plan.specs.declared.domain.Child.{Child}
use Rattle.pw_plan.specs.declared.domain.Child.TheVariants.{Container}
use Rattle.pw_plan.specs.declared.plan.Plan.{Plan}
use Rattle.pw_plan.specs.Places.{container_at}
use Rattle.pw_plan.specs.Tree.{line_from}
use Rattle.pw_model.specs.declared.state.Vote.{Vote}
use Rattle.pw_model.specs.Containers.{node_vote}
use Rattle.pw_model.specs.Effects.{both_run, climb, votes_in, votes_with}
use Rattle.pw_model.specs.Locality.{put}
use Rattle.pw_model.specs.Records.{Part, Record, container, votes}

-- the parts where the children of container n vote so
abbrev pub put_votes : (Record → Part) → ℕ → List Vote → Record → Part
put_votes F n vs = put F (record { place = container n; part = votes vs } ∷ [])

-- from a container upwards: it is taken, and where it doesn't run before and after the climb goes on from what is then held
abbrev pub IsClimbStep : Plan → (Record → Part) → Child → Vote → ℕ → Type 0
IsClimbStep P F c v n =
    let old = votes_in (F (container n)) in
    let new = votes_with P n c v old in
    climb P F c v (line_from P.containers (Some n)) ≡ record { node = n; votes = new }
    ∷ (if both_run (node_vote P n old) (node_vote P n new) then [] else climb P (put_votes F n new) (Container n) (node_vote P n new)
    (line_from P.containers (container_at P n).parent))
