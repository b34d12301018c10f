-- Where containers and performance domains stand, as it is put.
use Rattle.std.specs.Prelude.{ℕ, List, [], ◌∷◌, length, codes, decimal, if◌then◌else◌}
use Rattle.std.specs.List.{flat_map, range_with_len}
use Rattle.pw_plan.specs.declared.domain.DomainKind.TheVariants.{Perf}
use Rattle.pw_plan.specs.declared.plan.Plan.{Plan}
use Rattle.pw_plan.specs.Covering.{same_kind}
use Rattle.pw_plan.specs.Places.{domain_at}
use Rattle.pw_model.specs.declared.state.State.{State}
use Rattle.pw_model.specs.Containers.{container_vote}
use Rattle.pw_generate.specs.Summary.{container_states, labelled, standing_of, standings}

-- the state of container n, behind a space
abbrev pub state_behind : Plan → State → ℕ → List ℕ
state_behind P S n = 32 ∷ decimal (container_vote P S n).state

abbrev pub states_behind : Plan → State → List ℕ
states_behind P S = flat_map (state_behind P S) (range_with_len 0 (length P.containers))

-- where the domain at place d stands, behind a space, if it is one of performance
abbrev pub standing_behind : Plan → State → ℕ → List ℕ
standing_behind P S d = if same_kind (domain_at P d).kind Perf then 32 ∷ decimal (standing_of P S d) else []

abbrev pub standings_behind : Plan → State → List ℕ
standings_behind P S = flat_map (standing_behind P S) (range_with_len 0 (length P.domains))

-- the lines of a state
abbrev pub end_lines : Plan → State → List (List ℕ)
end_lines P S = labelled (codes "containers") (container_states P S) ∷ labelled (codes "standing") (standings P S) ∷ []
