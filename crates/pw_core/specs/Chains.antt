-- The states in a chain.
use Rattle.std.specs.Prelude.{◌≡◌, ◌≤◌, ◌-◌, ◌++◌, ℕ, List, [], ◌∷◌, length, take, replicate}
use Rattle.acpi_values.specs.Idle.{rows_of}
use Rattle.acpi_values.specs.declared.operation.Chain.{Chain}
use Rattle.pw_plan.specs.declared.plan.Plan.{Plan}
use Rattle.pw_plan.specs.Places.{container_at, cpu_at}
use Rattle.pw_model.specs.Containers.{ancestors}

abbrev pub states_in : Chain → List ℕ
states_in c = take c.len c.states

-- There are nine places at most, and behind the states there are zeros.
pub record IsChain (c : Chain) : Type 0 where
  pub places : length c.states ≡ 9
  pub room : c.len ≤ 9
  pub zeros : c.states ≡ take c.len c.states ++ replicate (9 - c.len) 0

-- each is a state of the container that stands at its place
abbrev pub AreStates : Plan → List ℕ → List ℕ → Type 0
AreStates P ns [] = Unit {0}
AreStates P [] (s ∷ ss) = ⊥
AreStates P (n ∷ ns) (s ∷ ss) = (1 ≤ s) × (s ≤ length (rows_of (container_at P n).idle)) × AreStates P ns ss

-- the first is a state of the processor, the others are states of its containers upwards
abbrev pub AreStatesOf : Plan → ℕ → List ℕ → Type 0
AreStatesOf P p [] = ⊥
AreStatesOf P p (s ∷ ss) = (1 ≤ s) × (s ≤ length (rows_of (cpu_at P p).idle)) × AreStates P (ancestors P p) ss
