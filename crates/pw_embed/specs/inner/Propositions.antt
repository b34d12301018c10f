-- That a state is of a plan is shown in one way at most.
use Rattle.std.specs.Prelude.{ℕ, Option, Some, None}
use Rattle.std.proofs.Props.{props}
use native.Mathlib.Nat.{ℕ_set}
use native.Mathlib.Bridge.{le_prop}
use Rattle.pw_plan.specs.declared.parts.Scale.{Scale}
use Rattle.pw_model.specs.States.{IsIndex}

pub IsIndex-prop : (s : Option Scale) (i : ℕ) → IsProp (IsIndex s i)
IsIndex-prop None i = ℕ_set i 0
IsIndex-prop (Some scale) i = le_prop

pub ruleset state_props = (props, IsIndex-prop)

pub ruleset number_props = (props)
