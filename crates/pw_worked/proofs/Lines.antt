-- States of the containers in a line upwards.
use Rattle.std.proofs.Common.{◌≡◌, ◌<◌, ◌≤◌, ℕ, List, ◌∷◌, length, Some}
use Rattle.acpi_values.specs.Idle.{rows_of}
use Rattle.pw_plan.specs.declared.plan.Plan.{Plan}
use Rattle.pw_plan.specs.Places.{container_at}
use Rattle.pw_plan.specs.Tree.{line_from}
use Rattle.pw_core.specs.Chains.{AreStates}
use Rattle.pw_core.proofs.Climbing.{line-Some}

pub states-more : (P : Plan) (n s : ℕ) (ss : List ℕ) → n < length P.containers → 1 ≤ s → s ≤ length (rows_of (container_at P n).idle)
    → AreStates P (line_from P.containers (container_at P n).parent) ss → AreStates P (line_from P.containers (Some n)) (s ∷ ss)
states-more P n s ss lt one fits above = rw (line-Some P n lt) (one, fits, above)
