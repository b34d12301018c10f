-- Where processors stand, as it is noted of each.
use Rattle.std.specs.Prelude.{◌≡◌, ℕ, List, length, slice_index_or}
use Rattle.pw_cppc.specs.declared.plan.CppcPlan.{CppcPlan}
use Rattle.pw_cppc.specs.declared.numbers.CppcNumbers.{CppcNumbers}
use Rattle.pw_cppc.specs.Controls.{IsFitMember}
use Rattle.pw_cppc.specs.States.{standing}

-- There is a number for each processor, and of each member of a fit domain it says where that stands.
pub record AreStandings (P : CppcPlan) (S : CppcNumbers) (stood : List ℕ) : Type 0 where
  pub size : length stood ≡ length P.cpus
  pub each : (d p : ℕ) → IsFitMember P d p → slice_index_or stood p 0 ≡ standing P S d p
