-- What is noted of where processors stand.
use Rattle.std.specs.Prelude.{ℕ, List, [], ◌∷◌, length, nat_lt, slice_set, if◌then◌else◌}
use Rattle.pw_plan.specs.Groups.{is_software}
use Rattle.pw_cppc.specs.declared.plan.CppcDomain.{CppcDomain}
use Rattle.pw_cppc.specs.declared.plan.CppcPlan.{CppcPlan}
use Rattle.pw_cppc.specs.declared.numbers.CppcNumbers.{CppcNumbers}
use Rattle.pw_cppc.specs.Planning.{domain_of}
use Rattle.pw_cppc.specs.States.{stands}

-- where processor p stands, 0 where it has no domain
abbrev pub stood_by : CppcPlan → CppcNumbers → ℕ → ℕ
stood_by P S p = if nat_lt (domain_of P p) (length P.domains) then stands P S p else 0

-- the list with v at each of these places
abbrev pub written : List ℕ → List ℕ → ℕ → List ℕ
written xs [] v = xs
written xs (p ∷ ps) v = written (slice_set xs p v) ps v

-- who stands where processor p of a domain does: all members, or where hardware coordinates them p alone
abbrev pub standing_with : CppcDomain → ℕ → List ℕ
standing_with d p = if is_software d.coord then d.members else p ∷ []
