-- What is kept of the numbers while a history is printed.
use Rattle.std.specs.Prelude.{◌≡◌, ℕ, Bool, true, false, max}
use Rattle.pw_cppc.specs.declared.plan.CppcPlan.{CppcPlan}
use Rattle.pw_cppc.specs.declared.numbers.CppcNumbers.{CppcNumbers}
use Rattle.pw_cppc.specs.Requests.{opening_bound}
use Rattle.pw_cppc.specs.Standings.{AreStandings}
use Rattle.pw_cppc.specs.States.{AreNumbers}
use Rattle.pw_cppc_drive.specs.declared.kind.Followed.{Followed}
use Rattle.pw_cppc_drive.specs.declared.kind.Followed.TheVariants.{Numbers, Standings}

-- of the numbers S where processors stand, where the replies are known; else all of them
abbrev pub IsKept : CppcPlan → Bool → CppcNumbers → Followed → Type 0
IsKept P known S (Standings stood) = (known ≡ true) × AreStandings P S stood
IsKept P known S (Numbers numbers) = (known ≡ false) × (numbers ≡ S) × AreNumbers P S

-- no fewer operations than the opening has, or any request
abbrev pub most_of : CppcPlan → ℕ
most_of P = max (opening_bound P) 257
