-- What standing means, said of members one by one.
use Rattle.std.specs.Prelude.{◌≡◌, ◌≢◌, ◌≤◌, ◌⊎◌, ℕ, true}
use Rattle.pw_plan.specs.Groups.{has_member}
use Rattle.pw_cppc.specs.declared.plan.CppcPlan.{CppcPlan}
use Rattle.pw_cppc.specs.declared.request.CppcRequest.{CppcRequest}
use Rattle.pw_cppc.specs.declared.request.CppcRequest.TheVariants.{Desired, Minimum, Maximum}
use Rattle.pw_cppc.specs.Planning.{domain_at}
use Rattle.pw_cppc.specs.declared.numbers.CppcNumbers.{CppcNumbers}
use Rattle.pw_cppc.specs.States.{ask_of, maximum_of, minimum_of}

-- no member of the domain allows less than this performance
abbrev pub IsAllowed : CppcPlan → CppcNumbers → ℕ → ℕ → Type 0
IsAllowed P S d v = (q : ℕ) → has_member (domain_at P d).members q ≡ true → v ≤ maximum_of S q

-- it satisfies what each member asks for and the least that each allows
abbrev pub Satisfies : CppcPlan → CppcNumbers → ℕ → ℕ → Type 0
Satisfies P S d v = (q : ℕ) → has_member (domain_at P d).members q ≡ true → (ask_of S q ≤ v) × (minimum_of S q ≤ v)

-- Performance v is what is asked for, where that is within the bounds; else the bound that it is past, or the maximum where the bounds are
-- crossed.
pub record IsNearest (ask minimum maximum v : ℕ) : Type 0 where
  pub asked : minimum ≤ ask → ask ≤ maximum → v ≡ ask
  pub raised : ask ≤ minimum → minimum ≤ maximum → v ≡ minimum
  pub lowered : (maximum ≤ ask) ⊎ (maximum ≤ minimum) → v ≡ maximum

-- of numbers before and after, processor p's has become v, and each other one stays
abbrev pub IsChanged : (ℕ → ℕ) → (ℕ → ℕ) → ℕ → ℕ → Type 0
IsChanged before later p v = (later p ≡ v) × ((q : ℕ) → q ≢ p → later q ≡ before q)

-- the request turns the numbers S into T: one of three lists changes, at one place
abbrev pub Leaves : CppcNumbers → CppcRequest → CppcNumbers → Type 0
Leaves S (Desired p v) T = IsChanged (ask_of S) (ask_of T) p v × (T.minima ≡ S.minima) × (T.maxima ≡ S.maxima)
Leaves S (Minimum p v) T = IsChanged (minimum_of S) (minimum_of T) p v × (T.asks ≡ S.asks) × (T.maxima ≡ S.maxima)
Leaves S (Maximum p v) T = IsChanged (maximum_of S) (maximum_of T) p v × (T.asks ≡ S.asks) × (T.minima ≡ S.minima)
