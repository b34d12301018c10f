-- The texts of the processors' paths.
use Rattle.std.specs.Prelude.{ℕ, List, map}
use Rattle.pw_text.specs.Text.{place_text}
use Rattle.pw_cppc.specs.declared.plan.CppcPlan.{CppcPlan}

-- by their numbers
abbrev pub paths_of : CppcPlan → List (List ℕ)
paths_of P = map (λ path. place_text path.segs) P.paths
