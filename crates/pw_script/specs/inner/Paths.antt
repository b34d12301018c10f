-- The texts of the processors' paths.
use Rattle.std.specs.Prelude.{ℕ, List, map}
use Rattle.pw_text.specs.Text.{place_text}
use Rattle.pw_plan.specs.declared.plan.Plan.{Plan}

-- by their numbers
abbrev pub paths_of : Plan → List (List ℕ)
paths_of P = map (λ c. place_text c.path.segs) P.cpus
