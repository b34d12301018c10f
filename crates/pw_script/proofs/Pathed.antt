-- The texts of a plan's paths.
use Rattle.std.proofs.Common.{◌≡◌, ℕ}
use Rattle.std.proofs.Math.ListN.{get_or-map}
use Rattle.pw_text.specs.Text.{place_text}
use Rattle.pw_text.specs.Paths.{text_at}
use Rattle.pw_plan.specs.declared.parts.CpuParts.{CpuParts}
use Rattle.pw_plan.specs.declared.plan.Plan.{Plan}
use Rattle.pw_plan.specs.Parts.{no_cpu}
use Rattle.pw_script.specs.HistoryText.{path_of}
use Rattle.pw_script.specs.inner.Paths.{paths_of}

pub path_text : (P : Plan) (p : ℕ) → text_at (paths_of P) p ≡ path_of P p
unfolding no_cpu
path_text P p = get_or-map (λ (c : CpuParts). place_text c.path.segs) P.cpus p no_cpu
