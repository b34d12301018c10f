-- The texts of a plan's paths.
use Rattle.std.proofs.Common.{◌≡◌, ℕ}
use Rattle.std.proofs.Math.ListN.{get_or-map}
use Rattle.aml_data.specs.declared.path.FullPath.{FullPath}
use Rattle.pw_text.specs.Text.{place_text}
use Rattle.pw_text.specs.Paths.{text_at}
use Rattle.pw_cppc.specs.declared.plan.CppcPlan.{CppcPlan}
use Rattle.pw_cppc.specs.Sound.{no_path}
use Rattle.pw_cppc_drive.specs.HistoryText.{path_of}
use Rattle.pw_cppc_drive.specs.inner.Paths.{paths_of}

pub path_text : (P : CppcPlan) (p : ℕ) → text_at (paths_of P) p ≡ path_of P p
unfolding no_path
path_text P p = get_or-map (λ (path : FullPath). place_text path.segs) P.paths p no_path
