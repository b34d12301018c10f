use Rattle.std.proofs.Common.{◌≡◌, map, take}
use Rattle.pw_text.specs.Text.{place_text}
use Rattle.pw_cppc_drive.proofs.paths.cppc_path_texts.Given as goal

abbrev pub invariant-loop-path : goal.invariant-loop-path
invariant-loop-path l = l.paths ≡ map (λ path. place_text path.segs) (take l.path-index l.plan.paths)
