use Rattle.std.proofs.Common.{◌≡◌, map, take}
use Rattle.pw_text.specs.Text.{place_text}
use Rattle.pw_script.proofs.paths.path_texts.Given as goal

abbrev pub invariant-loop-cpu : goal.invariant-loop-cpu
invariant-loop-cpu l = l.paths ≡ map (λ c. place_text c.path.segs) (take l.cpu-index l.plan.cpus)
