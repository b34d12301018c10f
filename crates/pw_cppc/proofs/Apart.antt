-- No two processors of a machine have the same path.
use Rattle.std.proofs.Common.{◌≡◌, ◌<◌, ℕ, map, sym, subst, ◌∙◌}
use Rattle.std.proofs.Math.ListN.{get_or-map}
use Rattle.std.proofs.Math.Logic.{∥∥₁_elim}
use Rattle.std.proofs.lemmas.List.{length-map}
use Rattle.aml_data.specs.declared.path.FullPath.{FullPath}
use Rattle.pw_plan.specs.declared.parts.CpuParts.{CpuParts}
use Rattle.pw_plan.specs.declared.plan.Plan.{Plan}
use Rattle.pw_plan.specs.Parts.{no_cpu}
use Rattle.pw_plan.specs.Places.{cpu_at}
use Rattle.pw_cppc.specs.Sound.{PathsDiffer, no_path, path_in}

abbrev path : CpuParts → FullPath
path c = c.path

path_at : (P : Plan) (p : ℕ) → path_in (map path P.cpus) p ≡ (cpu_at P p).path
unfolding no_cpu no_path
path_at P p = get_or-map path P.cpus p no_cpu

pub machine_paths : (P : Plan) → PathsDiffer (map path P.cpus)
machine_paths P p q lt b same =
    let within = subst (λ n. q < n) (length-map P.cpus path) b in
    ∥∥₁_elim P.planned (hlevel) (λ plan. plan.fit.paths p q lt within (sym (path_at P p) ∙ same ∙ path_at P q))
