use Rattle.std.proofs.Common.{ap, List, ℕ}
use Rattle.std.proofs.lemmas.Slice.Eq.{slice_eq-Decides}
use Rattle.std.specs.Cmp.Lexicographic.{bytes_decides}
use Rattle.aml_data.specs.declared.path.FullPath.{FullPath}
use Rattle.pw_cppc.proofs.paths.same_path.Goals as goal

abbrev path_of : List (List ℕ) → FullPath
path_of segs = record { segs = segs }

pub returns : goal.returns
returns c =
    let tells = rw (c.as_slice.ensures, c.as_slice-2.ensures) at c.eq.ensures in
    let same = slice_eq-Decides bytes_decides c.args.one.now.segs c.args.other.now.segs c.eq.result tells in
    (λ t. ap path_of (same.0 t), λ e. same.1 (ap (λ (x : FullPath). x.segs) e))
