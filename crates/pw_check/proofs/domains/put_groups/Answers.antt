use Rattle.std.proofs.Common.{◌≡◌, ◌∙◌, ◌++◌, ◌-◌, ℕ, List, drop, take, take_all, length, length-drop, ap, append_assoc, arith}
use Rattle.pw_text.proofs.Putting.{PutsText-as, PutsText-stop, PutsText-then}
use Rattle.pw_check.specs.CheckText.{group_line}
use Rattle.pw_check.proofs.Listed.{numbered_step}
use Rattle.pw_check.proofs.domains.put_groups.Goals as goal

pub returns-in_err-put_group : goal.returns-in_err-put_group
returns-in_err-put_group g c =
    let so_far = c.loop-left.invariant.so_far in
    let step = numbered_step group_line c.loop-left.number c.loop-left.left.now c.group-item.result c.in-len1-up.len_at_least c.group-item.is in
    PutsText-as _ (ap (λ (l : List ℕ). so_far.0 ++ l) step ∙ so_far.2)
    (PutsText-then so_far.1 (PutsText-stop _ c.from_residual.result c.from_residual.ensures.0 c.in_err-put_group.ensures))

pub loop-left-preserved : goal.loop-left-preserved
loop-left-preserved g c =
    let left = c.loop-left.left.now in
    let so_far = c.loop-left.invariant.so_far in
    let step = numbered_step group_line c.loop-left.number left c.group-item.result c.in-len1-up.len_at_least c.group-item.is in
    let size = c.loop-left.invariant.count in
    let some = c.in-len1-up.len_at_least in
    let few = length-drop 1 left in
    let rest : take (length left - 1) (drop 1 left) ≡ drop 1 left = take_all _ _ (omega arith) in
    record {
      so_far = (_, PutsText-then so_far.1 c.in_ok-put_group.ensures, rw rest (append_assoc so_far.0 _ _ ∙ ap (λ (l : List ℕ). so_far.0 ++ l) step ∙ so_far.2));
      count = omega arith;
    }
