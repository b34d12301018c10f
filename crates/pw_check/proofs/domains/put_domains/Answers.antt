use Rattle.std.proofs.Common.{◌≡◌, ◌∙◌, ◌++◌, ◌-◌, ℕ, List, drop, take, take_all, length, length-drop, ap, append_assoc, arith}
use Rattle.pw_text.proofs.Putting.{PutsText-as, PutsText-stop, PutsText-then}
use Rattle.pw_check.specs.CheckText.{domain_line}
use Rattle.pw_check.proofs.Listed.{numbered_step}
use Rattle.pw_check.proofs.domains.put_domains.Goals as goal

pub returns-in_err-put_domain : goal.returns-in_err-put_domain
returns-in_err-put_domain g c =
    let so_far = c.loop-left.invariant.so_far in
    let step = numbered_step domain_line c.loop-left.number c.loop-left.left.now c.domain-item.result c.in-len1-up.len_at_least c.domain-item.is in
    PutsText-as _ (ap (λ (l : List ℕ). so_far.0 ++ l) step ∙ so_far.2)
    (PutsText-then so_far.1 (PutsText-stop _ c.from_residual.result c.from_residual.ensures.0 c.in_err-put_domain.ensures))

pub loop-left-preserved : goal.loop-left-preserved
loop-left-preserved g c =
    let left = c.loop-left.left.now in
    let so_far = c.loop-left.invariant.so_far in
    let step = numbered_step domain_line c.loop-left.number left c.domain-item.result c.in-len1-up.len_at_least c.domain-item.is in
    let size = c.loop-left.invariant.count in
    let some = c.in-len1-up.len_at_least in
    let few = length-drop 1 left in
    let rest : take (length left - 1) (drop 1 left) ≡ drop 1 left = take_all _ _ (omega arith) in
    record {
      so_far = (_, PutsText-then so_far.1 c.in_ok-put_domain.ensures, rw rest (append_assoc so_far.0 _ _ ∙ ap (λ (l : List ℕ). so_far.0 ++ l) step ∙ so_far.2));
      count = omega arith;
    }
