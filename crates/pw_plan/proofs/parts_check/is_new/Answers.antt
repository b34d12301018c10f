use Rattle.std.proofs.Common.{◌≤◌, length, sym, ◌∙◌, arith}
use Rattle.pw_plan.proofs.Grouping.{negated}
use Rattle.pw_plan.proofs.Repeats.{new_is, none_before}
use Rattle.pw_plan.proofs.parts_check.is_new.Goals as goal

pub returns : goal.returns
returns c =
    let csd = c.args.csd.now in
    let n = c.args.number in
    let le : n ≤ length csd = omega arith in
    let any = rw c.entry_in-entry.ensures at c.is_repeated.ensures in
    (λ t. none_before csd n le (sym any ∙ negated c.is_repeated.result t), λ h. new_is csd n c.is_repeated.result le (sym any) h)
