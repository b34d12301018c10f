use Rattle.std.proofs.Common.{◌≡◌, ◌≤◌, ◌-◌, List, [], ◌∷◌, drop, get_or, length, length-drop, map, subst, take, take_all, arith}
use Rattle.std.specs.List.{AllByRecursion}
use Rattle.pw_audit.proofs.walk.lines_known.Goals as goal

module _ {L Q : Type 0} (ask : L → Q) (IsNarrow : Q → Type 0) where
  lines_more : (ls : List L) (d : L) → 1 ≤ length ls → IsNarrow (ask (get_or ls 0 d)) → AllByRecursion IsNarrow (map ask (drop 1 ls)) → AllByRecursion IsNarrow (map ask ls)
  lines_more [] d le h a = absurd (omega arith)
  lines_more (l ∷ ls) d le h a = (h, a)

  lines_none : (ls : List L) → length ls ≤ 0 → AllByRecursion IsNarrow (map ask ls)
  lines_none [] le = tt
  lines_none (l ∷ ls) le = absurd (omega arith)

pub loop-left-preserved : goal.loop-left-preserved
loop-left-preserved g c =
    let ask = g.T.Audited.ask in
    let IsNarrow = g.T.Audited.is_narrow_request in
    let left = c.loop-left.left.now in
    let some = c.in-len1-up.len_at_least in
    let few = length-drop 1 left in
    let rest : take (length left - 1) (drop 1 left) ≡ drop 1 left = take_all _ _ (omega arith) in
    λ a. c.loop-left.invariant (lines_more ask IsNarrow left c.line-item.result some (subst (λ l. IsNarrow (ask l)) c.line-item.is (subst IsNarrow c.request_of.ensures c.request_known.ensures))
    (rw rest at a))

pub returns : goal.returns
returns g c = c.loop-left.invariant (lines_none g.T.Audited.ask g.T.Audited.is_narrow_request c.loop-left.left.now (omega arith))
