use Rattle.std.proofs.Common.{◌≡◌, ◌+◌, ◌-◌, ◌∙◌, ℕ, List, ap, arith, subst, take}
use Rattle.std.proofs.lemmas.List.{take_more}
use Rattle.pw_model.specs.declared.entry.HistoryEntry.{HistoryEntry}
use Rattle.pw_model.specs.History.{replies}
use Rattle.pw_drive.specs.inner.Replying.{Leaves}
use Rattle.pw_drive.proofs.InOrder.{leaves_none}
use Rattle.pw_drive.proofs.replying.in_order.Goals as goal

pub loop-left-preserved : goal.loop-left-preserved
loop-left-preserved c =
    let l = c.loop-left in
    let i = l.invariant in
    let e = c.take_reply.ensures in
    let P = c.args.sealed.now.plan in
    let es = c.entries-entries.result.now in
    let n = l.left - 1 in
    let some = c.loop-left-test.true in
    let within = i.count in
    let same : l.left ≡ n + 1 = omega (arith, some) in
    let one_less = ap (λ (k : ℕ). take k es) same ∙ take_more es n _ (omega (arith, some, within)) in
    record {
      leaves = e.leaves P es (take n es) (subst (λ (fs : List HistoryEntry). Leaves P es fs l.each.items l.all.items) one_less i.leaves);
      size = e.size ∙ i.size;
      count = let before = i.count in let one = e.one in omega (arith, before, one, some);
      room = e.room ∙ i.room;
    }

pub returns : goal.returns
returns c =
    let l = c.loop-left in
    let P = c.args.sealed.now.plan in
    let es = c.entries-entries.result.now in
    let le = c.loop-left-test.false in
    let none : l.left ≡ 0 = omega (arith, le) in
    c.from_vec.ensures ∙ c.reverse.ensures.items
    ∙ leaves_none P es l.each.items l.all.items (subst (λ (k : ℕ). Leaves P es (take k es) l.each.items l.all.items) none l.invariant.leaves)
    ∙ ap (replies P) c.entries-entries.ensures
