use Rattle.std.proofs.Common.{rules}
use Rattle.std.proofs.lemmas.List.Sorted.{IsNonDecreasingBy-from_sort_by_key, IsPermutation-trans, answers_always, ties_still_rise}
use Rattle.pw_plan.proofs.EntryTables.{is_table}
use Rattle.pw_plan.proofs.tables.table_of.Goals as goal

pub returns : goal.returns
returns c =
    let start = rw c.as_slice.ensures at c.in_ok-entries.ensures.items in
    let moved = rw start at (IsPermutation-trans _ _ _ c.in_ok-sort_by_key.ensures.permutation c.in_ok-sort_by_key-2.ensures.permutation) in
    rw c.from_vec.ensures (is_table c.args.cpu.now _ c.requires moved
    (IsNonDecreasingBy-from_sort_by_key (λ e. e.domain) _ c.in_ok-sort_by_key-2.ensures.sorted (λ a r q k. search rules))
    (ties_still_rise (λ e. e.index) (λ e. e.domain) _ _ (c.in_ok-sort_by_key.ensures.sorted (λ e. e.index) (answers_always _ _ _ (λ f a r g h. search rules)))
    (c.in_ok-sort_by_key-2.ensures.stable (λ e. e.domain) (answers_always _ _ _ (λ f a r g h. search rules)))))
