use Rattle.std.proofs.Common.{length, subst, sym, ◌∙◌}
use Rattle.pw_turns.specs.inner.Slots.{HaveNoLog}
use Rattle.pw_turns.proofs.Tables.{begins_first, first_no_log}
use Rattle.pw_turns.proofs.slots.open_table.Goals as goal

pub new-requires : goal.new-requires
new-requires g c =
    begins_first g.R.Registers c.args.setup.now c.as_slice.result.now c.in_ok-slots.slots.items c.args.counts.records c.in_ok-slots.ensures c.requires.2
    (c.as_slice.ensures.value ∙ c.in_ok-words.ensures.items_if_clones_equal (λ y e. e))

pub discard-requires : goal.discard-requires
discard-requires g c =
    subst (λ xs. HaveNoLog (length xs) xs) (sym c.in-Err.ensures.err) (first_no_log c.args.setup.now.plan c.in_ok-slots.slots.items c.in_ok-slots.ensures)
