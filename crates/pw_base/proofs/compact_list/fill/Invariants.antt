use Rattle.std.proofs.Common.{◌≡◌, ℕ, ◌≤◌, ◌++◌, length}
use lib.ListN.{drop}
use Rattle.core.specs.Mem.Slots.{slots_items, slots_filled, slots_len, SamePlaces}
use Rattle.core.specs.Mem.Slots.Ownership.{Filled}
use Rattle.pw_base.proofs.compact_list.fill.Given as goal

-- the elements that were moved lie behind the places of those that were not
abbrev pub invariant-loop-item : goal.invariant-loop-item
invariant-loop-item g l = let n : ℕ = length l.items.items in (n ≤ slots_len l.slots) × (l.items.items ++ drop n (slots_items l.slots) ≡ l.fn.items.items)
    × Filled (slots_filled l.slots) n (slots_len l.slots) × SamePlaces l.fn.slots l.slots

abbrev pub decreases-loop-item : goal.decreases-loop-item
decreases-loop-item g l = length l.items.items
