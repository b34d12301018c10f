use Rattle.std.proofs.Common.{◌≡◌, ◌-◌, ◌≤◌}
use lib.ListN.{take}
use Rattle.std.specs.Prelude.{vec_capacity}
use Rattle.core.specs.Mem.Slots.{slots_items, slots_len, slots_filled, SamePlaces}
use Rattle.core.specs.Mem.Slots.Ownership.{Filled}
use Rattle.pw_base.proofs.compact_list.pour.Given as goal

-- what was moved, and what is left
abbrev pub invariant-loop-i : goal.invariant-loop-i
invariant-loop-i g l = SamePlaces l.fn.slots l.slots × (l.i ≤ slots_len l.slots) × Filled (slots_filled l.slots) l.i (slots_len l.slots)
    × (slots_items l.slots ≡ slots_items l.fn.slots) × (l.items.items ≡ take l.i (slots_items l.fn.slots)) × (slots_len l.slots ≤ vec_capacity l.items)

abbrev pub decreases-loop-i : goal.decreases-loop-i
decreases-loop-i g l = slots_len l.slots - l.i
