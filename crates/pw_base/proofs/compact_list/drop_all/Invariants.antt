use Rattle.std.proofs.Common.{◌-◌, ◌≤◌}
use Rattle.core.specs.Mem.Slots.{slots_len, slots_filled, SamePlaces}
use Rattle.core.specs.Mem.Slots.Ownership.{Filled}
use Rattle.pw_base.proofs.compact_list.drop_all.Given as goal

-- what is left to drop
abbrev pub invariant-loop-i : goal.invariant-loop-i
invariant-loop-i g l = SamePlaces l.fn.slots l.slots × (l.i ≤ slots_len l.slots) × Filled (slots_filled l.slots) l.i (slots_len l.slots)

abbrev pub decreases-loop-i : goal.decreases-loop-i
decreases-loop-i g l = slots_len l.slots - l.i
