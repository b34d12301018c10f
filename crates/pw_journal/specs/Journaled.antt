-- A journal, as contracts see it.
use Rattle.std.specs.Prelude.{ℕ, ◌<◌, ◌^◌, List}
use Rattle.pw_model.specs.declared.entry.HistoryEntry.{HistoryEntry}

-- The entries in order, how many there may be, and the registers.
pub record Journaled (R : Type 0) : Type 0 where
  pub entries : List HistoryEntry
  pub capacity : ℕ
  pub regs : R

-- It keeps its entries, and doesn't only count them, where its capacity is a number of 32 bits.
abbrev pub KeepsEntries : {R : Type 0} → Journaled R → Type 0
KeepsEntries j = j.capacity < 2 ^ 32
