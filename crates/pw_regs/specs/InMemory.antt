-- Registers in memory, as contracts see them.
use Rattle.std.specs.Prelude.{◌-◌, ◌||◌, ℕ, Bool, true, List, length, nat_le}
use Rattle.acpi_values.specs.declared.operation.Op.{Op}
use Rattle.pw_base.specs.InMemory.{is_listed, next_count}

-- A register file: the operations that were done, how many it has room for, and how many failed.
pub record FileHeld : Type 0 where
  pub log : List Op
  pub capacity : ℕ
  pub faults : ℕ

-- Registers that fail at listed calls: besides, which calls fail, counted from 1, and how many calls there were.
pub record FailingHeld : Type 0 where
  pub log : List Op
  pub capacity : ℕ
  pub fails : List ℕ
  pub calls : ℕ
  pub faults : ℕ

-- # A register file

-- It tells what was done on it.
abbrev pub file_tells : FileHeld → Bool
file_tells _ = true

-- The operations that were done.
abbrev pub file_log : FileHeld → List Op
file_log f = f.log

-- How many more are sure to be done: as many as there is room for.
abbrev pub file_room : FileHeld → ℕ
file_room f = f.capacity - length f.log

-- How many failed.
abbrev pub file_faults : FileHeld → ℕ
file_faults f = f.faults

-- There is no room for another operation.
abbrev pub is_full : FileHeld → Bool
is_full f = nat_le f.capacity (length f.log)

-- # Registers that fail at listed calls

-- They tell what was done on them.
abbrev pub failing_tells : FailingHeld → Bool
failing_tells _ = true

-- The operations that were done.
abbrev pub failing_log : FailingHeld → List Op
failing_log f = f.log

-- No operation is sure to be done.
abbrev pub failing_room : FailingHeld → ℕ
failing_room _ = 0

-- How many failed.
abbrev pub failing_faults : FailingHeld → ℕ
failing_faults f = f.faults

-- The next call fails: it is listed, or there is no room for another operation.
abbrev pub call_fails : FailingHeld → Bool
call_fails f = is_listed f.fails (next_count f.calls) || nat_le f.capacity (length f.log)
