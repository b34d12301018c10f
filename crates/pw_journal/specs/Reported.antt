-- Registers that the caller operates, as contracts see them.
use Rattle.std.specs.Prelude.{ℕ, Bool, true, List}
use Rattle.acpi_values.specs.declared.operation.Op.{Op}

-- The operations that the caller said were done, and how often it said that one failed.
pub record ReportedHeld : Type 0 where
  pub log : List Op
  pub faults : ℕ

-- They tell what the caller said was done.
abbrev pub reported_tells : ReportedHeld → Bool
reported_tells _ = true

-- The operations that it said were done.
abbrev pub reported_log : ReportedHeld → List Op
reported_log r = r.log

-- No operation is sure to be done.
abbrev pub reported_room : ReportedHeld → ℕ
reported_room _ = 0

-- How many it said failed.
abbrev pub reported_faults : ReportedHeld → ℕ
reported_faults r = r.faults
