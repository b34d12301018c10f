-- The rows of idle tables, field by field, in words (ACPI 6.5, 8.4.1.1 and 8.4.3.3).
use Rattle.std.specs.Prelude.{◌≡◌, ◌↔◌, ◌+◌, ◌*◌, ℕ, List, [], Option, Some, None, IsTrue}
use Rattle.std.specs.List.{AllZip}
use Rattle.acpi_values.specs.declared.idle.CState.{CState}
use Rattle.acpi_values.specs.declared.idle.IdleKind.TheVariants as kinds
use Rattle.acpi_values.specs.declared.idle.IdleRow.{IdleRow}
use Rattle.acpi_values.specs.declared.idle.IdleTable.{IdleTable}
use Rattle.acpi_values.specs.declared.lpi.EntryMethod.TheVariants as entry
use Rattle.acpi_values.specs.declared.lpi.Lpi.{Lpi}
use Rattle.acpi_values.specs.declared.lpi.LpiState.{LpiState}

-- bit 0 of a number is set
abbrev pub IsOdd : ℕ → Type 0
IsOdd n = (half : ℕ) × (n ≡ 2 * half + 1)

-- the row of a state of `_LPI`: it is enabled exactly where bit 0 of the flags is set
pub record IsLpiRow (s : LpiState) (row : IdleRow) : Type 0 where
  pub enabled : IsTrue row.enabled ↔ IsOdd s.flags
  pub latency : row.latency ≡ s.wake_latency
  pub residency : row.residency ≡ s.min_residency
  pub parent : row.parent ≡ s.parent
  pub entry : row.entry ≡ s.entry

-- the row of a C state, which is always enabled and has no least residency and no state of a parent
pub record IsCRow (s : CState) (row : IdleRow) : Type 0 where
  pub enabled : IsTrue row.enabled
  pub latency : row.latency ≡ s.latency
  pub residency : row.residency ≡ 0
  pub parent : row.parent ≡ 0
  pub entry : row.entry ≡ entry.Register s.register

-- a row for each state of `_LPI`, in their order; where there is no `_LPI`, for each of `_CST`; or no table
abbrev pub HasRows : Option Lpi → Option (List CState) → IdleTable → Type 0
HasRows (Some lpi) cst t = (t.kind ≡ kinds.Lpi) × AllZip IsLpiRow lpi.states t.rows
HasRows None (Some states) t = (t.kind ≡ kinds.Cst) × AllZip IsCRow states t.rows
HasRows None None t = (t.kind ≡ kinds.Absent) × (t.rows ≡ [])
