-- Which idle state may be chosen, and which one is.
use Rattle.std.specs.Prelude.{◌≡◌, ◌⊎◌, ◌<◌, ◌≤◌, ◌^◌, ◌&&◌, ℕ, Bool, true, length, nat_le}
use denote.Ref.{Bor}
use Rattle.acpi_values.specs.Idle.{rows_of}
use Rattle.acpi_values.specs.declared.idle.IdleRow.{IdleRow}
use Rattle.acpi_values.specs.declared.idle.IdleTable.{IdleTable}
use Rattle.pw_plan.specs.Limits.{in_32_bits}
use Rattle.pw_plan.specs.Places.{row_at}
use Rattle.pw_model.specs.Containers.{greatest}

-- whether a state with this row is enabled, wakes within the tolerance and is worth its cost within the residency
abbrev pub is_lawful : ℕ → ℕ → IdleRow → Bool
is_lawful tolerance residency row = row.enabled && nat_le row.latency tolerance && nat_le row.residency residency

-- The deepest such state among those that 32 bits number, 0 where there is none.
unfoldable pub choice : IdleTable → ℕ → ℕ → ℕ
choice t tolerance residency = greatest (λ i. is_lawful tolerance residency (row_at t i)) (in_32_bits (length (rows_of t)))

-- It is a state of the table, enabled, and its latency and residency are at most these.
pub record Suits (t : IdleTable) (tolerance residency s : ℕ) : Type 0 where
  pub from : 1 ≤ s
  pub to : s ≤ length (rows_of t)
  pub enabled : (row_at t s).enabled ≡ true
  pub wakes : (row_at t s).latency ≤ tolerance
  pub pays : (row_at t s).residency ≤ residency

-- What may be chosen: 0 for none, or such a state.
abbrev pub IsLawful : IdleTable → ℕ → ℕ → ℕ → Type 0
IsLawful t tolerance residency s = (s ≡ 0) ⊎ Suits t tolerance residency s

-- A function, by what it asks of its arguments and what it says of its answer: it may be called for every table, and what
-- it answers may be chosen.
pub record Chooses (pre : Bor IdleTable → ℕ → ℕ → Type 0) (post : Bor IdleTable → ℕ → ℕ → ℕ → Type 0) : Type 0 where
  pub callable : (t : Bor IdleTable) (tolerance residency : ℕ) → tolerance < 2 ^ 32 → residency < 2 ^ 32 → pre t tolerance residency
  pub lawful : (t : Bor IdleTable) (tolerance residency s : ℕ) → tolerance < 2 ^ 32 → residency < 2 ^ 32 → post t tolerance residency s
      → IsLawful t.now tolerance residency s

-- s is a state that such a function may answer for this table
abbrev pub ChosenBy : (Bor IdleTable → ℕ → ℕ → ℕ → Type 0) → IdleTable → ℕ → ℕ → ℕ → Type 0
ChosenBy post t tolerance residency s = (shown : Bor IdleTable) × (shown.now ≡ t) × post shown tolerance residency s

-- What it answers is the value of a function, as that of `choice` for one that answers as `deepest` does.
abbrev pub ChoosesAs : (IdleTable → ℕ → ℕ → ℕ) → (Bor IdleTable → ℕ → ℕ → ℕ → Type 0) → Type 0
ChoosesAs choose post = (t : Bor IdleTable) (tolerance residency s : ℕ) → tolerance < 2 ^ 32 → residency < 2 ^ 32
    → post t tolerance residency s → s ≡ choose t.now tolerance residency
