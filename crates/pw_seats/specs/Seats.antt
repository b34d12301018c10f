-- The seats of a case.
use Rattle.std.specs.Prelude.{◌≡◌, ℕ, List, Option, Some, None, All, sum_by}
use Rattle.atomic_table.specs.Seated.{TableId}
use Rattle.pw_turns.specs.declared.coordinator.Seat.{Seat}
use Rattle.pw_turns.specs.Owning.{Owns}
use Rattle.pw_turns.specs.Views.{view_in}

abbrev pub parts_of : Seat → ℕ
parts_of seat = (view_in seat.badge.views).parts

abbrev pub parts_in : Option Seat → ℕ
parts_in None = 0
parts_in (Some seat) = parts_of seat

-- each is of this table, and together they have so many parts
abbrev pub AreSeats : TableId → List Seat → ℕ → Type 0
AreSeats id seats parts = All (Owns id) seats × (sum_by parts_of seats ≡ parts)
