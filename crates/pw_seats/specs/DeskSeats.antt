-- The seats of a case.
use Rattle.std.specs.Prelude.{◌≡◌, ℕ, List, Option, Some, None, All, sum_by}
use Rattle.atomic_table.specs.Seated.{TableId}
use Rattle.pw_cppc_desk.specs.declared.desk.CppcSeat.{CppcSeat}
use Rattle.pw_cppc_desk.specs.Owning.{Owns}
use Rattle.pw_cppc_desk.specs.Views.{view_in}

abbrev pub parts_of : CppcSeat → ℕ
parts_of seat = (view_in seat.badge.views).parts

abbrev pub parts_in : Option CppcSeat → ℕ
parts_in None = 0
parts_in (Some seat) = parts_of seat

-- each is of this table, and together they have so many parts
abbrev pub AreSeats : TableId → List CppcSeat → ℕ → Type 0
AreSeats id seats parts = All (Owns id) seats × (sum_by parts_of seats ≡ parts)
