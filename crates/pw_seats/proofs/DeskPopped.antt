-- The last seat of a list, taken out.
use Rattle.std.proofs.Common.{◌≡◌, ◌+◌, ◌++◌, List, [], ◌∷◌, Some, All, sum_by, ap, arith}
use Rattle.std.proofs.lemmas.List.Elements.{All-pop}
use Rattle.std.proofs.lemmas.List.Sums.{sum_by_push}
use Rattle.atomic_table.specs.Seated.{TableId}
use Rattle.pw_cppc_desk.specs.declared.desk.CppcSeat.{CppcSeat}
use Rattle.pw_cppc_desk.specs.Owning.{Owns}
use Rattle.pw_seats.specs.DeskSeats.{parts_of}

pub record IsPopped (id : TableId) (xs ys : List CppcSeat) (seat : CppcSeat) : Type 0 where
  pub owns : Owns id seat
  pub all : All (Owns id) ys
  pub parts : parts_of seat + sum_by parts_of ys ≡ sum_by parts_of xs

pub popped : (id : TableId) (xs ys : List CppcSeat) (seat : CppcSeat) → xs ≡ ys ++ seat ∷ [] → All (Owns id) xs → IsPopped id xs ys seat
popped id xs ys seat eq all =
    let both = All-pop (Owns id) xs ys (Some seat) eq all in
    record {
      owns = both.1;
      all = both.0;
      parts = omega (arith, sum_by_push parts_of ys seat, ap (sum_by parts_of) eq);
    }
