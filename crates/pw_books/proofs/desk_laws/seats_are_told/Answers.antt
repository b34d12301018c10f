use Rattle.pw_books.proofs.Told.{seats_told}
use Rattle.pw_books.proofs.desk_laws.seats_are_told.Goals as goal

pub returns : goal.returns
returns g c = seats_told g.H.Histories.seat_of g.H.Histories.good
