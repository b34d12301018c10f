use Rattle.pw_books.proofs.Coming.{histories_come_about}
use Rattle.pw_books.proofs.desk_laws.histories_come_about.Goals as goal

pub returns : goal.returns
returns g c = histories_come_about g.H.Histories.seat_of g.H.Histories.good
