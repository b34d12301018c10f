use Rattle.pw_books.proofs.Deadlock.{no_deadlock}
use Rattle.pw_books.proofs.desk_laws.no_deadlock.Goals as goal

pub returns : goal.returns
returns g c = no_deadlock g.H.Histories.seat_of g.H.Histories.good
