use Rattle.pw_books.proofs.EachKind.{each_kind_is_taken}
use Rattle.pw_books.proofs.desk_laws.each_kind_is_taken.Goals as goal

pub returns : goal.returns
returns g c = each_kind_is_taken g.H.Histories.seat_of g.H.Histories.good
