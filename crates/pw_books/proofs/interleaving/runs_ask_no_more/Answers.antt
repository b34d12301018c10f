use Rattle.pw_books.proofs.Sums.{asks_no_more}
use Rattle.pw_books.proofs.interleaving.runs_ask_no_more.Goals as goal

pub returns : goal.returns
returns g c = λ count asked es run. asks_no_more g.H.Tells.telling count asked es run
