use Rattle.pw_books.specs.Workers.{seat_of}
use Rattle.pw_books.proofs.Seats.{asked-run, seats-tell}
use Rattle.pw_books.proofs.Workers.{workers-asked}
use Rattle.pw_books.proofs.interleaving.workers_make_histories.Goals as goal

pub returns-clause-asked : goal.returns-clause-asked
returns-clause-asked g c = λ asked ws book es made. workers-asked g.H.Tells.telling asked es ws book made

pub returns-clause-lawful : goal.returns-clause-lawful
returns-clause-lawful g c = λ asked ws book es made. let T = g.H.Tells.telling in asked-run T asked (seat_of ws) es (workers-asked T asked es ws book made)

pub returns-clause-seats : goal.returns-clause-seats
returns-clause-seats g c = λ asked ws book es made. let T = g.H.Tells.telling in seats-tell T asked (seat_of ws) es (workers-asked T asked es ws book made)
