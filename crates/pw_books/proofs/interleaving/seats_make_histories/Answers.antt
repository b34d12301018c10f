use Rattle.pw_books.proofs.Seats.{asked-run, seats-tell}
use Rattle.pw_books.proofs.Runs.{run-asked}
use Rattle.pw_books.proofs.interleaving.seats_make_histories.Goals as goal

pub returns-clause-lawful : goal.returns-clause-lawful
returns-clause-lawful g c = λ asked seats es by. asked-run g.H.Tells.telling asked seats es by

pub returns-clause-seats : goal.returns-clause-seats
returns-clause-seats g c = λ asked seats es by. seats-tell g.H.Tells.telling asked seats es by

pub returns-clause-asked : goal.returns-clause-asked
returns-clause-asked g c = λ asked seats es tell its run. run-asked g.H.Tells.telling seats tell asked es its run
