use Rattle.std.proofs.Common.{◌+◌, ◌++◌, ◌∷◌, []}
use Rattle.pw_books.specs.Books.{grown}
use Rattle.pw_books.proofs.Lines.{asked_next, asked_none, faults, filled_part, worked_part, worked_whole}
use Rattle.pw_books.proofs.interleaving.workers_make_their_lines.Goals as goal

pub returns-clause-begins : goal.returns-clause-begins
returns-clause-begins g c = λ n. asked_none g.H.Tells.telling n

pub returns-clause-next : goal.returns-clause-next
returns-clause-next g c = λ lines k n book e q h lt is seat. asked_next g.H.Tells.telling lines k n book e q h lt is seat

pub returns-clause-whole : goal.returns-clause-whole
returns-clause-whole g c = λ lines n book seen h. worked_whole g.H.Tells.telling lines n book seen h

pub returns-clause-fault : goal.returns-clause-fault
returns-clause-fault g c = λ lines k n book before e q h lt is seat ne.
    let T = g.H.Tells.telling in
    worked_part T lines (k + 1) n (grown T.seat book e) (before ++ e ∷ []) (asked_next T lines k n book e q h lt is seat) (faults T before e ne)

pub returns-clause-stopped : goal.returns-clause-stopped
returns-clause-stopped g c = λ lines k n book seen h fault. worked_part g.H.Tells.telling lines k n book seen h fault

pub returns-clause-filled : goal.returns-clause-filled
returns-clause-filled g c = λ lines room k n book seen h full. filled_part g.H.Tells.telling lines room k n book seen h full
