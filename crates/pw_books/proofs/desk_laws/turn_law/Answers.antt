use Rattle.pw_books.proofs.Keeps.{law, step_keeps}
use Rattle.pw_books.proofs.desk_laws.turn_law.Goals as goal

pub returns-clause-step : goal.returns-clause-step
returns-clause-step g c = step_keeps g.H.Histories.seat_of g.H.Histories.good

pub returns-clause-steps : goal.returns-clause-steps
returns-clause-steps g c = law g.H.Histories.seat_of g.H.Histories.good
