use Rattle.pw_text.proofs.openings.put_open_line.Goals as goal

pub returns-in-Some : goal.returns-in-Some
returns-in-Some g c = rw c.in-Some.is c.put_labelled.ensures
