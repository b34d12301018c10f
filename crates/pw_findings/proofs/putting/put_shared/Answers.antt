use Rattle.pw_findings.proofs.putting.put_shared.Goals as goal

pub returns-in-States : goal.returns-in-States
returns-in-States g c = rw c.in-States.is c.put_of_states.ensures

pub returns-in-Cpc : goal.returns-in-Cpc
returns-in-Cpc g c = rw c.in-Cpc.is c.put.ensures
