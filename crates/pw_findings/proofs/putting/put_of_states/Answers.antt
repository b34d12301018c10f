use Rattle.pw_findings.proofs.putting.put_of_states.Goals as goal

pub returns-in-Perf : goal.returns-in-Perf
returns-in-Perf g c = rw c.in-Perf.is c.put.ensures

pub returns-in-Throttle : goal.returns-in-Throttle
returns-in-Throttle g c = rw c.in-Throttle.is c.put-in-Throttle.ensures

pub returns-in-Idle : goal.returns-in-Idle
returns-in-Idle g c = rw c.in-Idle.is (rw c.from.ensures at c.put_labelled.ensures)
