use Rattle.pw_findings.proofs.telling.put_idle.Goals as goal

pub returns-in-LatencyFalls : goal.returns-in-LatencyFalls
returns-in-LatencyFalls g c = rw c.in-LatencyFalls.is c.put_words.ensures

pub returns-in-ResidencyFalls : goal.returns-in-ResidencyFalls
returns-in-ResidencyFalls g c = rw c.in-ResidencyFalls.is c.put_words-in-ResidencyFalls.ensures
