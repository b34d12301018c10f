use Rattle.pw_findings.proofs.telling_states.put_rate.Goals as goal

pub returns-in-Zero : goal.returns-in-Zero
returns-in-Zero g c = rw c.in-Zero.is c.put_words.ensures

pub returns-in-Rises : goal.returns-in-Rises
returns-in-Rises g c = rw c.in-Rises.is c.put_words-in-Rises.ensures

pub returns-in-Repeats : goal.returns-in-Repeats
returns-in-Repeats g c = rw c.in-Repeats.is c.put_words-in-Repeats.ensures
