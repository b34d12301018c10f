use Rattle.pw_findings.proofs.telling_states.put_limit.Goals as goal

pub returns-in-Past : goal.returns-in-Past
returns-in-Past g c = rw c.in-Past.is c.put_words.ensures

pub returns-in-AtStart : goal.returns-in-AtStart
returns-in-AtStart g c = rw c.in-AtStart.is c.put_words-in-AtStart.ensures

pub returns-in-Absent : goal.returns-in-Absent
returns-in-Absent g c = rw c.in-Absent.is c.put_words-in-Absent.ensures
