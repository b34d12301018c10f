use Rattle.pw_findings.proofs.telling_states.put_control.Goals as goal

pub returns-in-Absent : goal.returns-in-Absent
returns-in-Absent g c = rw c.in-Absent.is c.put_words.ensures

pub returns-in-Shared : goal.returns-in-Shared
returns-in-Shared g c = rw c.in-Shared.is c.put_words-in-Shared.ensures

pub returns-in-TwoSpaces : goal.returns-in-TwoSpaces
returns-in-TwoSpaces g c = rw c.in-TwoSpaces.is c.put_words-in-TwoSpaces.ensures

pub returns-in-PastAccess : goal.returns-in-PastAccess
returns-in-PastAccess g c = rw c.in-PastAccess.is c.put_wide.ensures
