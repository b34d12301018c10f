use Rattle.pw_findings.proofs.telling.put_parent.Goals as goal

pub returns-in-Past : goal.returns-in-Past
returns-in-Past g c = rw c.in-Past.is c.put_past.ensures

pub returns-in-Absent : goal.returns-in-Absent
returns-in-Absent g c = rw c.in-Absent.is c.put_words.ensures

pub returns-in-Unreached : goal.returns-in-Unreached
returns-in-Unreached g c = rw c.in-Unreached.is c.put_words-in-Unreached.ensures

pub returns-in-Overflows : goal.returns-in-Overflows
returns-in-Overflows g c = rw c.in-Overflows.is c.put_overflow.ensures
