use Rattle.pw_findings.proofs.telling.put_object.Goals as goal

pub returns-in-Meaningless : goal.returns-in-Meaningless
returns-in-Meaningless g c = rw c.in-Meaningless.is c.put_words.ensures

pub returns-in-PastLimit : goal.returns-in-PastLimit
returns-in-PastLimit g c = rw c.in-PastLimit.is c.put_words-in-PastLimit.ensures

pub returns-in-Unused : goal.returns-in-Unused
returns-in-Unused g c = rw c.in-Unused.is c.put_words-in-Unused.ensures
