use Rattle.pw_findings.proofs.telling.put_entry.Goals as goal

pub returns-in-NullState : goal.returns-in-NullState
returns-in-NullState g c = rw c.in-NullState.is c.put_words.ensures

pub returns-in-IntegerState : goal.returns-in-IntegerState
returns-in-IntegerState g c = rw c.in-IntegerState.is c.put_words-in-IntegerState.ensures

pub returns-in-OtherCount : goal.returns-in-OtherCount
returns-in-OtherCount g c = rw c.in-OtherCount.is c.put_words-in-OtherCount.ensures
