use Rattle.pw_findings.proofs.telling.put_cpc.Goals as goal

pub returns-in-Disorder : goal.returns-in-Disorder
returns-in-Disorder g c = rw c.in-Disorder.is c.put_words.ensures

pub returns-in-NoRange : goal.returns-in-NoRange
returns-in-NoRange g c = rw c.in-NoRange.is c.put_words-in-NoRange.ensures

pub returns-in-NoDesired : goal.returns-in-NoDesired
returns-in-NoDesired g c = rw c.in-NoDesired.is c.put_words-in-NoDesired.ensures
