use Rattle.pw_findings.proofs.telling.put_device.Goals as goal

pub returns-in-NotPresent : goal.returns-in-NotPresent
returns-in-NotPresent g c = rw c.in-NotPresent.is c.put_words.ensures

pub returns-in-NotEnabled : goal.returns-in-NotEnabled
returns-in-NotEnabled g c = rw c.in-NotEnabled.is c.put_words-in-NotEnabled.ensures

pub returns-in-NoUid : goal.returns-in-NoUid
returns-in-NoUid g c = rw c.in-NoUid.is c.put_words-in-NoUid.ensures

pub returns-in-SameUid : goal.returns-in-SameUid
returns-in-SameUid g c = rw c.in-SameUid.is c.put_words-in-SameUid.ensures
