use Rattle.pw_findings.proofs.telling_domains.put_member.Goals as goal

pub returns-in-OtherLength : goal.returns-in-OtherLength
returns-in-OtherLength g c = rw c.in-OtherLength.is c.put_other_length.ensures

pub returns-in-NoRegister : goal.returns-in-NoRegister
returns-in-NoRegister g c = rw c.in-NoRegister.is c.put_words.ensures

pub returns-in-OtherRegister : goal.returns-in-OtherRegister
returns-in-OtherRegister g c = rw c.in-OtherRegister.is c.put_words-in-OtherRegister.ensures

pub returns-in-OtherControl : goal.returns-in-OtherControl
returns-in-OtherControl g c = rw c.in-OtherControl.is c.put_other_control.ensures

pub returns-in-OtherRange : goal.returns-in-OtherRange
returns-in-OtherRange g c = rw c.in-OtherRange.is c.put_other_range.ensures
