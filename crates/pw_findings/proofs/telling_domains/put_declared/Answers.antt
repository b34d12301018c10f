use Rattle.pw_findings.proofs.telling_domains.put_declared.Goals as goal

pub returns-in-OtherType : goal.returns-in-OtherType
returns-in-OtherType g c = rw c.in-OtherType.is c.put_other_type.ensures

pub returns-in-OtherNumber : goal.returns-in-OtherNumber
returns-in-OtherNumber g c = rw c.in-OtherNumber.is c.put_words.ensures

pub returns-in-OtherSize : goal.returns-in-OtherSize
returns-in-OtherSize g c = rw c.in-OtherSize.is c.put_words-in-OtherSize.ensures
