use Rattle.pw_lint.proofs.cpc_domains.differs.Goals as goal

pub returns-in-Type : goal.returns-in-Type
returns-in-Type c = rw c.in-Type.is c.has_other_type.ensures

pub returns-in-Number : goal.returns-in-Number
returns-in-Number c = rw c.in-Number.is c.has_other_number.ensures

pub returns-in-Range : goal.returns-in-Range
returns-in-Range c = rw c.in-Range.is c.has_other_range.ensures
