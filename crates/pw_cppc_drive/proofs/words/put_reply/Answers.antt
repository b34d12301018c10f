use Rattle.pw_cppc_drive.proofs.words.put_reply.Goals as goal

pub returns-in-OutOfRange : goal.returns-in-OutOfRange
returns-in-OutOfRange g c = rw c.in-OutOfRange.is c.put_range.ensures
