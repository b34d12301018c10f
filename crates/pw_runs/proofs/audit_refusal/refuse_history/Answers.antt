use Rattle.pw_runs.proofs.AuditWorded.{long_line, short_line, wrong_line}
use Rattle.pw_runs.proofs.audit_refusal.refuse_history.Goals as goal

pub returns-in-Memory-clause-line : goal.returns-in-Memory-clause-line
returns-in-Memory-clause-line g c = rw c.in-Memory.is c.without_memory.ensures.line

pub returns-in-TooLong-clause-line : goal.returns-in-TooLong-clause-line
returns-in-TooLong-clause-line g c = rw c.in-TooLong.is (rw (long_line c.in-TooLong.bound) at c.say_number.ensures.line)

pub returns-in-Wrong-clause-line : goal.returns-in-Wrong-clause-line
returns-in-Wrong-clause-line g c = rw c.in-Wrong.is (rw (wrong_line c.in-Wrong.line) at c.say_number-in-Wrong.ensures.line)

pub returns-in-Unfinished-clause-line : goal.returns-in-Unfinished-clause-line
returns-in-Unfinished-clause-line g c =
    rw c.in-Unfinished.is (rw (short_line c.in-Unfinished.lines) at c.say_number-in-Unfinished.ensures.line)
