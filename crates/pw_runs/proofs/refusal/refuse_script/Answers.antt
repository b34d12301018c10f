use Rattle.pw_runs.proofs.Worded.{bad_line, long_line}
use Rattle.pw_runs.proofs.refusal.refuse_script.Goals as goal

pub returns-in-Memory-clause-line : goal.returns-in-Memory-clause-line
returns-in-Memory-clause-line g c = rw c.in-Memory.is c.without_memory.ensures.line

pub returns-in-TooLong-clause-line : goal.returns-in-TooLong-clause-line
returns-in-TooLong-clause-line g c = rw c.in-TooLong.is (rw (long_line c.in-TooLong.bound) at c.say_number.ensures.line)

pub returns-in-Line-clause-line : goal.returns-in-Line-clause-line
returns-in-Line-clause-line g c =
    rw c.in-Line.is (rw (c.why_ending.ensures, bad_line c.in-Line.number c.in-Line.why) at c.say_number-in-Line.ensures.line)
