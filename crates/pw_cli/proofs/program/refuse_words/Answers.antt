use Rattle.pw_cli.proofs.program.refuse_words.Goals as goal

pub returns-in-Refused-clause-line : goal.returns-in-Refused-clause-line
returns-in-Refused-clause-line g c = rw c.in-Refused.is c.say.ensures.line
