use Rattle.pw_load.proofs.refusal.refuse.Goals as goal

pub returns-in-ReadFault-clause-line : goal.returns-in-ReadFault-clause-line
returns-in-ReadFault-clause-line g c = rw c.in-ReadFault.is c.read_fault.ensures.line

pub returns-in-Large-clause-line : goal.returns-in-Large-clause-line
returns-in-Large-clause-line g c = rw c.in-Large.is c.say.ensures.line
