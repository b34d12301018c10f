use Rattle.pw_check.proofs.domains.put_domain_number.Goals as goal

pub returns-in-Some : goal.returns-in-Some
returns-in-Some g c = rw c.in-Some.is c.put_declared.ensures
