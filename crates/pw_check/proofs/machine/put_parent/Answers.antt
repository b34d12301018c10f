use Rattle.pw_check.proofs.machine.put_parent.Goals as goal

pub returns-in-Some : goal.returns-in-Some
returns-in-Some g c = rw c.in-Some.is (rw c.container_path.ensures at c.put_named.ensures)
