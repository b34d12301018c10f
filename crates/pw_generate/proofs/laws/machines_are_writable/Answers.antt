use Rattle.pw_generate.proofs.Writable.{header_in_range, machine_writable}
use Rattle.pw_generate.proofs.laws.machines_are_writable.Goals as goal

pub returns-clause-block : goal.returns-clause-block
returns-clause-block c = machine_writable

pub returns-clause-header : goal.returns-clause-header
returns-clause-header c = header_in_range
