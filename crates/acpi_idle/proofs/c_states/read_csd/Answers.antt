use Rattle.std.proofs.Common.{rules}
use Rattle.acpi_idle.specs.CStates.{csd_of, csd_row}
use Rattle.acpi_idle.proofs.c_states.read_csd.Goals as goal

pub returns : goal.returns
unfolding csd_of
returns c = rw c.in_ok-elements.ensures (c.rows_from.ensures (csd_row c.args.width) (λ object k answer is. search rules))
