use Rattle.std.proofs.Common.{rules}
use Rattle.acpi_idle.specs.CStates.{cst_of, cst_row}
use Rattle.acpi_idle.proofs.c_states.read_cst.Goals as goal

pub returns : goal.returns
unfolding cst_of
returns c =
    let rows = c.rows_from.ensures (cst_row c.args.width) (λ object k answer is. search rules) in
    search rules
