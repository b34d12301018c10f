use Rattle.std.proofs.Common.{rules}
use Rattle.acpi_fields.specs.Reading.{most_64}
use Rattle.acpi_idle.specs.Lpis.{lpi_of, lpi_row}
use Rattle.acpi_idle.proofs.lpis.read_lpi.Goals as goal

pub returns-in_err-states : goal.returns-in_err-states
unfolding lpi_of most_64
returns-in_err-states c =
    let rows = c.in_err-states.ensures (lpi_row c.args.width) (λ object k answer is. search rules) in
    search rules

pub returns : goal.returns
unfolding lpi_of most_64
returns c =
    let rows = c.in_ok-states.ensures (lpi_row c.args.width) (λ object k answer is. search rules) in
    search rules
