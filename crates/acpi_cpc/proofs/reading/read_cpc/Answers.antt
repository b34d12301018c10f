use Rattle.std.proofs.Common.{rules}
use Rattle.acpi_fields.specs.Reading.{most_64}
use Rattle.acpi_cpc.specs.Cpcs.{cpc_of, entry_at}
use Rattle.acpi_cpc.proofs.reading.read_cpc.Goals as goal

pub returns-in_err-entries : goal.returns-in_err-entries
unfolding cpc_of most_64
returns-in_err-entries c =
    let rows = c.in_err-entries.ensures (entry_at c.args.width) (λ object k answer is. search rules) in
    search rules

pub returns : goal.returns
unfolding cpc_of most_64
returns c =
    let rows = c.in_ok-entries.ensures (entry_at c.args.width) (λ object k answer is. search rules) in
    search rules
