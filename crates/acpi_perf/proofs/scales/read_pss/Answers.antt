use Rattle.std.proofs.Common.{rules}
use Rattle.acpi_perf.specs.Scales.{pss_of, pss_row}
use Rattle.acpi_perf.proofs.scales.read_pss.Goals as goal

pub returns : goal.returns
unfolding pss_of
returns c = rw c.in_ok-elements.ensures (c.rows_from.ensures (pss_row c.args.width) (λ object k answer is. search rules))
