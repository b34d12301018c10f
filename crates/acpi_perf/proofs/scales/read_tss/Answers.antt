use Rattle.std.proofs.Common.{rules}
use Rattle.acpi_perf.specs.Scales.{tss_of, tss_row}
use Rattle.acpi_perf.proofs.scales.read_tss.Goals as goal

pub returns : goal.returns
unfolding tss_of
returns c = rw c.in_ok-elements.ensures (c.rows_from.ensures (tss_row c.args.width) (λ object k answer is. search rules))
