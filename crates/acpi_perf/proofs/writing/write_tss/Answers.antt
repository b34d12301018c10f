use Rattle.std.proofs.Common.{rules}
use Rattle.acpi_perf.specs.Written.{tss_row_object}
use Rattle.acpi_perf.proofs.writing.write_tss.Goals as goal

pub returns : goal.returns
returns c = rw c.new.ensures.items at (c.package_of.ensures tss_row_object (λ row answer is. search rules))
