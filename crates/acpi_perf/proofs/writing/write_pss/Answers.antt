use Rattle.std.proofs.Common.{rules}
use Rattle.acpi_perf.specs.Written.{pss_row_object}
use Rattle.acpi_perf.proofs.writing.write_pss.Goals as goal

pub returns : goal.returns
returns c = rw c.new.ensures.items at (c.package_of.ensures pss_row_object (λ row answer is. search rules))
