use Rattle.std.proofs.Common.{rules}
use Rattle.acpi_idle.specs.Written.{csd_row_object}
use Rattle.acpi_idle.proofs.writing.write_csd.Goals as goal

pub returns : goal.returns
returns c = rw c.new.ensures.items at (c.package_of.ensures csd_row_object (λ row answer is. search rules))
