use Rattle.std.proofs.Common.{rules}
use Rattle.acpi_idle.specs.Written.{cst_row_object}
use Rattle.acpi_idle.proofs.writing.write_cst.Goals as goal

pub returns : goal.returns
returns c = rw c.in_ok-front.ensures.items at (c.package_of.ensures cst_row_object (λ row answer is. search rules))
