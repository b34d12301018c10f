use Rattle.std.proofs.Common.{rules}
use Rattle.acpi_idle.specs.Written.{lpi_row_object}
use Rattle.acpi_idle.proofs.writing.write_lpi.Goals as goal

pub returns : goal.returns
returns c = rw (c.in_ok-front.ensures.items, c.as_slice-states.ensures) at (c.package_of.ensures lpi_row_object (λ row answer is. search rules))
