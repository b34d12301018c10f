use Rattle.std.proofs.Common.{rules}
use Rattle.acpi_cpc.specs.Written.{entry_object}
use Rattle.acpi_cpc.proofs.writing.write_cpc.Goals as goal

pub returns : goal.returns
returns c = rw (c.in_ok-front.ensures.items, c.from.ensures, c.as_slice-entries.ensures) at (c.package_of.ensures entry_object (λ row answer is. search rules))
