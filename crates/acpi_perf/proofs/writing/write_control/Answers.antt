use Rattle.acpi_perf.proofs.writing.write_control.Goals as goal

pub returns : goal.returns
returns c = rw (c.in_ok-elements.ensures.items, c.in_ok-control.ensures, c.in_ok-status.ensures) at c.package_object.ensures
