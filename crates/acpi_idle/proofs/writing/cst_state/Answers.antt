use Rattle.acpi_idle.proofs.writing.cst_state.Goals as goal

pub returns : goal.returns
returns c = rw (c.in_ok-fields.ensures.items, c.in_ok-register.ensures, c.from.ensures, c.from-2.ensures, c.from-3.ensures) at c.package_object.ensures
