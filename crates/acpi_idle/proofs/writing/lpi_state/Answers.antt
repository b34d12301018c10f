use Rattle.acpi_idle.proofs.writing.lpi_state.Goals as goal

pub returns : goal.returns
returns c =
    rw (
      c.in_ok-fields.ensures.items,
      c.in_ok-entry.ensures.entry,
      c.in_ok-entry.ensures.residency,
      c.in_ok-entry.ensures.usage,
      c.in_ok-name.ensures,
      c.from.ensures,
      c.from-2.ensures,
      c.from-3.ensures,
      c.from-4.ensures,
      c.from-5.ensures,
      c.from-6.ensures,
    ) at c.package_object.ensures
