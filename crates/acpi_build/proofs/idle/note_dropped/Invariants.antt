use Rattle.std.proofs.Common.{◌≡◌, drop}
use Rattle.acpi_build.specs.declared.names.Name.TheVariants.{Csd}
use Rattle.acpi_build.specs.Finding.{place_below}
use Rattle.acpi_build.specs.Machine.{dropped}
use Rattle.acpi_build.specs.inner.Answers.{remarks_in}
use Rattle.acpi_build.proofs.idle.note_dropped.Given as goal

abbrev pub invariant-loop-entry : goal.invariant-loop-entry
invariant-loop-entry l = dropped (place_below l.space l.index Csd) l.states (drop l.entry-index l.entries) (remarks_in l.said)
    ≡ dropped (place_below l.space l.index Csd) l.states l.entries (remarks_in l.initial.said)
