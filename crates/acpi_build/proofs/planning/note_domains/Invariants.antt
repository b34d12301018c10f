use Rattle.std.proofs.Common.{◌≡◌, ◌++◌, drop}
use Rattle.acpi_build.specs.Planning.{unfit_notes}
use Rattle.acpi_build.proofs.planning.note_domains.Given as goal

abbrev pub invariant-loop-place : goal.invariant-loop-place
invariant-loop-place l = l.notes.items ++ unfit_notes l.plan.cpus l.place (drop l.place l.plan.domains) ≡ l.initial.notes.items ++ unfit_notes l.plan.cpus 0 l.plan.domains
