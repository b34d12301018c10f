-- What is found of objects that mean nothing.
use Rattle.aml_data.specs.declared.path.FullPath.{FullPath}
use Rattle.acpi_values.specs.declared.fault.Place.{Place}
use Rattle.acpi_values.specs.declared.fault.Why.{Why}
use Rattle.pw_findings.specs.declared.finding.Finding.{Finding}
use Rattle.pw_findings.specs.declared.finding.FindingKind.TheVariants as kinds
use Rattle.pw_findings.specs.declared.finding.OfObject.TheVariants as objects
use Rattle.pw_findings.specs.Findings.{finding}

-- of one at which a place is amiss
abbrev pub meaningless : FullPath → Place → Why → Finding
meaningless path place why = finding path (kinds.Object (objects.Meaningless place why))
