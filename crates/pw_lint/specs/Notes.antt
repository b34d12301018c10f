-- What is found of notes, of objects that mean nothing, and of limits.
use Rattle.std.specs.Prelude.{◌∷◌, ℕ, List, [], Option, Some, None}
use Rattle.aml_data.specs.declared.path.FullPath.{FullPath}
use Rattle.acpi_build.specs.declared.fault.ObjectFault.{ObjectFault}
use Rattle.acpi_build.specs.declared.note.Note.{Note}
use Rattle.acpi_build.specs.declared.note.NoteKind.{NoteKind}
use Rattle.acpi_build.specs.declared.note.NoteKind.TheVariants as notes
use Rattle.pw_findings.specs.declared.finding.Finding.{Finding}
use Rattle.pw_findings.specs.declared.finding.FindingKind.TheVariants as kinds
use Rattle.pw_findings.specs.declared.finding.OfObject.TheVariants as objects
use Rattle.pw_findings.specs.declared.finding.Unused.{Unused}
use Rattle.pw_findings.specs.declared.finding.Unused.TheVariants.{Method, Alias, Empty, BesideLpi, NoSuchState}
use Rattle.pw_findings.specs.Findings.{finding}
use Rattle.pw_states.specs.Objects.{meaningless}

-- # Notes

-- what a note says of its object; that of an unfit domain is found of the domain
abbrev pub noted_kind : NoteKind → Option Unused
noted_kind notes.ByMethod = Some Method
noted_kind notes.ByAlias = Some Alias
noted_kind notes.Empty = Some Empty
noted_kind notes.Ignored = Some BesideLpi
noted_kind notes.NoSuchState = Some NoSuchState
noted_kind (notes.UnfitDomain domain) = None

abbrev pub of_object : FullPath → Option Unused → List Finding
of_object path None = []
of_object path (Some why) = finding path (kinds.Object (objects.Unused why)) ∷ []

abbrev pub note_findings : Note → List Finding
note_findings note = of_object note.path (noted_kind note.kind)

-- # Objects that mean nothing, and limits

abbrev pub root : FullPath
root = record { segs = [] }

-- what is found of an object that means nothing
abbrev pub fault_finding : ObjectFault → Finding
fault_finding f = meaningless f.path f.place f.why

-- what is found of a limit that is passed
abbrev pub limit_finding : ℕ → ℕ → Finding
limit_finding which number = finding root (kinds.Object (objects.PastLimit which number))
