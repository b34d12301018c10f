-- The plan that objects tell of, with its notes (ACPI 6.5, 8.4).
use Rattle.std.specs.Prelude.{◌≡◌, ◌+◌, ℕ, List, [], ◌∷◌, ◌++◌, Option, Some, None, Result, Ok, Err, nat_lt, if◌then◌else◌}
use Rattle.acpi_space.specs.Namespace.{Entry}
use Rattle.pw_plan.specs.declared.domain.Domain.{Domain}
use Rattle.pw_plan.specs.declared.fault.PlanFault.{PlanFault}
use Rattle.pw_plan.specs.declared.fault.PlanFault.TheVariants as limits
use Rattle.pw_plan.specs.declared.parts.CpuParts.{CpuParts}
use Rattle.pw_plan.specs.declared.plan.Plan.{Plan}
use Rattle.pw_plan.specs.Groups.{first_of}
use Rattle.pw_plan.specs.Limits.{in_32_bits, limit_passed}
use Rattle.pw_plan.specs.Parts.{cpu_in}
use Rattle.pw_plan.specs.Planning.{IsPlanOf}
use Rattle.acpi_build.specs.declared.fault.BuildFault.{BuildFault}
use Rattle.acpi_build.specs.declared.fault.BuildFault.TheVariants as faults
use Rattle.acpi_build.specs.declared.fault.ObjectFault.{ObjectFault}
use Rattle.acpi_build.specs.declared.note.Note.{Note}
use Rattle.acpi_build.specs.declared.note.NoteKind.TheVariants.{UnfitDomain}
use Rattle.acpi_build.specs.declared.survey.Outcome.{Outcome}
use Rattle.acpi_build.specs.declared.survey.Outcome.TheVariants.{Planned, PastLimit}
use Rattle.acpi_build.specs.declared.survey.Survey.{Survey}
use Rattle.acpi_build.specs.Building.{Made, Remarks, built, note_at, noting}
use Rattle.acpi_build.specs.Machine.{Parts, parts_of}

-- # Notes of domains

-- a domain that can't be coordinated is noted at its first member, by its place
abbrev pub unfit_note : List CpuParts → ℕ → Domain → List Note
unfit_note cpus d domain =
    if nat_lt 0 domain.unfit
    then note_at (cpu_in cpus (first_of domain.members)).path.segs (UnfitDomain (in_32_bits d)) ∷ []
    else []

-- the notes of these domains, the first of which has place d
abbrev pub unfit_notes : List CpuParts → ℕ → List Domain → List Note
unfit_notes cpus d [] = []
unfit_notes cpus d (domain ∷ domains) = unfit_note cpus d domain ++ unfit_notes cpus (d + 1) domains

-- # All that objects tell of

-- What parts make, and all notes then, behind those of their tables: their plan, whose unfit domains are noted; or the first
-- limit that they pass.
abbrev pub IsOutcome : Parts → List Note → Outcome → List Note → Type 0
IsOutcome parts read (Planned P) notes = (P.containers ≡ parts.containers) × (P.cpus ≡ parts.cpus)
    × IsPlanOf P.containers P.cpus P.children P.domains P.groups × (notes ≡ read ++ unfit_notes P.cpus 0 P.domains)
IsOutcome parts read (PastLimit which number) notes =
    (limit_passed parts.containers parts.cpus ≡ Some (limits.Limit which number)) × (notes ≡ read)

-- These are all objects that mean nothing, in their order, and what the parts make that the others tell of.
pub record IsSurvey (entries : List Entry) (S : Survey) : Type 0 where
  pub parts : Parts
  pub remarks : Remarks
  pub read : parts_of entries (noting []) ≡ built parts remarks
  pub faults_are : S.faults ≡ remarks.faults
  pub outcome_is : IsOutcome parts remarks.notes S.outcome S.notes

-- # The plan, where all of them mean something

-- a limit that is passed is a fault
abbrev pub within : {A : Type 0} → Option PlanFault → A → Result A BuildFault
within None made = Ok made
within (Some (limits.Limit which number)) made = Err (faults.Limit which number)
within (Some limits.Memory) made = Ok made

-- the first object that means nothing is a fault
abbrev pub first_fault : List ObjectFault → Option BuildFault
first_fault [] = None
first_fault (f ∷ fs) = Some (faults.Object f.path f.place f.why)

abbrev pub unless : {A : Type 0} → Option BuildFault → Result A BuildFault → Result A BuildFault
unless None made = made
unless (Some fault) made = Err fault

abbrev pub judged : Made Parts → Result (Parts × List Note) BuildFault
judged (built parts remarks) =
    unless (first_fault remarks.faults) (within (limit_passed parts.containers parts.cpus) (parts, remarks.notes))

-- The parts that objects tell of, with the notes of their tables behind these; or the first table without a meaning; or
-- else the first limit that the parts pass.
unfoldable pub parts_within : List Entry → List Note → Result (Parts × List Note) BuildFault
parts_within entries notes = judged (parts_of entries (noting notes))

-- It is the plan of the parts that the objects tell of. The notes are those of their tables, and then those of unfit
-- domains.
pub record IsPlanFrom (entries : List Entry) (P : Plan) (notes : List Note) : Type 0 where
  pub read : List Note
  pub parts : parts_within entries [] ≡ Ok (record { containers = P.containers; cpus = P.cpus }, read)
  pub plan : IsPlanOf P.containers P.cpus P.children P.domains P.groups
  pub notes_are : notes ≡ read ++ unfit_notes P.cpus 0 P.domains

-- two plans have the same lists
pub record AreSame (P Q : Plan) : Type 0 where
  pub containers : P.containers ≡ Q.containers
  pub cpus : P.cpus ≡ Q.cpus
  pub children : P.children ≡ Q.children
  pub domains : P.domains ≡ Q.domains
  pub groups : P.groups ≡ Q.groups

-- two outcomes are plans with the same lists, or the same limit
abbrev pub AreSameOutcomes : Outcome → Outcome → Type 0
AreSameOutcomes (Planned P) (Planned Q) = AreSame P Q
AreSameOutcomes (Planned P) (PastLimit which number) = ⊥
AreSameOutcomes (PastLimit which number) (Planned P) = ⊥
AreSameOutcomes (PastLimit which number) (PastLimit other many) = (which ≡ other) × (number ≡ many)
