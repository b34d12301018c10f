-- What `check` prints of a plan and its notes, line by line and word by word.
use Rattle.std.specs.Prelude.{ℕ, ◌==◌, List, [], ◌∷◌, ◌++◌, length, codes, decimal, Option, Some, None, if◌then◌else◌}
use Rattle.std.specs.List.{flat_map}
use Rattle.acpi_values.specs.Idle.{rows_of}
use Rattle.acpi_values.specs.declared.dependency.Coord.{Coord}
use Rattle.acpi_values.specs.declared.dependency.Coord.TheVariants.{SwAll, SwAny, HwAll}
use Rattle.acpi_values.specs.declared.idle.IdleKind.{IdleKind}
use Rattle.acpi_values.specs.declared.idle.IdleKind.TheVariants as tables
use Rattle.acpi_values.specs.declared.performance.Cpc.{Cpc}
use Rattle.pw_text.specs.Lines.{line_of}
use Rattle.pw_text.specs.Text.{place_text}
use Rattle.pw_plan.specs.declared.domain.Domain.{Domain}
use Rattle.pw_plan.specs.declared.domain.DomainKind.{DomainKind}
use Rattle.pw_plan.specs.declared.domain.DomainKind.TheVariants as kinds
use Rattle.pw_plan.specs.declared.domain.Group.{Group}
use Rattle.pw_plan.specs.declared.parts.ContainerParts.{ContainerParts}
use Rattle.pw_plan.specs.declared.parts.CpuParts.{CpuParts}
use Rattle.pw_plan.specs.declared.plan.Plan.{Plan}
use Rattle.pw_plan.specs.Parts.{container_in, count_of}
use Rattle.acpi_build.specs.declared.note.Note.{Note}
use Rattle.acpi_build.specs.declared.note.NoteKind.{NoteKind}
use Rattle.acpi_build.specs.declared.note.NoteKind.TheVariants as notes
use Rattle.pw_check.specs.Numbers.{numbered, pair_text}

-- # Words

-- the path of the container around, if there is one
abbrev pub parent_text : List ContainerParts → Option ℕ → List ℕ
parent_text cs None = codes "none"
parent_text cs (Some n) = place_text (container_in cs n).path.segs

-- which object the idle states stand in: `_LPI` or `_CST` (ACPI 6.5, 8.4.3.3 and 8.4.1.1)
abbrev pub table_word : IdleKind → List ℕ
table_word tables.Lpi = codes "lpi"
table_word tables.Cst = codes "cst"
table_word tables.Absent = codes "none"

-- the revision of `_CPC` (ACPI 6.5, 8.4.6.1), 0 where there is none
abbrev pub cpc_revision : Option Cpc → ℕ
cpc_revision None = 0
cpc_revision (Some cpc) = cpc.revision

-- what the members of a domain share
abbrev pub kind_word : DomainKind → List ℕ
kind_word kinds.Perf = codes "perf"
kind_word kinds.Throttle = codes "throttle"
kind_word kinds.Idle = codes "idle"

-- a declared domain's number, behind which that of an idle one has the index of its C state
abbrev pub declared_text : DomainKind → ℕ → ℕ → List ℕ
declared_text kinds.Perf number index = decimal number
declared_text kinds.Throttle number index = decimal number
declared_text kinds.Idle number index = pair_text number index

-- the number of a domain, unless its only member declares none
abbrev pub number_text : DomainKind → Option ℕ → ℕ → List ℕ
number_text kind None index = codes "own"
number_text kind (Some number) index = declared_text kind number index

-- the coordination type (ACPI 6.5, 8.3)
abbrev pub coord_word : Coord → List ℕ
coord_word SwAll = codes "SW_ALL"
coord_word SwAny = codes "SW_ANY"
coord_word HwAll = codes "HW_ALL"

-- whether the members of a domain agree, or the number of why they don't
abbrev pub fit_text : ℕ → List ℕ
fit_text unfit = if unfit == 0 then codes "fit" else codes "unfit " ++ decimal unfit

abbrev pub note_text : NoteKind → List ℕ
note_text notes.ByMethod = codes "by method"
note_text notes.ByAlias = codes "by alias"
note_text notes.Empty = codes "empty"
note_text notes.Ignored = codes "ignored"
note_text notes.NoSuchState = codes "no such state"
note_text (notes.UnfitDomain domain) = codes "unfit domain " ++ decimal domain

-- # Lines

-- a container: its path, its parent among these containers, and how many states it has
abbrev pub container_line : List ContainerParts → ContainerParts → List ℕ
container_line cs c = line_of (codes "container" ∷ place_text c.path.segs ∷ codes "parent" ∷ parent_text cs c.parent
    ∷ codes "lpi" ∷ decimal (length (rows_of c.idle)) ∷ [])

-- a processor: its path, its parent, how many states it has in each table, and the revision of `_CPC`
abbrev pub cpu_line : List ContainerParts → CpuParts → List ℕ
cpu_line cs c = line_of (codes "processor" ∷ place_text c.path.segs ∷ codes "parent" ∷ parent_text cs c.parent
    ∷ codes "idle" ∷ table_word c.idle.kind ∷ decimal (length (rows_of c.idle))
    ∷ codes "perf" ∷ decimal (count_of c.perf) ∷ codes "throttle" ∷ decimal (count_of c.throttle)
    ∷ codes "cpc" ∷ decimal (cpc_revision c.cpc) ∷ [])

-- domain d: what it shares, its number, its type, how many members it has, and whether they agree
abbrev pub domain_line : ℕ → Domain → List ℕ
domain_line d domain = line_of (codes "domain" ∷ decimal d ∷ kind_word domain.kind
    ∷ number_text domain.kind domain.number domain.index ∷ coord_word domain.coord
    ∷ codes "members" ∷ decimal (length domain.members) ∷ fit_text domain.unfit ∷ [])

-- group g, and how many members it has
abbrev pub group_line : ℕ → Group → List ℕ
group_line g group = line_of (codes "group" ∷ decimal g ∷ codes "members" ∷ decimal (length group.members) ∷ [])

abbrev pub note_line : Note → List ℕ
note_line note = line_of (codes "note" ∷ place_text note.path.segs ∷ note_text note.kind ∷ [])

-- how many notes there are
abbrev pub count_line : ℕ → List ℕ
count_line count = line_of (codes "notes" ∷ decimal count ∷ [])

-- The text of a plan with its notes: its containers, its processors, its domains and its groups, these two numbered
-- from 0; then the notes and their number.
unfoldable pub check_text : Plan → List Note → List ℕ
check_text P noted =
    flat_map (container_line P.containers) P.containers
    ++ flat_map (cpu_line P.containers) P.cpus
    ++ numbered domain_line 0 P.domains
    ++ numbered group_line 0 P.groups
    ++ flat_map note_line noted
    ++ count_line (length noted)
