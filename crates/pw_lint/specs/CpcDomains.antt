-- What is found of the domains of processors with `_CPC`, which their `_PSD` name (ACPI 6.5, 8.3, 8.4.5.5 and 8.4.6.1).
use Rattle.std.specs.Prelude.{ℕ, ◌==◌, ◌&&◌, ◌++◌, not, Bool, false, List, [], ◌∷◌, filter, length, map, position, take, slice_index_or, unwrap_or, Option, Some, None, if◌then◌else◌}
use Rattle.std.specs.List.{list_any}
use Rattle.aml_data.specs.declared.path.FullPath.{FullPath}
use Rattle.acpi_values.specs.declared.dependency.Dependency.{Dependency}
use Rattle.acpi_values.specs.declared.performance.Cpc.{Cpc}
use Rattle.acpi_space.specs.Namespace.{Entry}
use Rattle.pw_plan.specs.declared.parts.CpuParts.{CpuParts}
use Rattle.pw_plan.specs.Domains.{same_coord}
use Rattle.pw_plan.specs.Parts.{cpu_in}
use Rattle.pw_findings.specs.declared.finding.DomainId.{DomainId}
use Rattle.pw_findings.specs.declared.finding.Finding.{Finding}
use Rattle.pw_findings.specs.declared.finding.FindingKind.TheVariants as kinds
use Rattle.pw_findings.specs.declared.finding.OfDomain.{OfDomain}
use Rattle.pw_findings.specs.declared.finding.OfDomain.TheVariants.{OtherType, OtherNumber, OtherSize}
use Rattle.pw_findings.specs.declared.finding.OfMember.TheVariants.{OtherRange}
use Rattle.pw_findings.specs.declared.finding.Shared.TheVariants as shared
use Rattle.pw_findings.specs.Findings.{finding, of_each, when}
use Rattle.pw_lint.specs.declared.cpc_domains.Member.{Member}
use Rattle.pw_states.specs.declared.cpcs.Range.{Range}
use Rattle.pw_states.specs.Cpcs.{are_apart, range_of}
use Rattle.pw_lint.specs.Tables.{dependency}

-- # Members

-- what a processor with `_CPC` and `_PSD` says as a member of a domain
abbrev pub member_of : Option Cpc → Option Dependency → Option Member
member_of None declared = None
member_of (Some cpc) None = None
member_of (Some cpc) (Some declared) = Some (record { declared = declared; range = range_of cpc })

abbrev pub members_of : List Entry → List CpuParts → List (Option Member)
members_of entries cpus = map (λ (c : CpuParts). member_of c.cpc (dependency entries c.path)) cpus

-- that of processor p; what is read of one that is none is never asked for
abbrev pub member_at : List (Option Member) → Member → ℕ → Member
member_at members first p = unwrap_or (slice_index_or members p None) first

-- # How they differ

-- whether a processor is in the domain of this number
abbrev pub is_in : ℕ → Option Member → Bool
is_in number None = false
is_in number (Some m) = m.declared.domain == number

-- whether it is in that of another, and declares another coordination type
abbrev pub has_other_type : Member → Option Member → Bool
has_other_type first None = false
has_other_type first (Some m) = (m.declared.domain == first.declared.domain) && not (same_coord m.declared.coord first.declared.coord)

-- or another number of processors
abbrev pub has_other_number : Member → Option Member → Bool
has_other_number first None = false
has_other_number first (Some m) =
    (m.declared.domain == first.declared.domain) && not (m.declared.processors == first.declared.processors)

-- or goes from or to another level
abbrev pub has_other_range : Member → Option Member → Bool
has_other_range first None = false
has_other_range first (Some m) = (m.declared.domain == first.declared.domain) && are_apart first.range m.range

-- # What is found

abbrev pub id_of : Member → DomainId
id_of first = record { of = shared.Cpc; number = Some first.declared.domain; index = 0 }

-- of a domain, told of its first member
abbrev pub declared_amiss : FullPath → Member → OfDomain → Finding
declared_amiss path first amiss = finding path (kinds.Domain (id_of first) amiss)

-- the first member of another coordination type
abbrev pub type_amiss : List CpuParts → List (Option Member) → FullPath → Member → Option ℕ → List Finding
type_amiss cpus members path first None = []
type_amiss cpus members path first (Some p) = declared_amiss path first
    (OtherType first.declared.coord (cpu_in cpus p).path (member_at members first p).declared.coord) ∷ []

-- the first that declares another number of processors
abbrev pub number_amiss : List CpuParts → List (Option Member) → FullPath → Member → Option ℕ → List Finding
number_amiss cpus members path first None = []
number_amiss cpus members path first (Some p) = declared_amiss path first
    (OtherNumber first.declared.processors (cpu_in cpus p).path (member_at members first p).declared.processors) ∷ []

-- how many members the domain has
abbrev pub size_of : List (Option Member) → Member → ℕ
size_of members first = length (filter (is_in first.declared.domain) members)

abbrev pub size_amiss : List (Option Member) → FullPath → Member → List Finding
size_amiss members path first = when (not (first.declared.processors == size_of members first))
    (declared_amiss path first (OtherSize first.declared.processors (size_of members first)))

-- the first that goes from or to another level
abbrev pub ranges_amiss : FullPath → Member → FullPath → Option Range → Option Range → List Finding
ranges_amiss path first other None s = []
ranges_amiss path first other (Some r) None = []
ranges_amiss path first other (Some r) (Some s) =
    finding path (kinds.Member (id_of first) (OtherRange r.lowest r.highest other s.lowest s.highest)) ∷ []

abbrev pub range_amiss : List CpuParts → List (Option Member) → FullPath → Member → Option ℕ → List Finding
range_amiss cpus members path first None = []
range_amiss cpus members path first (Some p) =
    ranges_amiss path first (cpu_in cpus p).path first.range (member_at members first p).range

abbrev pub led : List CpuParts → List (Option Member) → FullPath → Member → List Finding
led cpus members path first =
    type_amiss cpus members path first (position (has_other_type first) members)
    ++ (number_amiss cpus members path first (position (has_other_number first) members)
    ++ (size_amiss members path first
    ++ range_amiss cpus members path first (position (has_other_range first) members)))

-- what is found of a domain by processor k: nothing but by the first that is in it
abbrev pub led_by : List CpuParts → List (Option Member) → ℕ → Option Member → List Finding
led_by cpus members k None = []
led_by cpus members k (Some first) = if list_any (is_in first.declared.domain) (take k members)
    then []
    else led cpus members (cpu_in cpus k).path first

abbrev pub at_member : List CpuParts → List (Option Member) → ℕ → List Finding
at_member cpus members k = led_by cpus members k (slice_index_or members k None)

-- domain by domain, in the order of their first members
unfoldable pub cpc_domain_findings : List Entry → List CpuParts → List Finding
cpc_domain_findings entries cpus = of_each (length cpus) (at_member cpus (members_of entries cpus))
