-- What is found of domains: why they can't be coordinated, and how their members differ (ACPI 6.5, 8.3).
use Rattle.std.specs.Prelude.{ℕ, ◌==◌, ◌&&◌, ◌++◌, not, Bool, List, [], ◌∷◌, length, find, is_some, unwrap_or, Option, Some, None, if◌then◌else◌}
use Rattle.aml_data.specs.declared.path.FullPath.{FullPath}
use Rattle.acpi_values.specs.declared.dependency.Dependency.{Dependency}
use Rattle.pw_plan.specs.declared.domain.Domain.{Domain}
use Rattle.pw_plan.specs.declared.parts.CpuParts.{CpuParts}
use Rattle.pw_plan.specs.declared.parts.Scale.{Scale}
use Rattle.pw_plan.specs.Domains.{has_register, name_shown, same_coord, shown}
use Rattle.pw_plan.specs.Groups.{first_of, is_software}
use Rattle.pw_plan.specs.Parts.{count_of, cpu_in, scale_of}
use Rattle.pw_findings.specs.declared.finding.DomainId.{DomainId}
use Rattle.pw_findings.specs.declared.finding.Finding.{Finding}
use Rattle.pw_findings.specs.declared.finding.FindingKind.TheVariants as kinds
use Rattle.pw_findings.specs.declared.finding.FindingKind.{FindingKind}
use Rattle.pw_findings.specs.declared.finding.OfDomain.TheVariants.{OtherType, OtherNumber, OtherSize}
use Rattle.pw_findings.specs.declared.finding.OfMember.TheVariants.{OtherLength, NoRegister, OtherRegister, OtherControl}
use Rattle.pw_findings.specs.declared.finding.Shared.TheVariants.{States}
use Rattle.pw_findings.specs.Findings.{finding}
use Rattle.pw_findings.specs.Firsts.{first_other, number_in}
use Rattle.pw_findings.specs.Scales.{are_same, register_in}

abbrev pub id_of : Domain → DomainId
id_of d = record { of = States d.kind; number = d.number; index = d.index }

-- the first member
abbrev pub lead : Domain → ℕ
lead d = first_of d.members

abbrev pub path_at : List CpuParts → ℕ → FullPath
path_at cpus p = (cpu_in cpus p).path

-- what a processor shows as a member of the domain
abbrev pub shown_in : List CpuParts → Domain → ℕ → Dependency
shown_in cpus d p = shown d.kind (name_shown d) cpus p

-- how many states of the domain's kind it has
abbrev pub length_in : List CpuParts → Domain → ℕ → ℕ
length_in cpus d p = count_of (scale_of d.kind (cpu_in cpus p))

-- the first member for which a test holds; in an unfit domain there is one
abbrev pub member_where : (ℕ → Bool) → Domain → ℕ
member_where test d = unwrap_or (find test d.members) (lead d)

-- # How members differ from the first

abbrev pub has_other_type : List CpuParts → Domain → ℕ → Bool
has_other_type cpus d p = not (same_coord (shown_in cpus d p).coord (shown_in cpus d (lead d)).coord)

abbrev pub has_other_number : List CpuParts → Domain → ℕ → Bool
has_other_number cpus d p = not ((shown_in cpus d p).processors == (shown_in cpus d (lead d)).processors)

abbrev pub has_other_length : List CpuParts → Domain → ℕ → Bool
has_other_length cpus d p = not (length_in cpus d p == length_in cpus d (lead d))

abbrev pub lacks_register : List CpuParts → Domain → ℕ → Bool
lacks_register cpus d p = not (has_register (scale_of d.kind (cpu_in cpus p)))

-- # The reason in words

abbrev pub other_type : List CpuParts → Domain → ℕ → FindingKind
other_type cpus d p = kinds.Domain (id_of d) (OtherType (shown_in cpus d (lead d)).coord (path_at cpus p) (shown_in cpus d p).coord)

abbrev pub other_number : List CpuParts → Domain → ℕ → FindingKind
other_number cpus d p =
    kinds.Domain (id_of d) (OtherNumber (shown_in cpus d (lead d)).processors (path_at cpus p) (shown_in cpus d p).processors)

abbrev pub other_size : List CpuParts → Domain → FindingKind
other_size cpus d = kinds.Domain (id_of d) (OtherSize (shown_in cpus d (lead d)).processors (length d.members))

abbrev pub other_length : List CpuParts → Domain → ℕ → FindingKind
other_length cpus d p = kinds.Member (id_of d) (OtherLength (length_in cpus d (lead d)) (path_at cpus p) (length_in cpus d p))

abbrev pub no_register : List CpuParts → Domain → ℕ → FindingKind
no_register cpus d p = kinds.Member (id_of d) (NoRegister (path_at cpus p))

-- why its members don't agree, by the number of the reason
abbrev pub reason : List CpuParts → Domain → FindingKind
reason cpus d =
    if d.unfit == 1 then other_type cpus d (member_where (has_other_type cpus d) d) else
    if d.unfit == 2 then other_number cpus d (member_where (has_other_number cpus d) d) else
    if d.unfit == 3 then other_size cpus d else
    if d.unfit == 4 then other_length cpus d (member_where (has_other_length cpus d) d) else
    no_register cpus d (member_where (lacks_register cpus d) d)

-- what is found of an unfit domain: why its members, the first of which leads, don't agree
unfoldable pub unfit_findings : List CpuParts → Domain → List Finding
unfit_findings cpus d = if d.unfit == 0 then [] else finding (path_at cpus (lead d)) (reason cpus d) ∷ []

-- # How members that agree differ

abbrev pub scale_at : List CpuParts → Domain → ℕ → Option Scale
scale_at cpus d p = scale_of d.kind (cpu_in cpus p)

abbrev pub controls_of : Option Scale → List ℕ
controls_of None = []
controls_of (Some s) = s.controls

-- the first state of which a member has another control value than the first
abbrev pub other_state : List CpuParts → Domain → ℕ → Option ℕ
other_state cpus d p = first_other (controls_of (scale_at cpus d (lead d))) (controls_of (scale_at cpus d p))

abbrev pub has_other_control : List CpuParts → Domain → ℕ → Bool
has_other_control cpus d p = is_some (other_state cpus d p)

abbrev pub has_other_register : List CpuParts → Domain → ℕ → Bool
has_other_register cpus d p =
    is_some (scale_at cpus d p) && not (are_same (register_in (scale_at cpus d (lead d))) (register_in (scale_at cpus d p)))

-- what software writes by the first member isn't what it writes by another
abbrev pub apart : List CpuParts → Domain → Option ℕ → List Finding
apart cpus d None = []
apart cpus d (Some p) = finding (path_at cpus (lead d)) (kinds.Member (id_of d) (OtherRegister (path_at cpus p))) ∷ []

-- the value of a state at a member
abbrev pub control_at : List CpuParts → Domain → ℕ → ℕ → ℕ
control_at cpus d p k = number_in (controls_of (scale_at cpus d p)) k

abbrev pub other_control : List CpuParts → Domain → ℕ → ℕ → FindingKind
other_control cpus d p k = kinds.Member (id_of d) (OtherControl k (control_at cpus d (lead d) k) (path_at cpus p) (control_at cpus d p k))

abbrev pub unlike : List CpuParts → Domain → Option ℕ → List Finding
unlike cpus d None = []
unlike cpus d (Some p) = finding (path_at cpus (lead d)) (other_control cpus d p (unwrap_or (other_state cpus d p) 0)) ∷ []

-- whether its members agree, and software writes their registers
abbrev pub is_written : Domain → Bool
is_written d = (d.unfit == 0) && is_software d.coord

-- what is found of members that agree: the first with another register than the first one has, the first with another value
unfoldable pub member_findings : List CpuParts → Domain → List Finding
member_findings cpus d = if is_written d
    then apart cpus d (find (has_other_register cpus d) d.members) ++ unlike cpus d (find (has_other_control cpus d) d.members)
    else []

abbrev pub domain_findings : List CpuParts → Domain → List Finding
domain_findings cpus d = unfit_findings cpus d ++ member_findings cpus d
