-- What is found of a machine (ACPI 6.5, 8.4).
use Rattle.std.specs.Prelude.{◌≡◌, ◌&&◌, ◌||◌, ℕ, not, Bool, List, [], ◌∷◌, ◌++◌, codes, find, is_some, map, Option, if◌then◌else◌}
use Rattle.std.specs.List.{flat_map}
use Rattle.acpi_values.specs.declared.idle.CState.{CState}
use Rattle.aml_data.specs.declared.path.FullPath.{FullPath}
use Rattle.acpi_space.specs.Namespace.{Entry}
use Rattle.acpi_space.specs.declared.passed.PassedOver.{PassedOver}
use Rattle.acpi_build.specs.declared.fault.ObjectFault.{ObjectFault}
use Rattle.acpi_build.specs.declared.note.Note.{Note}
use Rattle.acpi_build.specs.declared.survey.Outcome.{Outcome}
use Rattle.acpi_build.specs.declared.survey.Outcome.TheVariants.{Planned, PastLimit}
use Rattle.acpi_build.specs.declared.survey.Survey.{Survey}
use Rattle.acpi_build.specs.Planning.{IsSurvey}
use Rattle.pw_plan.specs.declared.domain.Domain.{Domain}
use Rattle.pw_plan.specs.declared.domain.DomainKind.{DomainKind}
use Rattle.pw_plan.specs.declared.domain.DomainKind.TheVariants.{Perf, Throttle}
use Rattle.pw_plan.specs.declared.parts.ContainerParts.{ContainerParts}
use Rattle.pw_plan.specs.declared.parts.CpuParts.{CpuParts}
use Rattle.pw_findings.specs.declared.finding.Finding.{Finding}
use Rattle.pw_findings.specs.declared.finding.FindingKind.TheVariants as kinds
use Rattle.pw_findings.specs.declared.finding.OfLimit.TheVariants as limits
use Rattle.pw_findings.specs.declared.finding.OfObject.TheVariants as objects
use Rattle.pw_findings.specs.declared.finding.Unused.TheVariants.{NoStates}
use Rattle.pw_findings.specs.declared.scales.Known.{Known}
use Rattle.pw_lint.specs.CpcDomains.{cpc_domain_findings}
use Rattle.pw_states.specs.Cpcs.{cpc_findings}
use Rattle.pw_lint.specs.Devices.{status_findings, twin_findings, unnamed}
use Rattle.pw_states.specs.CStates.{cst_findings}
use Rattle.pw_findings.specs.Domains.{domain_findings}
use Rattle.pw_findings.specs.Findings.{finding, when}
use Rattle.pw_lint.specs.Notes.{fault_finding, limit_finding, note_findings}
use Rattle.pw_states.specs.Idle.{counted, has_cst, idle_findings, integer_findings}
use Rattle.pw_states.specs.Parents.{around, parent_findings}
use Rattle.pw_lint.specs.Passed.{passed_findings}
use Rattle.pw_findings.specs.Scales.{declares, latency_findings, of_scale, rate_findings, shared, two_spaces}
use Rattle.pw_lint.specs.Tables.{below, c_states, frequencies, is_known, p_states, percentages, registers, stands, t_states}

-- # Idle states

unfoldable pub container_findings : List Entry → List ContainerParts → ContainerParts → List Finding
container_findings entries containers c =
    status_findings entries c.path
    ++ (idle_findings c.path c.idle
    ++ parent_findings c.path (is_known entries c.path (codes "_LPI")) (around containers c.parent) c.idle)

-- the C states that a processor idles in, none where it has others
abbrev pub used_c_states : List Entry → CpuParts → List CState
used_c_states entries c = if has_cst c then c_states entries c.path else []

-- what is found of a processor's idle states, beside the first that has C states
unfoldable pub cpu_idle_findings : List Entry → List ContainerParts → Option CpuParts → CpuParts → List Finding
cpu_idle_findings entries containers first c =
    idle_findings c.path c.idle
    ++ (counted c first
    ++ (cst_findings c.path (used_c_states entries c)
    ++ (integer_findings c.path c.idle
    ++ parent_findings c.path (is_known entries c.path (codes "_LPI")) (around containers c.parent) c.idle)))

-- # Devices

-- of a processor as a device
abbrev pub device_findings : List Entry → FullPath → List Finding
device_findings entries path = status_findings entries path ++ unnamed entries path

-- # Performance and throttling states

-- an object that speaks of states, where there is no use for it
abbrev pub stateless : List Entry → FullPath → DomainKind → Bool → List ℕ → List Finding
stateless entries path kind used seg =
    when (stands entries path seg && not used) (finding (below path seg) (kinds.Object (objects.Unused (NoStates kind))))

-- `_PCT` without a `_PSS`, and `_PSD` without one or a `_CPC`
unfoldable pub unused_perf : List Entry → FullPath → List Finding
unused_perf entries path =
    stateless entries path Perf (stands entries path (codes "_PSS")) (codes "_PCT")
    ++ stateless entries path Perf (stands entries path (codes "_PSS") || stands entries path (codes "_CPC")) (codes "_PSD")

-- `_PTC` or `_TSD` without a `_TSS`
unfoldable pub unused_throttle : List Entry → FullPath → List Finding
unused_throttle entries path =
    stateless entries path Throttle (stands entries path (codes "_TSS")) (codes "_PTC")
    ++ stateless entries path Throttle (stands entries path (codes "_TSS")) (codes "_TSD")

-- throttling states without a `_TPC`
unfoldable pub unlimited : List Entry → CpuParts → List Finding
unlimited entries c = when (is_some c.throttle && not (stands entries c.path (codes "_TPC")))
    (finding c.path (kinds.Limit Throttle limits.Absent))

-- whether it is known what stands for a control register and for a domain, by these names
abbrev pub known_of : List Entry → FullPath → List ℕ → List ℕ → Known
known_of entries path register domain = record { register = is_known entries path register; domain = is_known entries path domain }

-- of a processor's performance states, and of its throttling states, beside the first that declares a domain for its own
unfoldable pub perf_findings : List Entry → Option CpuParts → CpuParts → List Finding
perf_findings entries declaring c =
    of_scale Perf c.path (known_of entries c.path (codes "_PCT") (codes "_PSD")) declaring c.perf
    ++ (two_spaces c.path (registers entries c.path)
    ++ (rate_findings Perf c.path (frequencies (p_states entries c.path))
    ++ (latency_findings c.path (p_states entries c.path)
    ++ unused_perf entries c.path)))

unfoldable pub throttle_findings : List Entry → Option CpuParts → CpuParts → List Finding
throttle_findings entries declaring c =
    of_scale Throttle c.path (known_of entries c.path (codes "_PTC") (codes "_TSD")) declaring c.throttle
    ++ (shared c
    ++ (unlimited entries c
    ++ (rate_findings Throttle c.path (percentages (t_states entries c.path))
    ++ unused_throttle entries c.path)))

-- # All of it

-- what is found of a processor: whether it is there and named, its idle, its performance, its throttling states, and continuous
-- performance control
unfoldable pub cpu_findings : List Entry → List ContainerParts → List CpuParts → CpuParts → List Finding
cpu_findings entries containers cpus c =
    device_findings entries c.path
    ++ (cpu_idle_findings entries containers (find has_cst cpus) c
    ++ (perf_findings entries (find (declares Perf) cpus) c
    ++ (throttle_findings entries (find (declares Throttle) cpus) c
    ++ cpc_findings c.path c.cpc)))

-- What is found of a plan and its notes: by the notes, then of the containers, the processors and their names, and the domains.
unfoldable pub findings : List Entry → List ContainerParts → List CpuParts → List Domain → List Note → List Finding
findings entries containers cpus domains noted =
    flat_map note_findings noted
    ++ (flat_map (container_findings entries containers) containers
    ++ (flat_map (cpu_findings entries containers cpus) cpus
    ++ (twin_findings entries cpus
    ++ (flat_map (domain_findings cpus) domains
    ++ cpc_domain_findings entries cpus))))

-- What is found of what objects make: of their plan and its notes; or of the notes and the limit that is passed.
abbrev pub outcome_findings : List Entry → Outcome → List Note → List Finding
outcome_findings entries (Planned P) noted = findings entries P.containers P.cpus P.domains noted
outcome_findings entries (PastLimit which number) noted = flat_map note_findings noted ++ limit_finding which number ∷ []

-- what is found of objects, of which these mean nothing, and the others make this with these notes
abbrev pub object_findings : List Entry → List ObjectFault → Outcome → List Note → List Finding
object_findings entries faults outcome noted = map fault_finding faults ++ outcome_findings entries outcome noted

-- These are the findings of objects beside terms that were passed over: of each such term, of each object that means nothing, and
-- of what the others make.
pub record AreFindings (entries : List Entry) (passed : List PassedOver) (found : List Finding) : Type 0 where
  pub survey : Survey
  pub made : IsSurvey entries survey
  pub found_are : found ≡ flat_map passed_findings passed ++ object_findings entries survey.faults survey.outcome survey.notes
