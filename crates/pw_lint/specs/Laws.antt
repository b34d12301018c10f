-- Which findings there are, in words.
use Rattle.std.specs.Prelude.{◌≡◌, ◌≢◌, ◌<◌, ◌+◌, ◌/◌, ◌%◌, ℕ, Bool, true, false, List, [], codes, length, find, slice_index, Option, Some, None, Contains}
use Rattle.std.proofs.Common.{◌⊎◌}
use Rattle.std.specs.List.{AllByRecursion, Any, list_any}
use Rattle.aml_data.specs.declared.path.FullPath.{FullPath}
use Rattle.acpi_values.specs.Idle.{rows_of}
use Rattle.acpi_values.specs.declared.idle.CState.{CState}
use Rattle.acpi_values.specs.declared.idle.IdleKind.TheVariants.{Cst}
use Rattle.acpi_values.specs.declared.idle.IdleRow.{IdleRow}
use Rattle.acpi_values.specs.declared.idle.IdleTable.{IdleTable}
use Rattle.acpi_space.specs.Namespace.{Entry}
use Rattle.acpi_space.specs.declared.passed.PassedOver.{PassedOver}
use Rattle.acpi_build.specs.declared.fault.BuildFault.{BuildFault}
use Rattle.acpi_build.specs.declared.fault.BuildFault.TheVariants as faults
use Rattle.acpi_build.specs.declared.note.Note.{Note}
use Rattle.acpi_build.specs.declared.note.NoteKind.TheVariants.{UnfitDomain}
use Rattle.acpi_build.specs.Planning.{IsPlanFrom}
use Rattle.pw_plan.specs.declared.domain.Domain.{Domain}
use Rattle.pw_plan.specs.declared.domain.DomainKind.{DomainKind}
use Rattle.pw_plan.specs.declared.domain.DomainKind.TheVariants.{Perf, Throttle}
use Rattle.pw_plan.specs.declared.parts.ContainerParts.{ContainerParts}
use Rattle.pw_plan.specs.declared.parts.CpuParts.{CpuParts}
use Rattle.pw_plan.specs.declared.plan.Plan.{Plan}
use Rattle.pw_plan.specs.Parts.{cpu_in}
use Rattle.pw_findings.specs.declared.finding.Finding.{Finding}
use Rattle.pw_findings.specs.declared.finding.FindingKind.TheVariants as kinds
use Rattle.pw_findings.specs.declared.finding.OfCst.TheVariants.{NoC1, TypeFalls, PowerRises}
use Rattle.pw_findings.specs.declared.finding.OfDevice.TheVariants.{NotPresent, NotEnabled, SameUid}
use Rattle.pw_findings.specs.declared.finding.OfEntry.TheVariants.{NullState, OtherCount}
use Rattle.pw_findings.specs.declared.finding.OfIdle.TheVariants.{LatencyFalls, ResidencyFalls}
use Rattle.pw_findings.specs.declared.finding.OfObject.TheVariants as objects
use Rattle.pw_findings.specs.declared.finding.OfObject.TheVariants.{Meaningless, PastLimit}
use Rattle.pw_findings.specs.declared.finding.OfParent.TheVariants.{Absent, Overflows, Past, Unreached}
use Rattle.pw_findings.specs.declared.finding.OfRate.TheVariants.{Zero, Rises, Repeats}
use Rattle.pw_findings.specs.declared.finding.Repeat.{Repeat}
use Rattle.pw_findings.specs.declared.finding.Unused.{Unused}
use Rattle.pw_lint.specs.CpcDomains.{cpc_domain_findings}
use Rattle.pw_states.specs.Cpcs.{cpc_findings}
use Rattle.pw_states.specs.CStates.{state_in}
use Rattle.pw_lint.specs.Devices.{twin_findings, uid_in, uids_of}
use Rattle.pw_findings.specs.Domains.{domain_findings, member_findings, unfit_findings}
use Rattle.pw_findings.specs.Findings.{finding}
use Rattle.pw_lint.specs.Notes.{note_findings, root}
use Rattle.pw_findings.specs.Firsts.{first_repeat}
use Rattle.pw_states.specs.Idle.{has_cst, has_null, row_in, state_count}
use Rattle.pw_states.specs.Parents.{count_in, enables, number_of, overflowing}
use Rattle.pw_lint.specs.Passed.{passed_findings, skipped}
use Rattle.pw_lint.specs.Machine.{container_findings, cpu_findings, cpu_idle_findings, device_findings, perf_findings, throttle_findings}
use Rattle.pw_findings.specs.Scales.{declares}
use Rattle.pw_lint.specs.Tables.{integer_at}

-- # Of a machine

-- it is found of one of these
abbrev pub FoundIn : {X : Type 0} → (X → List Finding) → List X → Finding → Type 0
FoundIn found xs f = Any (λ x. Contains (found x) f) xs

-- it is found of a note, a container, a processor, two of one name, a domain or a domain of processors with `_CPC`
abbrev pub IsFound : List Entry → List ContainerParts → List CpuParts → List Domain → List Note → Finding → Type 0
IsFound entries containers cpus domains noted f = FoundIn note_findings noted f
    ⊎ (FoundIn (container_findings entries containers) containers f
    ⊎ (FoundIn (cpu_findings entries containers cpus) cpus f
    ⊎ (Contains (twin_findings entries cpus) f
    ⊎ (FoundIn (domain_findings cpus) domains f ⊎ Contains (cpc_domain_findings entries cpus) f))))

-- it is of one of these terms, in which objects may stand
abbrev pub IsSkipped : PassedOver → Finding → Type 0
IsSkipped term f = (why : Unused) × (skipped term.opcode ≡ Some why) × (f ≡ finding term.path (kinds.Object (objects.Unused why)))

-- it is found of a processor as a device, of its idle, performance or throttling states, beside the first that has C states or
-- declares a domain, or of its continuous performance control
abbrev pub IsFoundOfCpu : List Entry → List ContainerParts → List CpuParts → CpuParts → Finding → Type 0
IsFoundOfCpu entries containers cpus c f = Contains (device_findings entries c.path) f
    ⊎ (Contains (cpu_idle_findings entries containers (find has_cst cpus) c) f
    ⊎ (Contains (perf_findings entries (find (declares Perf) cpus) c) f
    ⊎ (Contains (throttle_findings entries (find (declares Throttle) cpus) c) f
    ⊎ Contains (cpc_findings c.path c.cpc) f)))

-- it is found of why a domain is unfit, or of how its members differ
abbrev pub IsFoundOfDomain : List CpuParts → Domain → Finding → Type 0
IsFoundOfDomain cpus d f = Contains (unfit_findings cpus d) f ⊎ Contains (member_findings cpus d) f

-- # Of refusals

-- it is of why objects make no plan: of the first that means nothing, or of the limit that is passed
abbrev pub IsOfRefusal : BuildFault → Finding → Type 0
IsOfRefusal (faults.Object path place why) f = f ≡ finding path (kinds.Object (Meaningless place why))
IsOfRefusal (faults.Limit which number) f = f ≡ finding root (kinds.Object (PastLimit which number))
IsOfRefusal faults.Memory f = ⊥

-- # Where nothing is found

-- of none of these is anything
abbrev pub NoneIn : {X : Type 0} → (X → List Finding) → List X → Type 0
NoneIn found xs = AllByRecursion (λ x. found x ≡ []) xs

-- a note that is about an unfit domain
abbrev pub IsOfDomain : Note → Type 0
IsOfDomain note = (domain : ℕ) × (note.kind ≡ UnfitDomain domain)

-- All notes are about unfit domains and all domains are fit; nothing unwise is found of their members, of the containers and
-- the processors, of two of one name, or of domains of processors with `_CPC`.
pub record IsWise (entries : List Entry) (containers : List ContainerParts) (cpus : List CpuParts) (domains : List Domain)
    (noted : List Note) : Type 0 where
  pub of_notes : AllByRecursion IsOfDomain noted
  pub of_containers : NoneIn (container_findings entries containers) containers
  pub of_processors : NoneIn (cpu_findings entries containers cpus) cpus
  pub of_names : twin_findings entries cpus ≡ []
  pub of_domains : AllByRecursion (λ (d : Domain). (d.unfit ≡ 0) × (member_findings cpus d ≡ [])) domains
  pub of_cpc : cpc_domain_findings entries cpus ≡ []

-- Objects make a plan, of which nothing is found, and no term was passed over in which objects may stand.
pub record IsClean (entries : List Entry) (passed : List PassedOver) : Type 0 where
  pub plan : Plan
  pub noted : List Note
  pub planned : IsPlanFrom entries plan noted
  pub wise : IsWise entries plan.containers plan.cpus plan.domains noted
  pub of_passed : NoneIn passed_findings passed

-- # Of devices

-- by its `_STA` a device isn't present
abbrev pub IsAbsent : List Entry → FullPath → Finding → Type 0
IsAbsent entries path f = (n : ℕ) × (integer_at entries path (codes "_STA") ≡ Some n) × (n % 2 ≢ 1)
    × (f ≡ finding path (kinds.Device (NotPresent n)))

-- by its `_STA` it is present and not enabled
abbrev pub IsDisabled : List Entry → FullPath → Finding → Type 0
IsDisabled entries path f = (n : ℕ) × (integer_at entries path (codes "_STA") ≡ Some n) × (n % 2 ≡ 1) × (n / 2 % 2 ≢ 1)
    × (f ≡ finding path (kinds.Device (NotEnabled n)))

-- Processor k has the `_UID` of processor j, and none before that one has it.
pub record IsTwin (entries : List Entry) (cpus : List CpuParts) (f : Finding) : Type 0 where
  pub j : ℕ
  pub k : ℕ
  pub uid : ℕ
  pub order : j < k
  pub within : k < length cpus
  pub one : uid_in (uids_of entries cpus) j ≡ Some uid
  pub other : uid_in (uids_of entries cpus) k ≡ Some uid
  pub first : (i : ℕ) → i < j → uid_in (uids_of entries cpus) i ≢ Some uid
  pub told : f ≡ finding (cpu_in cpus k).path (kinds.Device (SameUid uid (cpu_in cpus j).path))

-- # Of idle states

-- some state wakes sooner than the one before it
abbrev pub IsFalling : FullPath → List IdleRow → Finding → Type 0
IsFalling path rows f = (k : ℕ) × (k + 1 < length rows) × ((row_in rows (k + 1)).latency < (row_in rows k).latency)
    × (f ≡ finding path (kinds.Idle (LatencyFalls (k + 2) (row_in rows (k + 1)).latency (row_in rows k).latency)))

-- some state is worth its cost sooner than the one before it
abbrev pub IsShrinking : FullPath → List IdleRow → Finding → Type 0
IsShrinking path rows f = (k : ℕ) × (k + 1 < length rows) × ((row_in rows (k + 1)).residency < (row_in rows k).residency)
    × (f ≡ finding path (kinds.Idle (ResidencyFalls (k + 2) (row_in rows (k + 1)).residency (row_in rows k).residency)))

-- some C state has the null register
abbrev pub IsUnentered : FullPath → IdleTable → Finding → Type 0
IsUnentered path t f = (k : ℕ) × (k < length (rows_of t)) × (t.kind ≡ Cst) × (has_null (row_in (rows_of t) k).entry ≡ true)
    × (f ≡ finding path (kinds.Entry (NullState (k + 1))))

-- a processor has C states, and in another number than the first that has any
abbrev pub IsCounted : CpuParts → Option CpuParts → Finding → Type 0
IsCounted c first f = (q : CpuParts) × (first ≡ Some q) × (c.idle.kind ≡ Cst) × (state_count c ≢ state_count q)
    × (f ≡ finding c.path (kinds.Entry (OtherCount (state_count c) q.path (state_count q))))

-- # Of idle states beside those of the container around

-- some state enables one of a container, and none is around
abbrev pub IsNowhere : FullPath → Option ContainerParts → List IdleRow → Finding → Type 0
IsNowhere path parent rows f = (k : ℕ) × (parent ≡ None) × (k < length rows) × (0 < (row_in rows k).parent)
    × (f ≡ finding path (kinds.Parent (Absent (k + 1) (row_in rows k).parent)))

-- some state enables one past those of the container
abbrev pub IsPast : FullPath → Option ContainerParts → List IdleRow → Finding → Type 0
IsPast path parent rows f = (c : ContainerParts) × (k : ℕ) × (parent ≡ Some c) × (k < length rows) × (count_in c < (row_in rows k).parent)
    × (f ≡ finding path (kinds.Parent (Past (k + 1) (row_in rows k).parent c.path (count_in c))))

-- the states are known, and none that may be entered enables the deepest one of the container
abbrev pub IsUnreached : FullPath → Bool → Option ContainerParts → List IdleRow → Finding → Type 0
IsUnreached path known parent rows f = (c : ContainerParts) × (parent ≡ Some c) × (known ≡ true) × (0 < count_in c)
    × (list_any (enables (count_in c)) rows ≡ false) × (f ≡ finding path (kinds.Parent (Unreached c.path (count_in c))))

-- some state enables one of the container that adds too much to its number, and is the first such
abbrev pub IsOverflowing : FullPath → Option ContainerParts → List IdleRow → Finding → Type 0
IsOverflowing path parent rows f = (c : ContainerParts) × (k : ℕ) × (j : ℕ) × (parent ≡ Some c) × (k < length rows)
    × (overflowing c (row_in rows k) ≡ Some j)
    × (f ≡ finding path (kinds.Parent (Overflows (k + 1) (number_of (row_in rows k).entry) (j + 1) c.path
    (number_of (row_in (rows_of c.idle) j).entry))))

-- # Of C states

-- there are some, and the first is of another type than C1
abbrev pub IsRootless : FullPath → List CState → Finding → Type 0
IsRootless path states f = (0 < length states) × ((state_in states 0).kind ≢ 1)
    × (f ≡ finding path (kinds.Cst (NoC1 (state_in states 0).kind)))

-- some state is of a lower type than the one before it
abbrev pub IsLowered : FullPath → List CState → Finding → Type 0
IsLowered path states f = (k : ℕ) × (k + 1 < length states) × ((state_in states (k + 1)).kind < (state_in states k).kind)
    × (f ≡ finding path (kinds.Cst (TypeFalls (k + 2) (state_in states (k + 1)).kind (state_in states k).kind)))

-- some state takes more power than the one before it
abbrev pub IsCostlier : FullPath → List CState → Finding → Type 0
IsCostlier path states f = (k : ℕ) × (k + 1 < length states) × ((state_in states k).power < (state_in states (k + 1)).power)
    × (f ≡ finding path (kinds.Cst (PowerRises (k + 2) (state_in states (k + 1)).power (state_in states k).power)))

-- # Of rates

-- some state is of 0 MHz or 0 percent
abbrev pub IsStill : DomainKind → FullPath → List ℕ → Finding → Type 0
IsStill kind path rates f = (k : ℕ) × (k < length rates) × (slice_index rates k ≡ 0) × (f ≡ finding path (kinds.Rate kind (Zero k)))

-- some state is faster than the one before it
abbrev pub IsRising : DomainKind → FullPath → List ℕ → Finding → Type 0
IsRising kind path rates f = (k : ℕ) × (k + 1 < length rates) × (slice_index rates k < slice_index rates (k + 1))
    × (f ≡ finding path (kinds.Rate kind (Rises (k + 1) (slice_index rates (k + 1)) (slice_index rates k))))

-- some state is as fast as an earlier one, and is the first such
abbrev pub IsRepeated : DomainKind → FullPath → List ℕ → Finding → Type 0
IsRepeated kind path rates f = (r : Repeat) × (first_repeat rates ≡ Some r) × (f ≡ finding path (kinds.Rate kind (Repeats r)))
