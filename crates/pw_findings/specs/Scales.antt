-- What is found of performance and throttling states (ACPI 6.5, 8.4.5 and 8.4.4).
use Rattle.std.specs.Prelude.{ℕ, ◌+◌, ◌==◌, ◌&&◌, ◌||◌, ◌++◌, not, Bool, false, List, [], ◌∷◌, length, nat_le, nat_lt, is_none, is_some, position, slice_index, Option, Some, None, if◌then◌else◌}
use Rattle.aml_data.specs.declared.path.FullPath.{FullPath}
use Rattle.acpi_values.specs.Null.{is_null}
use Rattle.acpi_values.specs.declared.performance.ControlPair.{ControlPair}
use Rattle.acpi_values.specs.declared.performance.PState.{PState}
use Rattle.acpi_values.specs.declared.register.Register.{Register}
use Rattle.pw_plan.specs.declared.domain.DomainKind.{DomainKind}
use Rattle.pw_plan.specs.declared.domain.DomainKind.TheVariants.{Perf, Throttle, Idle}
use Rattle.pw_plan.specs.declared.parts.CpuParts.{CpuParts}
use Rattle.pw_plan.specs.declared.parts.Scale.{Scale}
use Rattle.pw_plan.specs.Domains.{dependency_in}
use Rattle.pw_plan.specs.Parts.{scale_of}
use Rattle.pw_findings.specs.declared.finding.Finding.{Finding}
use Rattle.pw_findings.specs.declared.finding.FindingKind.{FindingKind}
use Rattle.pw_findings.specs.declared.finding.FindingKind.TheVariants as kinds
use Rattle.pw_findings.specs.declared.finding.OfControl.TheVariants as controls
use Rattle.pw_findings.specs.declared.finding.OfLimit.{OfLimit}
use Rattle.pw_findings.specs.declared.finding.OfLimit.TheVariants as limits
use Rattle.pw_findings.specs.declared.finding.OfRate.{OfRate}
use Rattle.pw_findings.specs.declared.finding.OfRate.TheVariants.{Zero, Rises, Repeats}
use Rattle.pw_findings.specs.declared.finding.OfScale.TheVariants.{OneState, NoDomain, ControlRepeats, NoLatency}
use Rattle.pw_findings.specs.declared.finding.Repeat.{Repeat}
use Rattle.pw_findings.specs.declared.scales.Known.{Known}
use Rattle.pw_findings.specs.Findings.{finding, of_each, when}
use Rattle.pw_findings.specs.Firsts.{first_repeat}

-- # Of a processor's states

abbrev pub alone : DomainKind → FullPath → Scale → List Finding
alone kind path s = when (length s.controls == 1) (finding path (kinds.Scale kind OneState))

-- the limit at the start: past the last state, or else above 0
abbrev pub limit_amiss : ℕ → ℕ → OfLimit
limit_amiss limit count = if nat_le count limit then limits.Past limit count else limits.AtStart limit

abbrev pub limited : DomainKind → FullPath → Scale → List Finding
limited kind path s = when (nat_lt 0 s.limit) (finding path (kinds.Limit kind (limit_amiss s.limit (length s.controls))))

-- whether a processor declares a domain for its states
abbrev pub declares : DomainKind → CpuParts → Bool
declares kind c = is_some (dependency_in (scale_of kind c))

-- states that are in no declared domain, where those of another processor are
abbrev pub undeclared : DomainKind → FullPath → Bool → Scale → Option CpuParts → List Finding
undeclared kind path known s None = []
undeclared kind path known s (Some other) =
    when (known && is_none s.dependency) (finding path (kinds.Scale kind (NoDomain other.path)))

-- two states have one control value: the first that has that of an earlier one
abbrev pub repeated : FullPath → (Repeat → FindingKind) → Option Repeat → List Finding
repeated path kind None = []
repeated path kind (Some r) = finding path (kind r) ∷ []

abbrev pub alike : DomainKind → FullPath → Scale → List Finding
alike kind path s = repeated path (λ r. kinds.Scale kind (ControlRepeats r)) (first_repeat s.controls)

-- # Of their registers

abbrev pub unsteered : DomainKind → FullPath → Bool → Scale → List Finding
unsteered kind path known s = when (known && is_none s.register) (finding path (kinds.Control kind controls.Absent))

-- how many bits an access of a size that isn't given takes: `_TSS` has control values of 32 bits
abbrev pub widest : DomainKind → ℕ
widest Perf = 64
widest Throttle = 32
widest Idle = 64

-- how many bits an access of this size takes (ACPI 6.5, 5.2.3.2)
abbrev pub room : DomainKind → ℕ → ℕ
room kind access = if access == 1 then 8 else if access == 2 then 16 else if access == 3 then 32 else widest kind

-- where the bits of a register end
abbrev pub end_of : Register → ℕ
end_of r = r.width + r.offset

-- whether it lies in memory or at a port: in other spaces the size of an access isn't one
abbrev pub is_addressed : Register → Bool
is_addressed r = (r.space == 0) || (r.space == 1)

abbrev pub wide_register : DomainKind → FullPath → Option Register → List Finding
wide_register kind path None = []
wide_register kind path (Some r) = when (is_addressed r && nat_lt (room kind r.access) (end_of r))
    (finding path (kinds.Control kind (controls.PastAccess (end_of r) (room kind r.access))))

-- whether two registers are the same
abbrev pub same_register : Register → Register → Bool
same_register a b = (a.space == b.space) && (a.width == b.width) && (a.offset == b.offset) && (a.access == b.access)
    && (a.address == b.address)

-- whether both are there, and the same
abbrev pub are_same : Option Register → Option Register → Bool
are_same None b = false
are_same (Some a) None = false
are_same (Some a) (Some b) = same_register a b

abbrev pub register_in : Option Scale → Option Register
register_in None = None
register_in (Some s) = s.register

-- the control register of performance states is that of throttling states too
abbrev pub shared : CpuParts → List Finding
shared c = when (are_same (register_in c.perf) (register_in c.throttle)) (finding c.path (kinds.Control Throttle controls.Shared))

-- whether control and status are there, in two address spaces
abbrev pub are_apart : ControlPair → Bool
are_apart pair = not (is_null pair.control) && not (is_null pair.status) && not (pair.control.space == pair.status.space)

abbrev pub two_spaces : FullPath → Option ControlPair → List Finding
two_spaces path None = []
two_spaces path (Some pair) =
    when (are_apart pair) (finding path (kinds.Control Perf (controls.TwoSpaces pair.control.space pair.status.space)))

-- What is found of a processor's states of a kind, beside the first processor that declares a domain for its own. Where it isn't
-- known what stands for the register or for the domain, nothing is missing.
abbrev pub of_scale : DomainKind → FullPath → Known → Option CpuParts → Option Scale → List Finding
of_scale kind path known declaring None = []
of_scale kind path known declaring (Some s) =
    alone kind path s ++ (unsteered kind path known.register s ++ (wide_register kind path s.register
    ++ (limited kind path s ++ (undeclared kind path known.domain s declaring ++ alike kind path s))))

-- # How fast the states are, in MHz or percent

-- this of rates, where a test holds
abbrev pub rate_when : Bool → DomainKind → FullPath → OfRate → List Finding
rate_when holds kind path amiss = when holds (finding path (kinds.Rate kind amiss))

abbrev pub still : DomainKind → FullPath → List ℕ → ℕ → List Finding
still kind path rates k = rate_when (slice_index rates k == 0) kind path (Zero k)

-- the state behind state k is faster than it
abbrev pub rising : DomainKind → FullPath → List ℕ → ℕ → List Finding
rising kind path rates k = rate_when (nat_lt (k + 1) (length rates) && nat_lt (slice_index rates k) (slice_index rates (k + 1)))
    kind path (Rises (k + 1) (slice_index rates (k + 1)) (slice_index rates k))

abbrev pub rate_at : DomainKind → FullPath → List ℕ → ℕ → List Finding
rate_at kind path rates k = still kind path rates k ++ rising kind path rates k

-- what is found of rates one after the other, and then the first state that is as fast as an earlier one
unfoldable pub rate_findings : DomainKind → FullPath → List ℕ → List Finding
rate_findings kind path rates =
    of_each (length rates) (rate_at kind path rates) ++ repeated path (λ r. kinds.Rate kind (Repeats r)) (first_repeat rates)

-- the first performance state that is changed to in no time (ACPI 6.5, 8.4.5.2)
abbrev pub hasty : FullPath → Option ℕ → List Finding
hasty path None = []
hasty path (Some k) = finding path (kinds.Scale Perf (NoLatency k)) ∷ []

abbrev pub latency_findings : FullPath → List PState → List Finding
latency_findings path states = hasty path (position (λ (s : PState). s.latency == 0) states)
