-- What is found of C states (ACPI 6.5, 8.4.1.1).
use Rattle.std.specs.Prelude.{ℕ, ◌+◌, ◌==◌, ◌&&◌, ◌++◌, not, Bool, List, length, nat_lt, slice_index_or}
use Rattle.aml_data.specs.declared.path.FullPath.{FullPath}
use Rattle.acpi_values.specs.Null.{null_register}
use Rattle.acpi_values.specs.declared.idle.CState.{CState}
use Rattle.pw_findings.specs.declared.finding.Finding.{Finding}
use Rattle.pw_findings.specs.declared.finding.FindingKind.TheVariants as kinds
use Rattle.pw_findings.specs.declared.finding.OfCst.TheVariants.{NoC1, TypeFalls, PowerRises}
use Rattle.pw_findings.specs.Findings.{finding, of_each, when}

-- what is read past the end of a list, which is never asked for
unfoldable pub no_state : CState
no_state = record { register = null_register; kind = 0; latency = 0; power = 0 }

-- the state of this number, counted from 0
abbrev pub state_in : List CState → ℕ → CState
state_in states k = slice_index_or states k no_state

-- state 0 is of another type than C1
abbrev pub rootless : FullPath → List CState → ℕ → List Finding
rootless path states k = when ((k == 0) && not ((state_in states k).kind == 1)) (finding path (kinds.Cst (NoC1 (state_in states k).kind)))

-- the state behind state k is of a lower type
abbrev pub type_falls : List CState → ℕ → Bool
type_falls states k = nat_lt (k + 1) (length states) && nat_lt (state_in states (k + 1)).kind (state_in states k).kind

abbrev pub lowered : FullPath → List CState → ℕ → List Finding
lowered path states k = when (type_falls states k)
    (finding path (kinds.Cst (TypeFalls (k + 2) (state_in states (k + 1)).kind (state_in states k).kind)))

-- it takes more power
abbrev pub power_rises : List CState → ℕ → Bool
power_rises states k = nat_lt (k + 1) (length states) && nat_lt (state_in states k).power (state_in states (k + 1)).power

abbrev pub costlier : FullPath → List CState → ℕ → List Finding
costlier path states k = when (power_rises states k)
    (finding path (kinds.Cst (PowerRises (k + 2) (state_in states (k + 1)).power (state_in states k).power)))

abbrev pub c_state_findings : FullPath → List CState → ℕ → List Finding
c_state_findings path states k = rootless path states k ++ (lowered path states k ++ costlier path states k)

-- what is found of C states, one after the other
unfoldable pub cst_findings : FullPath → List CState → List Finding
cst_findings path states = of_each (length states) (c_state_findings path states)
