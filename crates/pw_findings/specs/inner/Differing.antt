-- The ways in which a member of a domain may differ from the first.
use Rattle.std.specs.Prelude.{ℕ, Bool, List}
use Rattle.pw_plan.specs.declared.domain.Domain.{Domain}
use Rattle.pw_plan.specs.declared.parts.CpuParts.{CpuParts}
use Rattle.pw_findings.specs.declared.differing.Differing.{Differing}
use Rattle.pw_findings.specs.declared.differing.Differing.TheVariants as ways
use Rattle.pw_findings.specs.Domains.{has_other_control, has_other_length, has_other_number, has_other_register, has_other_type, lacks_register}

-- whether it differs in this way
abbrev pub differs : Differing → List CpuParts → Domain → ℕ → Bool
differs ways.Type = has_other_type
differs ways.Number = has_other_number
differs ways.Length = has_other_length
differs ways.NoRegister = lacks_register
differs ways.Register = has_other_register
differs ways.Control = has_other_control
