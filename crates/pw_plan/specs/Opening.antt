-- How many operations a domain has at the start.
use Rattle.std.specs.Prelude.{ℕ, min, length, if◌then◌else◌, nat_lt}
use Rattle.acpi_values.specs.declared.dependency.Coord.{Coord}
use Rattle.acpi_values.specs.declared.dependency.Coord.TheVariants.{SwAll, SwAny, HwAll}
use Rattle.pw_plan.specs.declared.domain.Domain.{Domain}
use Rattle.pw_plan.specs.Groups.{is_idle}

-- on how many of so many members a domain's state is set at the start
abbrev pub opening_by : Coord → ℕ → ℕ
opening_by SwAll members = members
opening_by SwAny members = min 1 members
opening_by HwAll members = members

-- of a fit domain of performance or throttling states
abbrev pub opening_count : Domain → ℕ
opening_count d = if is_idle d.kind then 0 else if nat_lt 0 d.unfit then 0 else opening_by d.coord (length d.members)
