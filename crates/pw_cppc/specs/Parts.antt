-- What a processor's `_CPC` and `_PSD` say of its performance (ACPI 6.5, 8.4.6.1 and 8.4.5.5).
use Rattle.std.specs.Prelude.{◌&&◌, ℕ, Bool, true, false, List, nat_le, slice_get, slice_index_or, is_some, Option, Some, None, if◌then◌else◌}
use Rattle.acpi_values.specs.declared.performance.Cpc.{Cpc}
use Rattle.acpi_values.specs.declared.performance.CpcEntry.{CpcEntry}
use Rattle.acpi_values.specs.declared.performance.CpcEntry.TheVariants.{Number, Register}
use Rattle.acpi_values.specs.declared.register.Register.{Register as register}
use Rattle.acpi_values.specs.Null.{is_null}
use Rattle.pw_cppc.specs.declared.parts.Control.{Control}
use Rattle.pw_cppc.specs.declared.parts.Control.TheVariants.{Desired, Minimum, Maximum}
use Rattle.pw_cppc.specs.declared.parts.CppcParts.{CppcParts}

-- what is read past the end of a list is never asked for
unfoldable pub no_parts : CppcParts
no_parts = record { cpc = None; dependency = None }

-- the processor of this number
abbrev pub parts_in : List CppcParts → ℕ → CppcParts
parts_in ps p = slice_index_or ps p no_parts

-- whether processor p has `_CPC`
abbrev pub has_cpc : List CppcParts → ℕ → Bool
has_cpc ps p = is_some (parts_in ps p).cpc

-- # Elements of `_CPC`, counted from 0 behind the first two

-- the element at this place, where there is one
abbrev pub entry_of : Option Cpc → ℕ → Option CpcEntry
entry_of None k = None
entry_of (Some cpc) k = slice_get cpc.entries k

-- whether an element is an integer
abbrev pub is_number : Option CpcEntry → Bool
is_number None = false
is_number (Some (Number n)) = true
is_number (Some (Register r)) = false

-- the integer, 0 where it is none
abbrev pub number_in : Option CpcEntry → ℕ
number_in None = 0
number_in (Some (Number n)) = n
number_in (Some (Register r)) = 0

-- the register, unless it is none or null
abbrev pub register_in : Option CpcEntry → Option register
register_in None = None
register_in (Some (Number n)) = None
register_in (Some (Register r)) = if is_null r then None else Some r

-- # What they say

-- HighestPerformance
abbrev pub highest_of : CppcParts → ℕ
highest_of c = number_in (entry_of c.cpc 0)

-- LowestPerformance
abbrev pub lowest_of : CppcParts → ℕ
lowest_of c = number_in (entry_of c.cpc 3)

-- whether both are integers and the lowest isn't above the highest
abbrev pub is_ranged : CppcParts → Bool
is_ranged c = is_number (entry_of c.cpc 3) && is_number (entry_of c.cpc 0) && nat_le (lowest_of c) (highest_of c)

-- DesiredPerformance, MinimumPerformance and MaximumPerformance
abbrev pub place_of : Control → ℕ
place_of Desired = 5
place_of Minimum = 6
place_of Maximum = 7

-- the register by which it is set, if there is one
abbrev pub register_of : Control → CppcParts → Option register
register_of control c = register_in (entry_of c.cpc (place_of control))
