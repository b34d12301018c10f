-- Dependencies: coordination types, and the fields that `_PSD`, `_TSD` and `_CSD` share (ACPI 6.5, 8.3).
use Rattle.std.specs.Prelude.{◌==◌, ℕ, List, Ok, Err, if◌then◌else◌}
use Rattle.aml_data.specs.declared.data.Data.{Data}
use Rattle.aml_data.specs.declared.data.Width.{Width}
use Rattle.acpi_values.specs.declared.dependency.Coord.{Coord}
use Rattle.acpi_values.specs.declared.dependency.Coord.TheVariants.{SwAll, SwAny, HwAll}
use Rattle.acpi_values.specs.declared.dependency.Dependency.{Dependency}
use Rattle.acpi_values.specs.declared.fault.Place.{Place}
use Rattle.acpi_values.specs.declared.fault.Why.TheVariants.{Count, Revision, Range}
use Rattle.pw_base.specs.Answers.{◌>>=◌}
use Rattle.acpi_fields.specs.Reading.{Read, shape, place, number_of, fixed_of, most_32, most_64}

-- CoordType: FC, FD, FE
abbrev pub coord_in : Place → ℕ → Read Coord
coord_in at n =
    if n == 252 then Ok SwAll
    else (if n == 253 then Ok SwAny
    else (if n == 254 then Ok HwAll
    else Err (shape at Range)))

-- the number of a coordination type
abbrev pub coord_number : Coord → ℕ
coord_number SwAll = 252
coord_number SwAny = 253
coord_number HwAll = 254

-- field i of element k, a coordination type
abbrev pub coord_of : Width → ℕ → ℕ → List Data → Read Coord
coord_of width k i fields = number_of width most_64 k i fields >>= λ n. coord_in (place k i) n

-- the first five fields of element k: how many fields it has, the revision 0, the number of the domain, the coordination
-- type, and how many processors the domain has
abbrev pub dependency_of : Width → ℕ → ℕ → List Data → Read Dependency
dependency_of width count k fields =
    fixed_of width count Count k 1 fields >>= λ _.
    fixed_of width 0 Revision k 2 fields >>= λ _.
    number_of width most_32 k 3 fields >>= λ domain.
    coord_of width k 4 fields >>= λ coord.
    number_of width most_32 k 5 fields >>= λ processors.
    Ok (record { domain = domain; coord = coord; processors = processors })
