-- The objects that are written for values (ACPI 6.5, 8.4).
use Rattle.std.specs.Prelude.{◌<◌, ◌^◌, ℕ, List, length}
use Rattle.aml_data.specs.declared.data.Data.{Data}
use Rattle.aml_data.specs.declared.data.Data.TheVariants.{Package}
use Rattle.aml_data.specs.Objects.{Buffer}
use Rattle.aml_data.specs.declared.data.Width.{Width}
use Rattle.aml_data.specs.declared.data.Width.TheVariants.{W32, W64}
use Rattle.acpi_values.specs.Registers.{register_bytes}
use Rattle.acpi_values.specs.declared.register.Register.{Register}

-- a register: a buffer of the 17 bytes of its template
abbrev pub register_object : Register → Data
register_object r = Buffer 17 (register_bytes r)

-- elements, as a package that counts them
abbrev pub package_object : List Data → Data
package_object elements = Package (length elements) elements

-- a number that integers of this width hold
abbrev pub FitsWidth : Width → ℕ → Type 0
FitsWidth W32 n = n < 2 ^ 32
FitsWidth W64 n = n < 2 ^ 64
