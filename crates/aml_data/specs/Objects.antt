-- The objects with a number of 64 bits beside their content, by that number and that content (ACPI 6.5, 20.2.5.4).
use Rattle.std.specs.Prelude.{ℕ, List}
use Rattle.aml_data.specs.declared.data.Buffer.{Buffer as buffer}
use Rattle.aml_data.specs.declared.data.Counted.{Counted}
use Rattle.aml_data.specs.declared.data.Data.{Data}
use Rattle.aml_data.specs.declared.data.Data.TheVariants as variant

abbrev pub buffer_of : ℕ → List ℕ → buffer
buffer_of size bytes = record { size = size; bytes = bytes }

-- a buffer of this size, which begins with these bytes
abbrev pub Buffer : ℕ → List ℕ → Data
Buffer size bytes = variant.Buffer (buffer_of size bytes)

abbrev pub counted_of : {T : Type 0} → ℕ → List T → Counted T
counted_of count elements = record { count = count; elements = elements }

-- a package of so many elements, which begins with these
abbrev pub VarPackage : ℕ → List Data → Data
VarPackage count elements = variant.VarPackage (counted_of count elements)
