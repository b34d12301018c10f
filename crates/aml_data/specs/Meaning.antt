-- The numbers that data objects mean (ACPI 6.5, 5.2.11.1 and 20.2.3).
use Rattle.std.specs.Prelude.{ℕ, ◌-◌, ◌%◌, ◌^◌, Option, Some, None}
use Rattle.aml_data.specs.declared.data.Data.{Data, Data-F, out-Data}
use Rattle.aml_data.specs.declared.data.Data.TheOpen as layer
use Rattle.aml_data.specs.declared.data.Width.{Width}
use Rattle.aml_data.specs.declared.data.Width.TheVariants.{W32, W64}

-- the number of an integer constant: a width of 32 bits keeps its low half
abbrev pub at_width : Width → ℕ → ℕ
at_width W32 n = n % 2 ^ 32
at_width W64 n = n

-- all bits set
abbrev pub all_ones : Width → ℕ
all_ones W32 = 2 ^ 32 - 1
all_ones W64 = 2 ^ 64 - 1

-- the number that one layer of an object means
abbrev pub layer_meaning : Width → Data-F Data → Option ℕ
layer_meaning width (layer.Int n) = Some (at_width width n)
layer_meaning width layer.Ones = Some (all_ones width)
layer_meaning width layer.Revision = None
layer_meaning width (layer.Text text) = None
layer_meaning width (layer.Buffer buffer) = None
layer_meaning width (layer.Package count elements) = None
layer_meaning width (layer.VarPackage counted) = None
layer_meaning width (layer.Path path) = None

-- the number that an object means at this width, if any
abbrev pub meaning : Data → Width → Option ℕ
meaning object width = layer_meaning width (out-Data object)
