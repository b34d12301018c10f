-- Objects whose elements 32 bits can count, and the objects in an object.
use Rattle.std.specs.Prelude.{ℕ, ◌<◌, ◌^◌, List, length}
use Rattle.std.specs.List.{Contains}
use Rattle.aml_data.specs.declared.data.Data.{Data, Data-F, out-Data}
use Rattle.aml_data.specs.declared.data.Data.TheOpen as layer
use Rattle.aml_data.specs.declared.data.Data.TheVariants.{Package}
use Rattle.aml_data.specs.Objects.{VarPackage}

-- one layer of an object has fewer than 2 ^ 32 elements
abbrev pub LayerIsCountable : Data-F Data → Type 0
LayerIsCountable (layer.Package count elements) = length elements < 2 ^ 32
LayerIsCountable (layer.VarPackage counted) = length counted.elements < 2 ^ 32
LayerIsCountable (layer.Int n) = Unit {0}
LayerIsCountable layer.Ones = Unit {0}
LayerIsCountable layer.Revision = Unit {0}
LayerIsCountable (layer.Text text) = Unit {0}
LayerIsCountable (layer.Buffer buffer) = Unit {0}
LayerIsCountable (layer.Path path) = Unit {0}

-- an object whose elements can be counted in 32 bits
abbrev pub IsCountable : Data → Type 0
IsCountable object = LayerIsCountable (out-Data object)

-- an object is in itself, and in a package one of whose elements it is in
pub data IsIn (part : Data) : Data → Type 0 where
  is_itself : IsIn part part
  is_in_element : (count : ℕ) (elements : List Data) (element : Data) → Contains elements element → IsIn part element
      → IsIn part (Package count elements)
  is_in_counted : (count : ℕ) (elements : List Data) (element : Data) → Contains elements element → IsIn part element
      → IsIn part (VarPackage count elements)
