-- The text of an object by its variant.
use Rattle.std.proofs.Common.{◌≡◌, ℕ, List, ◌++◌, codes, decimal, map, ap, ◌∙◌}
use Rattle.std.specs.List.{flat_map}
use Rattle.aml_data.specs.declared.data.Data.{Data, Data-F, map-Data, out-Data, fold_out-Data}
use Rattle.aml_data.specs.declared.data.Data.TheOpen as layer
use Rattle.aml_data.specs.declared.data.Data.TheVariants.{Int, Ones, Revision, Text, Package, Path as at_path}
use Rattle.aml_data.specs.Objects.{buffer_of, Buffer, counted_of, VarPackage}
use Rattle.aml_data.specs.declared.data.Data.TheViews.{outs-Int, outs-Ones, outs-Revision, outs-Text, outs-Buffer, outs-Package, outs-VarPackage, outs-Path}
use Rattle.aml_data.specs.declared.path.Path.{Path}
use Rattle.pw_text.specs.Text.{path_text}
use Rattle.pw_show.specs.Values.{value_text, value_layer, escaped, byte_digits, separated, braced}

pub value_text-layer : (v : Data) (l : Data-F Data) → out-Data v ≡ l → value_text v ≡ value_layer (map-Data Data (List ℕ) value_text l)
unfolding value_text
value_text-layer v l e = fold_out-Data (List ℕ) value_layer v ∙ ap (λ (x : Data-F Data). value_layer (map-Data Data (List ℕ) value_text x)) e

pub value_text-Int : (n : ℕ) → value_text (Int n) ≡ decimal n
value_text-Int n = value_text-layer (Int n) (layer.Int n) (outs-Int n)

pub value_text-Ones : value_text Ones ≡ codes "Ones"
value_text-Ones = value_text-layer Ones layer.Ones outs-Ones

pub value_text-Revision : value_text Revision ≡ codes "Revision"
value_text-Revision = value_text-layer Revision layer.Revision outs-Revision

pub value_text-Text : (t : List ℕ) → value_text (Text t) ≡ codes "\"" ++ flat_map escaped t ++ codes "\""
value_text-Text t = value_text-layer (Text t) (layer.Text t) (outs-Text t)

pub value_text-Buffer : (size : ℕ) (bytes : List ℕ) → value_text (Buffer size bytes) ≡ braced (codes "Buffer(") size (separated (codes " ") (map byte_digits bytes))
value_text-Buffer size bytes = value_text-layer (Buffer size bytes) (layer.Buffer (buffer_of size bytes)) (outs-Buffer (buffer_of size bytes))

pub value_text-Package : (count : ℕ) (vs : List Data) → value_text (Package count vs) ≡ braced (codes "Package(") count (separated (codes ", ") (map value_text vs))
value_text-Package count vs = value_text-layer (Package count vs) (layer.Package count vs) (outs-Package count vs)

pub value_text-VarPackage : (count : ℕ) (vs : List Data) → value_text (VarPackage count vs) ≡ braced (codes "VarPackage(") count (separated (codes ", ") (map value_text vs))
value_text-VarPackage count vs = value_text-layer (VarPackage count vs) (layer.VarPackage (counted_of count vs)) (outs-VarPackage (counted_of count vs))

pub value_text-Path : (path : Path) → value_text (at_path path) ≡ path_text path
value_text-Path path = value_text-layer (at_path path) (layer.Path path) (outs-Path path)

pub ruleset layers = (value_text-Int, value_text-Ones, value_text-Revision, value_text-Text, value_text-Buffer, value_text-Package, value_text-VarPackage, value_text-Path)
