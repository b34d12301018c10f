-- What a data object is told as, by its variant.
use Rattle.std.proofs.Common.{◌≡◌, ℕ, List, codes, map, ap, ◌∙◌}
use Rattle.aml_data.specs.declared.data.Data.{Data, Data-F, map-Data, out-Data, fold_out-Data}
use Rattle.aml_data.specs.declared.data.Data.TheOpen as layer
use Rattle.aml_data.specs.declared.data.Data.TheVariants.{Int, Ones, Revision, Text, Package, Path as at_path}
use Rattle.aml_data.specs.declared.data.Counted.{Counted}
use Rattle.aml_data.specs.declared.data.Data.TheVariants as variant
use Rattle.aml_data.specs.Objects.{buffer_of, Buffer, counted_of, VarPackage}
use Rattle.aml_data.specs.declared.data.Data.TheViews.{outs-Int, outs-Ones, outs-Revision, outs-Text, outs-Buffer, outs-Package, outs-VarPackage, outs-Path}
use Rattle.aml_data.specs.declared.path.Path.{Path}
use Rattle.pw_text.specs.Text.{path_text}
use Rattle.serde_json.specs.Data.{null, number, unsigned, string}
use Rattle.pw_show.specs.Json.{Told, told, told_layer, buffer_json, characters, element_json, package_json}

pub told-layer : (v : Data) (l : Data-F Data) → out-Data v ≡ l → told v ≡ told_layer (map-Data Data Told told l)
unfolding told
told-layer v l e = fold_out-Data Told told_layer v ∙ ap (λ (x : Data-F Data). told_layer (map-Data Data Told told x)) e

pub told-Int : (n : ℕ) → told (Int n) ≡ record { kind = codes "integer"; value = number (unsigned n) }
told-Int n = told-layer (Int n) (layer.Int n) (outs-Int n)

pub told-Ones : told Ones ≡ record { kind = codes "ones"; value = null }
told-Ones = told-layer Ones layer.Ones outs-Ones

pub told-Revision : told Revision ≡ record { kind = codes "revision"; value = null }
told-Revision = told-layer Revision layer.Revision outs-Revision

pub told-Text : (t : List ℕ) → told (Text t) ≡ record { kind = codes "string"; value = characters t }
told-Text t = told-layer (Text t) (layer.Text t) (outs-Text t)

pub told-Buffer : (size : ℕ) (bytes : List ℕ) → told (Buffer size bytes) ≡ record { kind = codes "buffer"; value = buffer_json size bytes }
told-Buffer size bytes = told-layer (Buffer size bytes) (layer.Buffer (buffer_of size bytes)) (outs-Buffer (buffer_of size bytes))

pub told-Package : (count : ℕ) (vs : List Data)
    → told (Package count vs) ≡ record { kind = codes "package"; value = package_json count (map element_json (map told vs)) }
told-Package count vs = told-layer (Package count vs) (layer.Package count vs) (outs-Package count vs)

pub told-VarPackage : (count : ℕ) (vs : List Data)
    → told (VarPackage count vs) ≡ record { kind = codes "varpackage"; value = package_json count (map element_json (map told vs)) }
told-VarPackage count vs = told-layer (VarPackage count vs) (layer.VarPackage (counted_of count vs)) (outs-VarPackage (counted_of count vs))

-- the same, by the count and the elements as one
pub told-counted : (counted : Counted Data)
    → told (variant.VarPackage counted)
    ≡ record { kind = codes "varpackage"; value = package_json counted.count (map element_json (map told counted.elements)) }
told-counted counted = told-layer (variant.VarPackage counted) (layer.VarPackage counted) (outs-VarPackage counted)

pub told-Path : (path : Path) → told (at_path path) ≡ record { kind = codes "path"; value = string (path_text path) }
told-Path path = told-layer (at_path path) (layer.Path path) (outs-Path path)

pub ruleset tellings = (told-Int, told-Ones, told-Revision, told-Text, told-Buffer, told-Package, told-VarPackage, told-counted, told-Path)
