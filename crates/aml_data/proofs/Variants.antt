-- What holds of each variant of data objects holds of each object.
use Rattle.std.proofs.Common.{ℕ, List, subst, sym, ◌≡◌}
use Rattle.aml_data.specs.declared.data.Data.{Data, Data-F, out-Data, roll-Data, roll-out-Data}
use Rattle.aml_data.specs.declared.data.Data.TheOpen as layer
use Rattle.aml_data.specs.declared.data.Data.TheVariants.{Int, Ones, Revision, Text, Package, Path as at_path}
use Rattle.aml_data.specs.declared.data.Data.TheViews.{rolls-Int, rolls-Ones, rolls-Revision, rolls-Text, rolls-Buffer, rolls-Package, rolls-VarPackage, rolls-Path}
use Rattle.aml_data.specs.declared.path.Path.{Path}
use Rattle.aml_data.specs.Objects.{Buffer, VarPackage}

pub record Variants (P : Data → Type 0) : Type 0 where
  pub int : (n : ℕ) → P (Int n)
  pub ones : P Ones
  pub revision : P Revision
  pub text : (t : List ℕ) → P (Text t)
  pub buffer : (size : ℕ) (bytes : List ℕ) → P (Buffer size bytes)
  pub pack : (count : ℕ) (vs : List Data) → P (Package count vs)
  pub var_pack : (count : ℕ) (vs : List Data) → P (VarPackage count vs)
  pub path : (name : Path) → P (at_path name)

of_roll : (P : Data → Type 0) (l : Data-F Data) (v : Data) → roll-Data l ≡ v → P v → P (roll-Data l)
of_roll P l v e h = subst P (sym e) h

of_layer : (P : Data → Type 0) → Variants P → (l : Data-F Data) → P (roll-Data l)
of_layer P h (layer.Int n) = of_roll P (layer.Int n) (Int n) (rolls-Int n) (h.int n)
of_layer P h layer.Ones = of_roll P layer.Ones Ones rolls-Ones h.ones
of_layer P h layer.Revision = of_roll P layer.Revision Revision rolls-Revision h.revision
of_layer P h (layer.Text t) = of_roll P (layer.Text t) (Text t) (rolls-Text t) (h.text t)
of_layer P h (layer.Buffer b) = of_roll P (layer.Buffer b) (Buffer b.size b.bytes) (rolls-Buffer b) (h.buffer b.size b.bytes)
of_layer P h (layer.Package count vs) = of_roll P (layer.Package count vs) (Package count vs) (rolls-Package count vs) (h.pack count vs)
of_layer P h (layer.VarPackage c) = of_roll P (layer.VarPackage c) (VarPackage c.count c.elements) (rolls-VarPackage c) (h.var_pack c.count c.elements)
of_layer P h (layer.Path path) = of_roll P (layer.Path path) (at_path path) (rolls-Path path) (h.path path)

pub by_variant : (P : Data → Type 0) → Variants P → (v : Data) → P v
by_variant P h v = subst P (roll-out-Data v) (of_layer P h (out-Data v))
