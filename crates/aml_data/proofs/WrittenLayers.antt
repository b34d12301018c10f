-- The written form of an object, and whether it can be written, by its variant.
use Rattle.std.proofs.Common.{◌≡◌, ◌<◌, ◌≤◌, ◌^◌, ◌-◌, ℕ, zero, suc, List, [], ◌∷◌, ◌++◌, map, length, sym, ap, subst, ◌∙◌, arith, Bool, IsTrue, ◌↔◌}
use Rattle.std.specs.List.{AllByRecursion}
use Rattle.aml_data.specs.declared.data.Data.{Data, Data-F, map-Data, out-Data, fold_out-Data}
use Rattle.aml_data.specs.declared.data.Data.TheOpen as layer
use Rattle.aml_data.specs.declared.data.Data.TheVariants.{Int, Ones, Revision, Text, Package, Path as at_path}
use Rattle.aml_data.specs.Objects.{buffer_of, Buffer, counted_of, VarPackage}
use Rattle.aml_data.specs.declared.data.Data.TheViews.{outs-Int, outs-Ones, outs-Revision, outs-Text, outs-Buffer, outs-Package, outs-VarPackage, outs-Path}
use Rattle.aml_data.specs.declared.path.Path.{Path}
use Rattle.aml_data.specs.Segment.{joined}
use Rattle.aml_data.specs.Grammar.{IsAscii, HasPart}
use Rattle.aml_data.specs.Written.{written, written_layer, written_constant, written_name, sized, IsWritablePath, IsWritableLeaf, IsWritableLayer, IsWritableWithin, AreElements}

-- ---- the written form

pub written-layer : (v : Data) (l : Data-F Data) → out-Data v ≡ l → written v ≡ written_layer (map-Data Data (List ℕ) written l)
unfolding written
written-layer v l e = fold_out-Data (List ℕ) written_layer v ∙ ap (λ (x : Data-F Data). written_layer (map-Data Data (List ℕ) written x)) e

pub written-Int : (n : ℕ) → written (Int n) ≡ written_constant n
written-Int n = written-layer (Int n) (layer.Int n) (outs-Int n)

pub written-Ones : written Ones ≡ 255 ∷ []
written-Ones = written-layer Ones layer.Ones outs-Ones

pub written-Revision : written Revision ≡ 91 ∷ 48 ∷ []
written-Revision = written-layer Revision layer.Revision outs-Revision

pub written-Text : (t : List ℕ) → written (Text t) ≡ 13 ∷ t ++ 0 ∷ []
written-Text t = written-layer (Text t) (layer.Text t) (outs-Text t)

pub written-Buffer : (size : ℕ) (bytes : List ℕ) → written (Buffer size bytes) ≡ 17 ∷ sized (written_constant size ++ bytes)
written-Buffer size bytes = written-layer (Buffer size bytes) (layer.Buffer (buffer_of size bytes)) (outs-Buffer (buffer_of size bytes))

pub written-Package : (count : ℕ) (vs : List Data) → written (Package count vs) ≡ 18 ∷ sized (count ∷ joined (map written vs))
written-Package count vs = written-layer (Package count vs) (layer.Package count vs) (outs-Package count vs)

pub written-VarPackage : (count : ℕ) (vs : List Data) → written (VarPackage count vs) ≡ 19 ∷ sized (written_constant count ++ joined (map written vs))
written-VarPackage count vs = written-layer (VarPackage count vs) (layer.VarPackage (counted_of count vs)) (outs-VarPackage (counted_of count vs))

pub written-Path : (path : Path) → written (at_path path) ≡ written_name path
written-Path path = written-layer (at_path path) (layer.Path path) (outs-Path path)

pub ruleset layers = (written-Int, written-Ones, written-Revision, written-Text, written-Buffer, written-Package, written-VarPackage, written-Path)

-- ---- what can be written

-- what a layer says of the nesting that is left
abbrev pub IsWritableLeft : ℕ → Data-F Data → Type 0
IsWritableLeft zero l = IsWritableLeaf l
IsWritableLeft (suc depth) l = IsWritableLayer (IsWritableWithin depth) l

pub within-layer : (depth : ℕ) (v : Data) (l : Data-F Data) → out-Data v ≡ l → IsWritableWithin depth v ≡ IsWritableLeft depth l
unfolding IsWritableWithin
within-layer zero v l e = ap IsWritableLeaf e
within-layer (suc depth) v l e = ap (IsWritableLayer (IsWritableWithin depth)) e

pub within-Int : (depth n : ℕ) → IsWritableWithin depth (Int n) ≡ (n < 2 ^ 64)
within-Int zero n = within-layer zero (Int n) (layer.Int n) (outs-Int n)
within-Int (suc depth) n = within-layer (suc depth) (Int n) (layer.Int n) (outs-Int n)

pub within-Ones : (depth : ℕ) → IsWritableWithin depth Ones ≡ Unit {0}
within-Ones zero = within-layer zero Ones layer.Ones outs-Ones
within-Ones (suc depth) = within-layer (suc depth) Ones layer.Ones outs-Ones

pub within-Revision : (depth : ℕ) → IsWritableWithin depth Revision ≡ Unit {0}
within-Revision zero = within-layer zero Revision layer.Revision outs-Revision
within-Revision (suc depth) = within-layer (suc depth) Revision layer.Revision outs-Revision

pub within-Text : (depth : ℕ) (t : List ℕ) → IsWritableWithin depth (Text t) ≡ AllByRecursion IsAscii t
within-Text zero t = within-layer zero (Text t) (layer.Text t) (outs-Text t)
within-Text (suc depth) t = within-layer (suc depth) (Text t) (layer.Text t) (outs-Text t)

pub within-Buffer : (depth size : ℕ) (bytes : List ℕ) → IsWritableWithin depth (Buffer size bytes) ≡ (size < 2 ^ 64)
within-Buffer zero size bytes = within-layer zero (Buffer size bytes) (layer.Buffer (buffer_of size bytes)) (outs-Buffer (buffer_of size bytes))
within-Buffer (suc depth) size bytes = within-layer (suc depth) (Buffer size bytes) (layer.Buffer (buffer_of size bytes)) (outs-Buffer (buffer_of size bytes))

pub within-Path : (depth : ℕ) (path : Path) → IsWritableWithin depth (at_path path) ≡ (IsWritablePath path × HasPart path)
within-Path zero path = within-layer zero (at_path path) (layer.Path path) (outs-Path path)
within-Path (suc depth) path = within-layer (suc depth) (at_path path) (layer.Path path) (outs-Path path)

pub within-Package : (depth count : ℕ) (vs : List Data) → IsWritableWithin (suc depth) (Package count vs) ≡ ((count < 2 ^ 8) × AreElements (IsWritableWithin depth) count vs)
within-Package depth count vs = within-layer (suc depth) (Package count vs) (layer.Package count vs) (outs-Package count vs)

pub within-VarPackage : (depth count : ℕ) (vs : List Data) → IsWritableWithin (suc depth) (VarPackage count vs) ≡ ((count < 2 ^ 64) × AreElements (IsWritableWithin depth) count vs)
within-VarPackage depth count vs = within-layer (suc depth) (VarPackage count vs) (layer.VarPackage (counted_of count vs)) (outs-VarPackage (counted_of count vs))

-- Elements of a package in which so much nesting is left for the package itself.
pub record AreNested (depth limit count : ℕ) (vs : List Data) : Type 0 where
  pub some : 0 < depth
  pub counted : count < limit
  pub few : length vs ≤ count
  pub inner : AllByRecursion (IsWritableWithin (depth - 1)) vs

nested : (depth limit count : ℕ) (vs : List Data) → ((count < limit) × AreElements (IsWritableWithin depth) count vs) → AreNested (suc depth) limit count vs
nested depth limit count vs h =
    let same : suc depth - 1 ≡ depth = omega arith in
    record { some = omega arith; counted = h.0; few = h.1.0; inner = subst (λ d. AllByRecursion (IsWritableWithin d) vs) (sym same) h.1.1 }

unnested : (depth limit count : ℕ) (vs : List Data) → AreNested (suc depth) limit count vs → (count < limit) × AreElements (IsWritableWithin depth) count vs
unnested depth limit count vs h =
    let same : suc depth - 1 ≡ depth = omega arith in
    (h.counted, (h.few, subst (λ d. AllByRecursion (IsWritableWithin d) vs) same h.inner))

pub nested-Package : (depth count : ℕ) (vs : List Data) → IsWritableWithin depth (Package count vs) → AreNested depth (2 ^ 8) count vs
nested-Package zero count vs h = absurd (subst (λ (X : Type 0). X) (within-layer zero (Package count vs) (layer.Package count vs) (outs-Package count vs)) h)
nested-Package (suc depth) count vs h = nested depth (2 ^ 8) count vs (subst (λ (X : Type 0). X) (within-Package depth count vs) h)

pub nested-VarPackage : (depth count : ℕ) (vs : List Data) → IsWritableWithin depth (VarPackage count vs) → AreNested depth (2 ^ 64) count vs
nested-VarPackage zero count vs h = absurd (subst (λ (X : Type 0). X) (within-layer zero (VarPackage count vs) (layer.VarPackage (counted_of count vs)) (outs-VarPackage (counted_of count vs))) h)
nested-VarPackage (suc depth) count vs h = nested depth (2 ^ 64) count vs (subst (λ (X : Type 0). X) (within-VarPackage depth count vs) h)

pub Package-nested : (depth count : ℕ) (vs : List Data) → AreNested depth (2 ^ 8) count vs → IsWritableWithin depth (Package count vs)
Package-nested zero count vs h = absurd (let some = h.some in omega arith)
Package-nested (suc depth) count vs h = subst (λ (X : Type 0). X) (sym (within-Package depth count vs)) (unnested depth (2 ^ 8) count vs h)

pub VarPackage-nested : (depth count : ℕ) (vs : List Data) → AreNested depth (2 ^ 64) count vs → IsWritableWithin depth (VarPackage count vs)
VarPackage-nested zero count vs h = absurd (let some = h.some in omega arith)
VarPackage-nested (suc depth) count vs h = subst (λ (X : Type 0). X) (sym (within-VarPackage depth count vs)) (unnested depth (2 ^ 64) count vs h)

-- ---- the same of a value that is such an object

pub package_parts : (depth count : ℕ) (vs : List Data) (v : Data) → v ≡ Package count vs → IsWritableWithin depth v → AreNested depth (2 ^ 8) count vs
package_parts depth count vs v e h = nested-Package depth count vs (subst (λ (w : Data). IsWritableWithin depth w) e h)

pub var_package_parts : (depth count : ℕ) (vs : List Data) (v : Data) → v ≡ VarPackage count vs → IsWritableWithin depth v → AreNested depth (2 ^ 64) count vs
var_package_parts depth count vs v e h = nested-VarPackage depth count vs (subst (λ (w : Data). IsWritableWithin depth w) e h)

pub path_parts : (depth : ℕ) (path : Path) (v : Data) → v ≡ at_path path → IsWritableWithin depth v → IsWritablePath path × HasPart path
path_parts depth path v e h = subst (λ (X : Type 0). X) (within-Path depth path) (subst (λ (w : Data). IsWritableWithin depth w) e h)

-- ---- a test of whether an object can be written

-- elements that pass a test are those of a package that can be written, and the other way round
pub package_passes : (depth count : ℕ) (vs : List Data) (v : Data) (answer : Bool) → v ≡ Package count vs → count < 2 ^ 8
    → IsTrue answer ↔ ((0 < depth) × (count < 2 ^ 64) × AreElements (IsWritableWithin (depth - 1)) count vs) → IsTrue answer ↔ IsWritableWithin depth v
package_passes depth count vs v answer e lt same =
    rw e (
      λ passed. let h = same.0 passed in Package-nested depth count vs (record { some = h.0; counted = lt; few = h.2.0; inner = h.2.1 }),
      λ within. let h = nested-Package depth count vs within in same.1 (h.some, omega arith, (h.few, h.inner)),
    )

pub var_package_passes : (depth count : ℕ) (vs : List Data) (v : Data) (answer : Bool) → v ≡ VarPackage count vs
    → IsTrue answer ↔ ((0 < depth) × (count < 2 ^ 64) × AreElements (IsWritableWithin (depth - 1)) count vs) → IsTrue answer ↔ IsWritableWithin depth v
var_package_passes depth count vs v answer e same =
    rw e (
      λ passed. let h = same.0 passed in VarPackage-nested depth count vs (record { some = h.0; counted = h.1; few = h.2.0; inner = h.2.1 }),
      λ within. let h = nested-VarPackage depth count vs within in same.1 (h.some, h.counted, (h.few, h.inner)),
    )
