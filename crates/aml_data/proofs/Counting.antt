-- Whatever is in an object of few bytes has elements that 32 bits can count: each of them has a byte.
use Rattle.std.proofs.Common.{◌≡◌, ◌-◌, ◌<◌, ◌≤◌, ◌^◌, ℕ, List, [], ◌∷◌, map, length, sym, subst, arith, length-append, inl, inr}
use Rattle.std.proofs.lemmas.Bool.{cases_lt}
use Rattle.std.specs.List.{AllByRecursion, Contains}
use Rattle.aml_data.specs.declared.data.Data.{Data, Data-F, out-Data}
use Rattle.aml_data.specs.declared.data.Data.TheOpen as layer
use Rattle.aml_data.specs.declared.data.Data.TheVariants.{Int, Ones, Revision, Text, Package, Path as at_path}
use Rattle.aml_data.specs.declared.data.Data.TheViews.{outs-Int, outs-Ones, outs-Revision, outs-Text, outs-Buffer, outs-Package, outs-VarPackage, outs-Path}
use Rattle.aml_data.specs.Objects.{buffer_of, counted_of, VarPackage}
use Rattle.aml_data.specs.Segment.{joined}
use Rattle.aml_data.specs.Grammar.{Spells}
use Rattle.aml_data.specs.Countable.{LayerIsCountable, IsCountable, IsIn, is_itself, is_in_element, is_in_counted}
use Rattle.aml_data.specs.Written.{written, IsWritableWithin, IsWritable}
use Rattle.aml_data.proofs.Packages.{begins_object}
use Rattle.aml_data.proofs.WrittenLayers.{nested-Package, nested-VarPackage}
use Rattle.aml_data.proofs.WrittenLengths.{all_at, one_le_all, length-Package, length-VarPackage}
use Rattle.aml_data.proofs.ShortestObjects.{object_spelled, object_writable, object_least}
use Rattle.aml_data.proofs.Variants.{by_variant}

-- ---- elements

-- what holds of all holds of one that is among them
one_of : (P : Data → Type 0) (vs : List Data) (v : Data) → AllByRecursion P vs → Contains vs v → P v
one_of P vs v all among = all_at P vs among.0 v among.1 (sym among.2) all

-- what is written of one is no longer than what is written of all
one_le : (vs : List Data) (v : Data) → Contains vs v → length (written v) ≤ length (joined (map written vs))
one_le vs v among = one_le_all written vs among.0 v among.1 (sym among.2)

-- what can be written has a byte
has_byte : (n : ℕ) (v : Data) → IsWritableWithin n v → 0 < length (written v)
has_byte n v h =
    elim (cases_lt (length (written v)) (2 ^ 28)) [
      | inl lt ↦ begins_object n v (written v) (object_spelled n v h lt)
      | inr le ↦ omega arith
    ]

few_elements : (n : ℕ) (vs : List Data) → AllByRecursion (IsWritableWithin n) vs → length vs ≤ length (joined (map written vs))
few_elements n [] all = omega arith
few_elements n (v ∷ vs) all =
    let first = has_byte n v all.0 in
    let rest = few_elements n vs all.1 in
    omega (arith, length-append (written v) (joined (map written vs)))

-- ---- one object

countable_by : (v : Data) (l : Data-F Data) → out-Data v ≡ l → LayerIsCountable l → IsCountable v
countable_by v l e h = subst (λ (x : Data-F Data). LayerIsCountable x) (sym e) h

abbrev Counts : ℕ → Data → Type 0
Counts n v = IsWritableWithin n v → length (written v) < 2 ^ 32 → IsCountable v

counted : (n : ℕ) (v : Data) → Counts n v
counted n = by_variant (Counts n) (record {
  int = λ k h short. countable_by (Int k) (layer.Int k) (outs-Int k) tt;
  ones = λ h short. countable_by Ones layer.Ones outs-Ones tt;
  revision = λ h short. countable_by Revision layer.Revision outs-Revision tt;
  text = λ t h short. countable_by (Text t) (layer.Text t) (outs-Text t) tt;
  buffer = λ size bytes h short. countable_by _ (layer.Buffer (buffer_of size bytes)) (outs-Buffer (buffer_of size bytes)) tt;
  pack = λ count vs h short.
      let p = nested-Package n count vs h in
      let few = p.few in
      let fits = p.counted in
      countable_by (Package count vs) (layer.Package count vs) (outs-Package count vs) (omega arith);
  var_pack = λ count vs h short.
      let p = nested-VarPackage n count vs h in
      let few = few_elements (n - 1) vs p.inner in
      let whole = length-VarPackage count vs in
      countable_by (VarPackage count vs) (layer.VarPackage (counted_of count vs)) (outs-VarPackage (counted_of count vs)) (omega arith);
  path = λ name h short. countable_by (at_path name) (layer.Path name) (outs-Path name) tt;
})

-- ---- what is in an object

in_counted : (part v : Data) → IsIn part v → (n : ℕ) → IsWritableWithin n v → length (written v) < 2 ^ 32 → IsCountable part
in_counted part v is_itself n h short = counted n part h short
in_counted part v (is_in_element count vs element among inside) n h short =
    let p = nested-Package n count vs h in
    let whole = length-Package count vs in
    let shorter = one_le vs element among in
    in_counted part element inside (n - 1) (one_of (IsWritableWithin (n - 1)) vs element p.inner among) (omega arith)
in_counted part v (is_in_counted count vs element among inside) n h short =
    let p = nested-VarPackage n count vs h in
    let whole = length-VarPackage count vs in
    let shorter = one_le vs element among in
    in_counted part element inside (n - 1) (one_of (IsWritableWithin (n - 1)) vs element p.inner among) (omega arith)

pub writable_counts : (v part : Data) → IsWritable v → IsIn part v → IsCountable part
writable_counts v part h inside = let short = h.short in in_counted part v inside 32 h.within (omega arith)

pub spelled_counts : (v part : Data) (b : List ℕ) → Spells v b → length b < 2 ^ 32 → IsIn part v → IsCountable part
spelled_counts v part b h short inside =
    let least = object_least 32 v b h in in_counted part v inside 32 (object_writable 32 v b h) (omega arith)
