-- The nesting of an object, and the nesting within which it is spelled or can be written.
use Rattle.std.proofs.Common.{◌≡◌, ◌-◌, ◌<◌, ◌≤◌, ◌↔◌, ℕ, zero, suc, List, [], ◌∷◌, map, ap, subst, ◌∙◌, arith}
use Rattle.std.specs.List.{AllByRecursion}
use Rattle.aml_data.specs.declared.data.Data.{Data, Data-F, map-Data, out-Data, fold_out-Data}
use Rattle.aml_data.specs.declared.data.Data.TheOpen as layer
use Rattle.aml_data.specs.declared.data.Data.TheVariants.{Int, Ones, Revision, Text, Package, Path as at_path}
use Rattle.aml_data.specs.declared.data.Data.TheViews.{outs-Int, outs-Ones, outs-Revision, outs-Text, outs-Buffer, outs-Package, outs-VarPackage, outs-Path}
use Rattle.aml_data.specs.declared.path.Path.{Path}
use Rattle.aml_data.specs.Objects.{buffer_of, Buffer, counted_of, VarPackage}
use Rattle.aml_data.specs.Grammar.{SpellsWithin, spells_integer, spells_ones, spells_revision, spells_text, spells_buffer, spells_path, spells_package, spells_var_package}
use Rattle.aml_data.specs.Grammar.{AllSpelled, spells_none, spells_more}
use Rattle.aml_data.specs.Nesting.{greatest, layer_nesting, nesting}
use Rattle.aml_data.specs.Written.{IsWritableWithin}
use Rattle.aml_data.proofs.WrittenLayers.{within-Int, within-Ones, within-Revision, within-Text, within-Buffer, within-Path, nested-Package, nested-VarPackage, Package-nested, VarPackage-nested}
use Rattle.aml_data.proofs.Variants.{by_variant}

-- ---- the nesting of each variant

nesting-layer : (v : Data) (l : Data-F Data) → out-Data v ≡ l → nesting v ≡ layer_nesting (map-Data Data ℕ nesting l)
unfolding nesting
nesting-layer v l e = fold_out-Data ℕ layer_nesting v ∙ ap (λ (x : Data-F Data). layer_nesting (map-Data Data ℕ nesting x)) e

nesting-Int : (n : ℕ) → nesting (Int n) ≡ 0
nesting-Int n = nesting-layer (Int n) (layer.Int n) (outs-Int n)

nesting-Ones : nesting Ones ≡ 0
nesting-Ones = nesting-layer Ones layer.Ones outs-Ones

nesting-Revision : nesting Revision ≡ 0
nesting-Revision = nesting-layer Revision layer.Revision outs-Revision

nesting-Text : (t : List ℕ) → nesting (Text t) ≡ 0
nesting-Text t = nesting-layer (Text t) (layer.Text t) (outs-Text t)

nesting-Buffer : (size : ℕ) (bytes : List ℕ) → nesting (Buffer size bytes) ≡ 0
nesting-Buffer size bytes = nesting-layer (Buffer size bytes) (layer.Buffer (buffer_of size bytes)) (outs-Buffer (buffer_of size bytes))

nesting-Path : (path : Path) → nesting (at_path path) ≡ 0
nesting-Path path = nesting-layer (at_path path) (layer.Path path) (outs-Path path)

nesting-Package : (count : ℕ) (vs : List Data) → nesting (Package count vs) ≡ suc (greatest (map nesting vs))
nesting-Package count vs = nesting-layer (Package count vs) (layer.Package count vs) (outs-Package count vs)

nesting-VarPackage : (count : ℕ) (vs : List Data) → nesting (VarPackage count vs) ≡ suc (greatest (map nesting vs))
nesting-VarPackage count vs = nesting-layer (VarPackage count vs) (layer.VarPackage (counted_of count vs)) (outs-VarPackage (counted_of count vs))

-- ---- what is spelled within a nesting has no greater one

mutual
  spelled_nesting : (depth : ℕ) (v : Data) (b : List ℕ) → SpellsWithin depth v b → nesting v ≤ depth
  spelled_nesting depth v b (spells_integer {n = n} h) = rw (nesting-Int n) (omega arith)
  spelled_nesting depth v b spells_ones = rw nesting-Ones (omega arith)
  spelled_nesting depth v b spells_revision = rw nesting-Revision (omega arith)
  spelled_nesting depth v b (spells_text t all) = rw (nesting-Text t) (omega arith)
  spelled_nesting depth v b (spells_buffer {size = size} {bytes = bytes} h) = rw (nesting-Buffer size bytes) (omega arith)
  spelled_nesting depth v b (spells_path {name = path} name part) = rw (nesting-Path path) (omega arith)
  spelled_nesting (suc depth) v b (spells_package {count = count} {elements = vs} {body = body} held lt all few) =
      let most = elements_nesting depth vs body all in rw (nesting-Package count vs) (omega arith)
  spelled_nesting (suc depth) v b (spells_var_package {count = count} {elements = vs} {body = body} held h all few) =
      let most = elements_nesting depth vs body all in rw (nesting-VarPackage count vs) (omega arith)

  elements_nesting : (depth : ℕ) (vs : List Data) (b : List ℕ) → AllSpelled depth vs b → greatest (map nesting vs) ≤ depth
  elements_nesting depth vs b spells_none = omega arith
  elements_nesting depth vs b (spells_more {v = v} {vs = ws} {b = c} {bs = cs} one others) =
      let first = spelled_nesting depth v c one in
      let rest = elements_nesting depth ws cs others in
      omega arith

-- ---- what is spelled within one nesting is spelled within each that is no less than its own

mutual
  spelled_anew : (m n : ℕ) (v : Data) (b : List ℕ) → SpellsWithin m v b → nesting v ≤ n → SpellsWithin n v b
  spelled_anew m n v b (spells_integer h) le = spells_integer h
  spelled_anew m n v b spells_ones le = spells_ones
  spelled_anew m n v b spells_revision le = spells_revision
  spelled_anew m n v b (spells_text t all) le = spells_text t all
  spelled_anew m n v b (spells_buffer h) le = spells_buffer h
  spelled_anew m n v b (spells_path name part) le = spells_path name part
  spelled_anew (suc m) zero v b (spells_package {count = count} {elements = vs} held lt all few) le =
      absurd (let above = rw (nesting-Package count vs) at le in omega arith)
  spelled_anew (suc m) (suc n) v b (spells_package {count = count} {elements = vs} {body = body} held lt all few) le =
      let above = rw (nesting-Package count vs) at le in spells_package held lt (elements_anew m n vs body all (omega arith)) few
  spelled_anew (suc m) zero v b (spells_var_package {count = count} {elements = vs} held h all few) le =
      absurd (let above = rw (nesting-VarPackage count vs) at le in omega arith)
  spelled_anew (suc m) (suc n) v b (spells_var_package {count = count} {elements = vs} {body = body} held h all few) le =
      let above = rw (nesting-VarPackage count vs) at le in spells_var_package held h (elements_anew m n vs body all (omega arith)) few

  elements_anew : (m n : ℕ) (vs : List Data) (b : List ℕ) → AllSpelled m vs b → greatest (map nesting vs) ≤ n → AllSpelled n vs b
  elements_anew m n vs b spells_none le = spells_none
  elements_anew m n vs b (spells_more {v = v} {vs = ws} {b = c} {bs = cs} one others) le =
      spells_more (spelled_anew m n v c one (omega arith)) (elements_anew m n ws cs others (omega arith))

pub spelled_within : (n : ℕ) (v : Data) (b : List ℕ) → SpellsWithin n v b ↔ (((m : ℕ) × SpellsWithin m v b) × (nesting v ≤ n))
spelled_within n v b = (λ h. ((n, h), spelled_nesting n v b h), λ h. spelled_anew h.0.0 n v b h.0.1 h.1)

-- ---- the same of what can be written

abbrev Nests : ℕ → Data → Type 0
Nests n v = IsWritableWithin n v → nesting v ≤ n

all_nest : (n : ℕ) → ((v : Data) → Nests n v) → (vs : List Data) → AllByRecursion (IsWritableWithin n) vs → greatest (map nesting vs) ≤ n
all_nest n inner [] all = omega arith
all_nest n inner (v ∷ vs) all =
    let first = inner v all.0 in
    let rest = all_nest n inner vs all.1 in
    omega arith

variant_nests : (n : ℕ) → (0 < n → (v : Data) → Nests (n - 1) v) → (v : Data) → Nests n v
variant_nests n inner = by_variant (Nests n) (record {
  int = λ k h. rw (nesting-Int k) (omega arith);
  ones = λ h. rw nesting-Ones (omega arith);
  revision = λ h. rw nesting-Revision (omega arith);
  text = λ t h. rw (nesting-Text t) (omega arith);
  buffer = λ size bytes h. rw (nesting-Buffer size bytes) (omega arith);
  pack = λ count vs h.
      let p = nested-Package n count vs h in
      let some = p.some in
      let most = all_nest (n - 1) (inner p.some) vs p.inner in
      rw (nesting-Package count vs) (omega arith);
  var_pack = λ count vs h.
      let p = nested-VarPackage n count vs h in
      let some = p.some in
      let most = all_nest (n - 1) (inner p.some) vs p.inner in
      rw (nesting-VarPackage count vs) (omega arith);
  path = λ name h. rw (nesting-Path name) (omega arith);
})

below_suc : (P : ℕ → Type 0) (n : ℕ) → P n → P (suc n - 1)
below_suc P n h = let same : n ≡ suc n - 1 = omega arith in subst P same h

writable_nesting : (n : ℕ) (v : Data) → Nests n v
writable_nesting zero = variant_nests zero (λ some. absurd (omega arith))
writable_nesting (suc n) = variant_nests (suc n) (λ some. below_suc (λ k. (v : Data) → Nests k v) n (writable_nesting n))

abbrev WritesAnew : ℕ → Data → Type 0
WritesAnew m v = (n : ℕ) → IsWritableWithin m v → nesting v ≤ n → IsWritableWithin n v

all_anew : (m n : ℕ) → ((v : Data) → WritesAnew m v) → (vs : List Data) → AllByRecursion (IsWritableWithin m) vs → greatest (map nesting vs) ≤ n → AllByRecursion (IsWritableWithin n) vs
all_anew m n inner [] all le = tt
all_anew m n inner (v ∷ vs) all le = (inner v n all.0 (omega arith), all_anew m n inner vs all.1 (omega arith))

variant_anew : (m : ℕ) → (0 < m → (v : Data) → WritesAnew (m - 1) v) → (v : Data) → WritesAnew m v
variant_anew m inner = by_variant (WritesAnew m) (record {
  int = λ k n h le. rw (within-Int n k) (rw (within-Int m k) at h);
  ones = λ n h le. rw (within-Ones n) tt;
  revision = λ n h le. rw (within-Revision n) tt;
  text = λ t n h le. rw (within-Text n t) (rw (within-Text m t) at h);
  buffer = λ size bytes n h le. rw (within-Buffer n size bytes) (rw (within-Buffer m size bytes) at h);
  pack = λ count vs n h le.
      let p = nested-Package m count vs h in
      let above = rw (nesting-Package count vs) at le in
      Package-nested n count vs
      (record { some = omega arith; counted = p.counted; few = p.few; inner = all_anew (m - 1) (n - 1) (inner p.some) vs p.inner (omega arith) });
  var_pack = λ count vs n h le.
      let p = nested-VarPackage m count vs h in
      let above = rw (nesting-VarPackage count vs) at le in
      VarPackage-nested n count vs
      (record { some = omega arith; counted = p.counted; few = p.few; inner = all_anew (m - 1) (n - 1) (inner p.some) vs p.inner (omega arith) });
  path = λ name n h le. rw (within-Path n name) (rw (within-Path m name) at h);
})

writes_anew : (m : ℕ) (v : Data) → WritesAnew m v
writes_anew zero = variant_anew zero (λ some. absurd (omega arith))
writes_anew (suc m) = variant_anew (suc m) (λ some. below_suc (λ k. (v : Data) → WritesAnew k v) m (writes_anew m))

pub writable_within : (n : ℕ) (v : Data) → IsWritableWithin n v ↔ (((m : ℕ) × IsWritableWithin m v) × (nesting v ≤ n))
writable_within n v = (λ h. ((n, h), writable_nesting n v h), λ h. writes_anew h.0.0 v n h.0.1 h.1)
