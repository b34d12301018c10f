-- Data objects: what is written spells the object, no spelling is shorter, and what is spelled can be written.
use Rattle.std.proofs.Common.{◌≡◌, ◌+◌, ◌-◌, ◌<◌, ◌≤◌, ◌^◌, ℕ, zero, suc, List, [], ◌∷◌, ◌++◌, map, length, refl, sym, ap, subst, ◌∙◌, arith, length-append}
use Rattle.std.specs.List.{AllByRecursion}
use Rattle.aml_data.specs.declared.data.Data.{Data, Data-F, out-Data, roll-Data, roll-out-Data}
use Rattle.aml_data.specs.declared.data.Data.TheOpen as layer
use Rattle.aml_data.specs.declared.data.Data.TheVariants.{Int, Ones, Revision, Text, Package, Path as at_path}
use Rattle.aml_data.specs.Objects.{Buffer, VarPackage}
use Rattle.aml_data.specs.declared.data.Data.TheViews.{rolls-Int, rolls-Ones, rolls-Revision, rolls-Text, rolls-Buffer, rolls-Package, rolls-VarPackage, rolls-Path}
use Rattle.aml_data.specs.declared.path.Path.{Path}
use Rattle.aml_data.specs.Segment.{joined}
use Rattle.aml_data.specs.Layouts.{Octet, Rest, Both, Holds, holds, Sized}
use Rattle.aml_data.specs.Grammar.{HasPart, Const, Len, SpellsWithin, spells_integer, spells_ones, spells_revision, spells_text, spells_buffer, spells_path, spells_package, spells_var_package}
use Rattle.aml_data.specs.Grammar.{AllSpelled, spells_none, spells_more, Spells}
use Rattle.aml_data.specs.Written.{written, written_constant, written_length, written_name, sized, IsWritablePath, IsWritableWithin, IsWritable}
use Rattle.aml_data.proofs.WrittenLayers.{within-Int, within-Ones, within-Revision, within-Text, within-Buffer, within-Path, nested-Package, nested-VarPackage, Package-nested, VarPackage-nested}
use Rattle.aml_data.proofs.WrittenLayers.{written-Int, written-Ones, written-Revision, written-Text, written-Buffer, written-Package, written-VarPackage, written-Path}
use Rattle.aml_data.proofs.WrittenLengths.{content_fits, length-Buffer, length-Package, length-VarPackage}
use Rattle.aml_data.proofs.ShortestParts.{constant_spelled, constant_least, constant_fits, length_spelled, length_least, length_grows}
use Rattle.aml_data.proofs.ShortestNames.{name_spelled, name_least, name_writable}

-- ---- what is spelled can be written

mutual
  pub object_writable : (depth : ℕ) (v : Data) (b : List ℕ) → SpellsWithin depth v b → IsWritableWithin depth v
  object_writable depth v b (spells_integer {n = n} {c = c} h) = rw (within-Int depth n) (constant_fits n c h)
  object_writable depth v b spells_ones = rw (within-Ones depth) tt
  object_writable depth v b spells_revision = rw (within-Revision depth) tt
  object_writable depth v b (spells_text t all) = rw (within-Text depth t) all
  object_writable depth v b (spells_buffer {size = size} {bytes = bytes} h) = rw (within-Buffer depth size bytes) (let parts = h.spelled in constant_fits size parts.front parts.one)
  object_writable depth v b (spells_path {name = path} {b = bs} name part) = rw (within-Path depth path) (name_writable path bs name, part)
  object_writable (suc depth) v b (spells_package {count = count} {elements = vs} {body = body} held octet all few) =
      let within = elements_writable depth vs body all in
      let same : suc depth - 1 ≡ depth = omega arith in
      Package-nested (suc depth) count vs (record { some = omega arith; counted = octet.fits; few = few; inner = subst (λ d. AllByRecursion (IsWritableWithin d) vs) (sym same) within })
  object_writable (suc depth) v b (spells_var_package {count = count} {elements = vs} {c = c} {body = body} held h all few) =
      let within = elements_writable depth vs body all in
      let same : suc depth - 1 ≡ depth = omega arith in
      VarPackage-nested (suc depth) count vs
      (record { some = omega arith; counted = constant_fits count c h; few = few; inner = subst (λ d. AllByRecursion (IsWritableWithin d) vs) (sym same) within })

  pub elements_writable : (depth : ℕ) (vs : List Data) (b : List ℕ) → AllSpelled depth vs b → AllByRecursion (IsWritableWithin depth) vs
  elements_writable depth vs b spells_none = tt
  elements_writable depth vs b (spells_more {v = v} {vs = ws} {b = c} {bs = cs} one others) = (object_writable depth v c one, elements_writable depth ws cs others)

-- ---- what is written spells the object

-- so much nesting allows what is written of this object
abbrev IsSpelled : ℕ → Data → Type 0
IsSpelled depth v = IsWritableWithin depth v → length (written v) < 2 ^ 28 → SpellsWithin depth v (written v)

-- what is written of an object is a spelling of it
as_written : (depth : ℕ) (v : Data) (b : List ℕ) → written v ≡ b → SpellsWithin depth v b → SpellsWithin depth v (written v)
as_written depth v b e h = subst (λ (c : List ℕ). SpellsWithin depth v c) (sym e) h

-- contents of two parts behind their PkgLength
two_parts_held : (middle rest : List ℕ) (n : ℕ) → 1 + length (written_length n) + n < 2 ^ 28 → length middle + length rest ≡ n → Holds (middle ++ rest) (sized (middle ++ rest))
two_parts_held middle rest n short e =
    let content : length (middle ++ rest) ≡ n = length-append middle rest ∙ e in
    let fits : 1 + length (written_length (length (middle ++ rest))) + length (middle ++ rest) < 2 ^ 28 = rw content short in
    holds (written_length (length (middle ++ rest))) (middle ++ rest) (length_spelled (length (middle ++ rest)) (content_fits (length (middle ++ rest)) fits))

buffer_spelled : (depth size : ℕ) (bytes : List ℕ) → IsSpelled depth (Buffer size bytes)
buffer_spelled depth size bytes within short =
    let c = written_constant size in
    let fits : size < 2 ^ 64 = rw (within-Buffer depth size bytes) at within in
    let n = length c + length bytes in
    let held = two_parts_held c bytes n (rw (length-Buffer size n bytes refl) at short) refl in
    let parts : Sized (Both Const Rest) (size, bytes) (sized (c ++ bytes)) =
    record { content = c ++ bytes; held = held; spelled = record { front = c; back = bytes; parts = refl; one = constant_spelled size fits; other = refl } } in
    as_written depth (Buffer size bytes) (17 ∷ sized (c ++ bytes)) (written-Buffer size bytes) (spells_buffer parts)

-- the elements of a package, one after the other
elements_spelled : (depth : ℕ) → ((v : Data) → IsSpelled depth v) → (vs : List Data) → AllByRecursion (IsWritableWithin depth) vs
    → length (joined (map written vs)) < 2 ^ 28 → AllSpelled depth vs (joined (map written vs))
elements_spelled depth inner [] all short = spells_none
elements_spelled depth inner (v ∷ vs) all short =
    let one : length (written v) < 2 ^ 28 = omega (arith, length-append (written v) (joined (map written vs))) in
    let others : length (joined (map written vs)) < 2 ^ 28 = omega (arith, length-append (written v) (joined (map written vs))) in
    spells_more (inner v all.0 one) (elements_spelled depth inner vs all.1 others)

package_spelled : (depth : ℕ) → ((v : Data) → IsSpelled depth v) → (count : ℕ) (vs : List Data) → IsSpelled (suc depth) (Package count vs)
package_spelled depth inner count vs within short =
    let h = nested-Package (suc depth) count vs within in
    let body = joined (map written vs) in
    let same : suc depth - 1 ≡ depth = omega arith in
    let all = subst (λ d. AllByRecursion (IsWritableWithin d) vs) same h.inner in
    let whole = length-Package count vs in
    let held = two_parts_held (count ∷ []) body (1 + length body) (rw whole at short) refl in
    as_written (suc depth) (Package count vs) (18 ∷ sized (count ∷ body)) (written-Package count vs)
    (spells_package held (record { is = refl; fits = h.counted }) (elements_spelled depth inner vs all (omega arith)) h.few)

var_package_spelled : (depth : ℕ) → ((v : Data) → IsSpelled depth v) → (count : ℕ) (vs : List Data) → IsSpelled (suc depth) (VarPackage count vs)
var_package_spelled depth inner count vs within short =
    let h = nested-VarPackage (suc depth) count vs within in
    let c = written_constant count in
    let body = joined (map written vs) in
    let same : suc depth - 1 ≡ depth = omega arith in
    let all = subst (λ d. AllByRecursion (IsWritableWithin d) vs) same h.inner in
    let whole = length-VarPackage count vs in
    let held = two_parts_held c body (length c + length body) (rw whole at short) refl in
    as_written (suc depth) (VarPackage count vs) (19 ∷ sized (c ++ body)) (written-VarPackage count vs)
    (spells_var_package held (constant_spelled count h.counted) (elements_spelled depth inner vs all (omega arith)) h.few)

int_spelled : (depth n : ℕ) → IsSpelled depth (Int n)
int_spelled depth n within short = as_written depth (Int n) (written_constant n) (written-Int n) (spells_integer (constant_spelled n (rw (within-Int depth n) at within)))

ones_spelled : (depth : ℕ) → IsSpelled depth Ones
ones_spelled depth within short = as_written depth Ones (255 ∷ []) written-Ones spells_ones

revision_spelled : (depth : ℕ) → IsSpelled depth Revision
revision_spelled depth within short = as_written depth Revision (91 ∷ 48 ∷ []) written-Revision spells_revision

text_spelled : (depth : ℕ) (t : List ℕ) → IsSpelled depth (Text t)
text_spelled depth t within short = as_written depth (Text t) (13 ∷ t ++ 0 ∷ []) (written-Text t) (spells_text t (rw (within-Text depth t) at within))

path_spelled : (depth : ℕ) (path : Path) → IsSpelled depth (at_path path)
path_spelled depth path within short =
    let h : IsWritablePath path × HasPart path = rw (within-Path depth path) at within in
    as_written depth (at_path path) (written_name path) (written-Path path) (spells_path (name_spelled path h.0) h.1)

-- what is spelled of an object is spelled of its layer
at_roll : (depth : ℕ) (l : Data-F Data) (v : Data) → roll-Data l ≡ v → IsSpelled depth v → IsSpelled depth (roll-Data l)
at_roll depth l v e h = subst (λ (w : Data). IsSpelled depth w) (sym e) h

-- an object by its layer, where no nesting is left
leaf_spelled : (l : Data-F Data) → IsSpelled zero (roll-Data l)
leaf_spelled (layer.Int n) = at_roll zero (layer.Int n) (Int n) (rolls-Int n) (int_spelled zero n)
leaf_spelled layer.Ones = at_roll zero layer.Ones Ones rolls-Ones (ones_spelled zero)
leaf_spelled layer.Revision = at_roll zero layer.Revision Revision rolls-Revision (revision_spelled zero)
leaf_spelled (layer.Text t) = at_roll zero (layer.Text t) (Text t) (rolls-Text t) (text_spelled zero t)
leaf_spelled (layer.Buffer b) = at_roll zero (layer.Buffer b) (Buffer b.size b.bytes) (rolls-Buffer b) (buffer_spelled zero b.size b.bytes)
leaf_spelled (layer.Package count vs) = at_roll zero (layer.Package count vs) (Package count vs) (rolls-Package count vs)
    (λ within short. absurd (let some = (nested-Package zero count vs within).some in omega arith))
leaf_spelled (layer.VarPackage c) = at_roll zero (layer.VarPackage c) (VarPackage c.count c.elements) (rolls-VarPackage c)
    (λ within short. absurd (let some = (nested-VarPackage zero c.count c.elements within).some in omega arith))
leaf_spelled (layer.Path path) = at_roll zero (layer.Path path) (at_path path) (rolls-Path path) (path_spelled zero path)

-- an object by its layer, whose elements are spelled
layer_spelled : (depth : ℕ) → ((v : Data) → IsSpelled depth v) → (l : Data-F Data) → IsSpelled (suc depth) (roll-Data l)
layer_spelled depth inner (layer.Int n) = at_roll (suc depth) (layer.Int n) (Int n) (rolls-Int n) (int_spelled (suc depth) n)
layer_spelled depth inner layer.Ones = at_roll (suc depth) layer.Ones Ones rolls-Ones (ones_spelled (suc depth))
layer_spelled depth inner layer.Revision = at_roll (suc depth) layer.Revision Revision rolls-Revision (revision_spelled (suc depth))
layer_spelled depth inner (layer.Text t) = at_roll (suc depth) (layer.Text t) (Text t) (rolls-Text t) (text_spelled (suc depth) t)
layer_spelled depth inner (layer.Buffer b) =
    at_roll (suc depth) (layer.Buffer b) (Buffer b.size b.bytes) (rolls-Buffer b) (buffer_spelled (suc depth) b.size b.bytes)
layer_spelled depth inner (layer.Package count vs) = at_roll (suc depth) (layer.Package count vs) (Package count vs) (rolls-Package count vs) (package_spelled depth inner count vs)
layer_spelled depth inner (layer.VarPackage c) =
    at_roll (suc depth) (layer.VarPackage c) (VarPackage c.count c.elements) (rolls-VarPackage c) (var_package_spelled depth inner c.count c.elements)
layer_spelled depth inner (layer.Path path) = at_roll (suc depth) (layer.Path path) (at_path path) (rolls-Path path) (path_spelled (suc depth) path)

pub object_spelled : (depth : ℕ) (v : Data) → IsSpelled depth v
object_spelled zero v = subst (λ (w : Data). IsSpelled zero w) (roll-out-Data v) (leaf_spelled (out-Data v))
object_spelled (suc depth) v = subst (λ (w : Data). IsSpelled (suc depth) w) (roll-out-Data v) (layer_spelled depth (object_spelled depth) (out-Data v))

-- ---- no spelling is shorter

-- contents that are no longer, behind their shortest length
sized_least : (n m : ℕ) (p : List ℕ) → n ≤ m → Len (length p + m) p → 1 + length (written_length n) + n ≤ 1 + length p + m
sized_least n m p le len =
    let grows = length_grows n m le in
    let least = length_least m p len in
    omega arith

-- contents that are no longer, behind their shortest length, are no longer with it
held_least : (n : ℕ) (content b : List ℕ) → n ≤ length content → Holds content b → 1 + length (written_length n) + n ≤ 1 + length b
held_least n content b le (holds p _ len) =
    let least = sized_least n (length content) p le len in
    omega (arith, length-append p content)

buffer_least : (size : ℕ) (bytes b : List ℕ) → Sized (Both Const Rest) (size, bytes) b → length (written (Buffer size bytes)) ≤ length (17 ∷ b)
buffer_least size bytes b h =
    let parts = h.spelled in
    let shorter = constant_least size parts.front parts.one in
    let all = ap (λ (t : List ℕ). length t) parts.parts in
    let rest = ap (λ (t : List ℕ). length t) parts.other in
    let n = length (written_constant size) + length bytes in
    let least = held_least n h.content b (omega (arith, length-append parts.front parts.back)) h.held in
    rw (length-Buffer size n bytes refl) (omega arith)

package_least : (count : ℕ) (vs : List Data) (c body b : List ℕ) → Holds (c ++ body) b → Octet count c → length (joined (map written vs)) ≤ length body
    → length (written (Package count vs)) ≤ length (18 ∷ b)
package_least count vs c body b held octet shorter =
    let n = 1 + length (joined (map written vs)) in
    let one = ap (λ (t : List ℕ). length t) octet.is in
    let least = held_least n (c ++ body) b (omega (arith, length-append c body)) held in
    rw (length-Package count vs) (omega arith)

var_package_least : (count : ℕ) (vs : List Data) (c body b : List ℕ) → Holds (c ++ body) b → Const count c → length (joined (map written vs)) ≤ length body
    → length (written (VarPackage count vs)) ≤ length (19 ∷ b)
var_package_least count vs c body b held h shorter =
    let n = length (written_constant count) + length (joined (map written vs)) in
    let head = constant_least count c h in
    let least = held_least n (c ++ body) b (omega (arith, length-append c body)) held in
    rw (length-VarPackage count vs) (omega arith)

mutual
  pub object_least : (depth : ℕ) (v : Data) (b : List ℕ) → SpellsWithin depth v b → length (written v) ≤ length b
  object_least depth v b (spells_integer {n = n} {c = c} h) = rw (written-Int n) (constant_least n c h)
  object_least depth v b spells_ones = rw written-Ones (omega arith)
  object_least depth v b spells_revision = rw written-Revision (omega arith)
  object_least depth v b (spells_text t all) = rw (written-Text t) (omega arith)
  object_least depth v b (spells_buffer {size = size} {bytes = bytes} {b = bs} h) = buffer_least size bytes bs h
  object_least depth v b (spells_path {name = path} {b = bs} name part) = rw (written-Path path) (name_least path bs name)
  object_least (suc depth) v b (spells_package {count = count} {elements = vs} {c = c} {body = body} {b = bs} held octet all few) =
      package_least count vs c body bs held octet (elements_least depth vs body all)
  object_least (suc depth) v b (spells_var_package {count = count} {elements = vs} {c = c} {body = body} {b = bs} held h all few) =
      var_package_least count vs c body bs held h (elements_least depth vs body all)

  elements_least : (depth : ℕ) (vs : List Data) (b : List ℕ) → AllSpelled depth vs b → length (joined (map written vs)) ≤ length b
  elements_least depth vs b spells_none = omega arith
  elements_least depth vs b (spells_more {v = v} {vs = ws} {b = c} {bs = cs} one others) =
      let first = object_least depth v c one in
      let rest = elements_least depth ws cs others in
      omega (arith, length-append (written v) (joined (map written ws)), length-append c cs)

-- what is spelled in few bytes can be written
pub short_writable : (v : Data) (b : List ℕ) → Spells v b → length b < 2 ^ 28 → IsWritable v
short_writable v b h short = record { within = object_writable 32 v b h; short = let least = object_least 32 v b h in omega arith }
