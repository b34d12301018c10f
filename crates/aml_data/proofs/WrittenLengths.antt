-- How many bytes the written forms have.
use Rattle.std.proofs.Common.{◌≡◌, ◌+◌, ◌*◌, ◌<◌, ◌≤◌, ◌^◌, ℕ, zero, suc, false, ltb, List, [], ◌∷◌, ◌++◌, map, min, take, get_or, length, refl, sym, ap, subst, ◌∙◌, arith, length-append, inl, inr}
use Rattle.std.proofs.lemmas.Bool.{cases_lt}
use Rattle.std.proofs.lemmas.Bool.Decides.{nat_tests}
use Rattle.std.specs.List.{AllByRecursion}
use Rattle.aml_data.specs.declared.data.Data.{Data}
use Rattle.aml_data.specs.declared.data.Data.TheVariants.{Text, Package}
use Rattle.aml_data.specs.declared.data.Data.TheVariants as variant
use Rattle.aml_data.specs.declared.data.Counted.{Counted}
use Rattle.aml_data.specs.Objects.{Buffer, VarPackage}
use Rattle.aml_data.specs.declared.path.Path.{Path}
use Rattle.aml_data.specs.Segment.{IsSegment, joined}
use Rattle.aml_data.specs.Written.{written, written_prefix, written_segments, segments_lead, written_name, written_length, written_constant, sized}
use Rattle.aml_data.proofs.Appending.{joined_map-take-suc}
use Rattle.aml_data.proofs.WrittenLayers.{layers, written-Int, written-Buffer, written-Package, written-VarPackage, written-Text}

segment_of_four : (s : List ℕ) → IsSegment s → length s ≡ 4
segment_of_four (a ∷ b ∷ c ∷ d ∷ []) h = refl
segment_of_four [] h = absurd h
segment_of_four (a ∷ []) h = absurd h
segment_of_four (a ∷ b ∷ []) h = absurd h
segment_of_four (a ∷ b ∷ c ∷ []) h = absurd h
segment_of_four (a ∷ b ∷ c ∷ d ∷ e ∷ f) h = absurd h

pub length-joined_segments : (ss : List (List ℕ)) → AllByRecursion IsSegment ss → length (joined ss) ≡ 4 * length ss
length-joined_segments [] h = refl
length-joined_segments (s ∷ ss) h =
    let four = segment_of_four s h.0 in
    let more = length-joined_segments ss h.1 in
    omega (arith, length-append s (joined ss))

pub length-written_name : (path : Path) → AllByRecursion IsSegment path.segs
    → length (written_name path) ≡ length (written_prefix path) + length (segments_lead (length path.segs)) + 4 * length path.segs
length-written_name path h =
    let segs = length-joined_segments path.segs h in
    omega (arith, length-append (written_prefix path) (written_segments path.segs), length-append (segments_lead (length path.segs)) (joined path.segs))

-- what holds of all holds of each
pub all_at : {X : Type 0} (P : X → Type 0) (xs : List X) (i : ℕ) (x : X) → i < length xs → x ≡ get_or xs i x → AllByRecursion P xs → P x
all_at P [] i x h e all = absurd (omega arith)
all_at P (y ∷ ys) zero x h e all = subst P (sym e) all.0
all_at P (y ∷ ys) (suc i) x h e all = all_at P ys i x (omega arith) e all.1

-- the first objects are no longer than all of them
pub joined_map-take-le : {X : Type 0} (f : X → List ℕ) (k : ℕ) (xs : List X) → length (joined (map f (take k xs))) ≤ length (joined (map f xs))
joined_map-take-le f zero xs = omega arith
joined_map-take-le f (suc k) [] = omega arith
joined_map-take-le f (suc k) (x ∷ xs) =
    let more = joined_map-take-le f k xs in
    omega (arith, length-append (f x) (joined (map f (take k xs))), length-append (f x) (joined (map f xs)))

-- an object that is cut off at the bound is too long whole
pub capped_sized : (a x : ℕ) → min (2 ^ 28) (1 + length (written_length (a + min (2 ^ 28) x)) + (a + min (2 ^ 28) x)) ≡ min (2 ^ 28) (1 + length (written_length (a + x)) + (a + x))
capped_sized a x =
    elim (cases_lt x (2 ^ 28)) [
      | inl lt ↦ let same : min (2 ^ 28) x ≡ x = omega arith in rw same refl
      | inr le ↦ omega arith
    ]

-- ---- an object by its variant

pub length-Text : (t : List ℕ) → length (written (Text t)) ≡ length t + 2
length-Text t = rw (written-Text t) (omega (arith, length-append t (0 ∷ [])))

length-sized : (lead : ℕ) (content : List ℕ) → length (lead ∷ sized content) ≡ 1 + length (written_length (length content)) + length content
length-sized lead content = omega (arith, length-append (written_length (length content)) content)

pub length-Buffer : (size n : ℕ) (bytes : List ℕ) → n ≡ length (written_constant size) + length bytes
    → length (written (Buffer size bytes)) ≡ 1 + length (written_length n) + n
length-Buffer size n bytes e =
    let content = written_constant size ++ bytes in
    let same : length content ≡ n = length-append (written_constant size) bytes ∙ sym e in
    rw (written-Buffer size bytes) (length-sized 17 content ∙ ap (λ (k : ℕ). 1 + length (written_length k) + k) same)

pub length-Package : (count : ℕ) (vs : List Data) → let n = 1 + length (joined (map written vs)) in length (written (Package count vs)) ≡ 1 + length (written_length n) + n
length-Package count vs =
    let body = joined (map written vs) in
    let same : length (count ∷ body) ≡ 1 + length body = omega arith in
    rw (written-Package count vs) (length-sized 18 (count ∷ body) ∙ ap (λ (k : ℕ). 1 + length (written_length k) + k) same)

pub length-VarPackage : (count : ℕ) (vs : List Data)
    → let n = length (written_constant count) + length (joined (map written vs)) in length (written (VarPackage count vs)) ≡ 1 + length (written_length n) + n
length-VarPackage count vs =
    let body = joined (map written vs) in
    rw (written-VarPackage count vs) (length-sized 19 (written_constant count ++ body) ∙ ap (λ (k : ℕ). 1 + length (written_length k) + k) (length-append (written_constant count) body))

pub length-counted : (c : Counted Data) → let n = length (written_constant c.count) + length (joined (map written c.elements)) in length (written (variant.VarPackage c))
    ≡ 1 + length (written_length n) + n
length-counted c = length-VarPackage c.count c.elements

pub ruleset names = (length-written_name)

pub ruleset lengths = (layers, length-Text, length-Buffer, length-Package, length-counted, capped_sized)

-- ---- one object after another

pub counted_on : (vs : List Data) (k total more : ℕ) (v : Data) → k < length vs → v ≡ get_or vs k v → total ≡ length (joined (map written (take k vs))) → total < 2 ^ 28
    → more ≡ min (2 ^ 28) (length (written v)) → total + more < 2 ^ 28 → total + more ≡ length (joined (map written (take (k + 1) vs)))
counted_on vs k total more v inside is so_far short one few =
    let step = joined_map-take-suc written k vs v inside is in
    rw step (omega (arith, length-append (joined (map written (take k vs))) (written v)))

pub counted_out : (vs : List Data) (k total more : ℕ) (v : Data) → k < length vs → v ≡ get_or vs k v → total ≡ length (joined (map written (take k vs))) → total < 2 ^ 28
    → more ≡ min (2 ^ 28) (length (written v)) → 2 ^ 28 ≤ total + more → 2 ^ 28 ≡ min (2 ^ 28) (length (joined (map written vs)))
counted_out vs k total more v inside is so_far short one many =
    let step = ap (λ (l : List ℕ). length l) (joined_map-take-suc written k vs v inside is) in
    let all = joined_map-take-le written (k + 1) vs in
    omega (arith, length-append (joined (map written (take k vs))) (written v))

-- ---- the contents of an object that isn't too long

-- a content whose object isn't too long has a PkgLength
pub content_fits : (n : ℕ) → 1 + length (written_length n) + n < 2 ^ 28 → n ≤ 268435451
content_fits n h =
    elim (cases_lt n 1048573) [
      | inl lt ↦ omega arith
      | inr le ↦
          let a : ltb n 63 ≡ false = grind (arith, nat_tests) in
          let b : ltb n 4094 ≡ false = grind (arith, nat_tests) in
          let c : ltb n 1048573 ≡ false = grind (arith, nat_tests) in
          let four : length (written_length n) ≡ 4 = rw (a, b, c) refl in
          omega arith
    ]

-- each object is no longer than all of them
pub one_le_all : {X : Type 0} (f : X → List ℕ) (xs : List X) (i : ℕ) (x : X) → i < length xs → x ≡ get_or xs i x → length (f x) ≤ length (joined (map f xs))
one_le_all f xs i x inside is =
    let step = ap (λ (l : List ℕ). length l) (joined_map-take-suc f i xs x inside is) in
    let all = joined_map-take-le f (i + 1) xs in
    omega (arith, length-append (joined (map f (take i xs))) (f x))
