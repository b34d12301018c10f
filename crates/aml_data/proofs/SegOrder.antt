-- The order of segments is that of the numbers that their bytes are, highest first.
use Rattle.std.proofs.Common.{◌≡◌, ◌<◌, ◌+◌, ◌*◌, ◌^◌, ℕ, List, [], ◌∷◌, refl, sym, subst, arith, ap}
use Rattle.std.specs.Int.{w32, from_be_bytes}
use Rattle.std.specs.Ordering.{MatchOrdering, nat_cmp, ordering_then}
use Rattle.std.specs.declared.cmp.Ordering.{Ordering}
use Rattle.std.specs.declared.cmp.Ordering.TheVariants.{Less, Equal, Greater}
use Rattle.std.specs.Cmp.{nat_cmp_is, ranks}
use Rattle.std.specs.Cmp.Lexicographic.{slice_cmp}
use Rattle.std.specs.Prelude.{IsTrue}
use Rattle.std.proofs.lemmas.Bool.Decides.{nat_tests}
use Rattle.aml_data.specs.Segment.{IsSegment, is_letter, is_word}

-- how a number with one byte more compares, by the number and the byte
further : (p : Ordering) (x y v w : ℕ) → MatchOrdering p (x < y) (x ≡ y) (y < x) → v < 256 → w < 256
    → MatchOrdering (ordering_then p (nat_cmp v w)) (x * 256 + v < y * 256 + w) (x * 256 + v ≡ y * 256 + w) (y * 256 + w < x * 256 + v)
further Less x y v w h lv lw = omega (arith, h, lv, lw)
further Greater x y v w h lv lw = omega (arith, h, lv, lw)
further Equal x y v w h lv lw = by (nat_cmp v w) (ranks v w)
  where
    by : (o : Ordering) → MatchOrdering o (v < w) (v ≡ w) (w < v) → MatchOrdering o (x * 256 + v < y * 256 + w) (x * 256 + v ≡ y * 256 + w) (y * 256 + w < x * 256 + v)
    by Less e = omega (arith, h, e)
    by Equal e = omega (arith, h, e)
    by Greater e = omega (arith, h, e)

then_all : (p q r s : Ordering) → ordering_then (ordering_then (ordering_then p q) r) s ≡ ordering_then p (ordering_then q (ordering_then r (ordering_then s Equal)))
then_all Less q r s = refl
then_all Greater q r s = refl
then_all Equal Less r s = refl
then_all Equal Greater r s = refl
then_all Equal Equal Less s = refl
then_all Equal Equal Greater s = refl
then_all Equal Equal Equal Less = refl
then_all Equal Equal Equal Greater = refl
then_all Equal Equal Equal Equal = refl

horner : (a b c d : ℕ) → ((a * 256 + b) * 256 + c) * 256 + d ≡ from_be_bytes w32 (a ∷ b ∷ c ∷ d ∷ [])
horner a b c d = omega arith

segments_compare : (a b c d e f g h : ℕ) → a < 256 → b < 256 → c < 256 → d < 256 → e < 256 → f < 256 → g < 256 → h < 256
    → nat_cmp (from_be_bytes w32 (a ∷ b ∷ c ∷ d ∷ [])) (from_be_bytes w32 (e ∷ f ∷ g ∷ h ∷ [])) ≡ slice_cmp nat_cmp (a ∷ b ∷ c ∷ d ∷ []) (e ∷ f ∷ g ∷ h ∷ [])
segments_compare a b c d e f g h la lb lc ld le lf lg lh =
    let one = further (nat_cmp a e) a e b f (ranks a e) lb lf in
    let two = further (ordering_then (nat_cmp a e) (nat_cmp b f)) (a * 256 + b) (e * 256 + f) c g one lc lg in
    let three = further (ordering_then (ordering_then (nat_cmp a e) (nat_cmp b f)) (nat_cmp c g)) ((a * 256 + b) * 256 + c) ((e * 256 + f) * 256 + g) d h two ld lh in
    let x = ((a * 256 + b) * 256 + c) * 256 + d in
    let y = ((e * 256 + f) * 256 + g) * 256 + h in
    let o = ordering_then (ordering_then (ordering_then (nat_cmp a e) (nat_cmp b f)) (nat_cmp c g)) (nat_cmp d h) in
    let is : o ≡ nat_cmp x y = nat_cmp_is x y o three in
    rw (← horner a b c d, ← horner e f g h) (rw (← is) (then_all (nat_cmp a e) (nat_cmp b f) (nat_cmp c g) (nat_cmp d h)))

letter_small : (b : ℕ) → IsTrue (is_letter b) → b < 256
letter_small b h = grind (arith, nat_tests)

word_small : (b : ℕ) → IsTrue (is_word b) → b < 256
word_small b h = grind (arith, nat_tests)

pub segments_order : (xs ys : List ℕ) → IsSegment xs → IsSegment ys → nat_cmp (from_be_bytes w32 xs) (from_be_bytes w32 ys) ≡ slice_cmp nat_cmp xs ys
segments_order (a ∷ b ∷ c ∷ d ∷ []) (e ∷ f ∷ g ∷ h ∷ []) s t =
    segments_compare a b c d e f g h (letter_small a s.0) (word_small b s.1) (word_small c s.2) (word_small d s.3)
    (letter_small e t.0) (word_small f t.1) (word_small g t.2) (word_small h t.3)
segments_order (a ∷ b ∷ c ∷ d ∷ []) [] s t = absurd t
segments_order (a ∷ b ∷ c ∷ d ∷ []) (e ∷ []) s t = absurd t
segments_order (a ∷ b ∷ c ∷ d ∷ []) (e ∷ f ∷ []) s t = absurd t
segments_order (a ∷ b ∷ c ∷ d ∷ []) (e ∷ f ∷ g ∷ []) s t = absurd t
segments_order (a ∷ b ∷ c ∷ d ∷ []) (e ∷ f ∷ g ∷ h ∷ i ∷ r) s t = absurd t
segments_order [] ys s t = absurd s
segments_order (a ∷ []) ys s t = absurd s
segments_order (a ∷ b ∷ []) ys s t = absurd s
segments_order (a ∷ b ∷ c ∷ []) ys s t = absurd s
segments_order (a ∷ b ∷ c ∷ d ∷ e ∷ r) ys s t = absurd s
