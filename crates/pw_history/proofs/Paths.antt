-- Which bytes paths and the words of operations have, and that the text of a path tells its segments.
use Rattle.std.proofs.Common.{◌≡◌, ◌<◌, ℕ, true, List, [], ◌∷◌, codes, decimal, refl, sym, arith}
use Rattle.std.specs.Fmt.{digits}
use Rattle.std.specs.List.{AllByRecursion, join_with_byte}
use Rattle.std.proofs.lemmas.Bool.Decides.{nat_tests}
use Rattle.aml_data.specs.Segment.{IsSegment, is_letter, is_word}
use Rattle.acpi_values.specs.declared.register.Register.{Register}
use Rattle.acpi_values.specs.declared.operation.Op.{Op}
use Rattle.acpi_values.specs.declared.operation.Op.TheVariants.{Set, Enter}
use Rattle.pw_text.specs.Text.{hex_text, place_text}
use Rattle.pw_text.specs.HistoryText.{op_line_by, register_text}
use Rattle.pw_history.specs.Telling.{Over}
use Rattle.pw_history.proofs.Each.{each_append}
use Rattle.pw_history.proofs.Cuts.{AllOver, joined-over, joined-same, over-lower, over-test}
use Rattle.pw_history.proofs.Numbers.{decimal-over, digits_over}

hex_over : (n : ℕ) → Over 47 (hex_text n)
hex_over n = each_append (λ b. 47 < b) (codes "0x") (digits 16 true n) (over-test 47 (codes "0x") refl) (digits_over 16 true n)

-- # Paths

letter_over : (b : ℕ) → is_letter b ≡ true → 46 < b
letter_over b e = grind (arith, nat_tests)

word_over : (b : ℕ) → is_word b ≡ true → 46 < b
word_over b e = grind (arith, nat_tests)

segment_over : (w : List ℕ) → IsSegment w → Over 46 w
segment_over (a ∷ b ∷ c ∷ d ∷ []) h = (letter_over a h.0, (word_over b h.1, (word_over c h.2, (word_over d h.3, tt))))
segment_over w h = absurd h

segments_over : (segs : List (List ℕ)) → AllByRecursion IsSegment segs → AllOver 46 segs
segments_over [] h = tt
segments_over (w ∷ ws) h = (segment_over w h.0, segments_over ws h.1)

pub path_over : (segs : List (List ℕ)) → AllByRecursion IsSegment segs → Over 45 (place_text segs)
path_over segs h = (omega arith, joined-over 45 46 segs (omega arith) (segments_over segs h))

some_segment : (w : List ℕ) (ws : List (List ℕ)) → IsSegment w → [] ≡ join_with_byte 46 (w ∷ ws) → ⊥
some_segment (a ∷ b ∷ c ∷ d ∷ []) [] h e = cc
some_segment (a ∷ b ∷ c ∷ d ∷ []) (v ∷ ws) h e = cc
some_segment w ws h e = absurd h

segs_same : (xs ys : List (List ℕ)) → AllByRecursion IsSegment xs → AllByRecursion IsSegment ys → join_with_byte 46 xs ≡ join_with_byte 46 ys → xs ≡ ys
segs_same [] [] h g e = refl
segs_same [] (y ∷ ys) h g e = absurd (some_segment y ys g.0 e)
segs_same (x ∷ xs) [] h g e = absurd (some_segment x xs h.0 (sym e))
segs_same (x ∷ xs) (y ∷ ys) h g e = joined-same 46 x y xs ys (segments_over (x ∷ xs) h) (segments_over (y ∷ ys) g) e

pub path-same : (a b : List (List ℕ)) → AllByRecursion IsSegment a → AllByRecursion IsSegment b → place_text a ≡ place_text b → a ≡ b
path-same a b h g e = let tails : join_with_byte 46 a ≡ join_with_byte 46 b = cc in segs_same a b h g tails

register_over : (r : Register) → Over 32 (register_text r)
register_over r = (
  omega arith,
  each_append (λ b. 32 < b) (join_with_byte 44 (decimal r.space ∷ decimal r.width ∷ decimal r.offset ∷ decimal r.access ∷ hex_text r.address ∷ [])) (93 ∷ [])
      (joined-over 32 44 (decimal r.space ∷ decimal r.width ∷ decimal r.offset ∷ decimal r.access ∷ hex_text r.address ∷ []) (omega arith) (
        low (decimal r.space) (decimal-over r.space),
        (
          low (decimal r.width) (decimal-over r.width),
          (
            low (decimal r.offset) (decimal-over r.offset),
            (
              low (decimal r.access) (decimal-over r.access),
              (low (hex_text r.address) (hex_over r.address), tt),
            ),
          ),
        ),
      ))
      (omega arith, tt),
)
  where
    low : (w : List ℕ) → Over 47 w → Over 44 w
    low w o = over-lower 44 47 w (omega arith) o

-- # Lines of operations

module _ (path : ℕ → List ℕ) (path_word : (p : ℕ) → Over 32 (path p)) where
  pub op_over : (o : Op) → Over 10 (op_line_by path o)
  op_over (Set p r v) = joined-over 10 32 ([] ∷ [] ∷ codes "set" ∷ path p ∷ register_text r ∷ hex_text v ∷ []) (omega arith)
      (tt, (tt, (over-test 32 (codes "set") refl, (path_word p, (register_over r, (over-lower 32 47 (hex_text v) (omega arith) (hex_over v), tt))))))
  op_over (Enter p composite) = joined-over 10 32 ([] ∷ [] ∷ codes "enter" ∷ path p ∷ register_text composite.register ∷ []) (omega arith)
      (tt, (tt, (over-test 32 (codes "enter") refl, (path_word p, (register_over composite.register, tt)))))
