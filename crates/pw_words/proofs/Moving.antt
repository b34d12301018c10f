-- Plain words as `clap` is given them.
use Rattle.std.proofs.Common.{◌≡◌, ◌∙◌, ◌∷◌, ◌++◌, ◌&&◌, ◌≤◌, ◌-◌, arith, cond, true, sym, ap, ap₂, List, [], length, get_or, take}
use Rattle.std.specs.Prelude.{String, slice_range}
use Rattle.std.specs.List.{filter}
use Rattle.std.specs.String.{string_bytes}
use Rattle.std.specs.declared.alloc.Global.{Global}
use Rattle.std.proofs.Math.Seq.{take-length}
use Rattle.clap.specs.Walk.{Text}
use Rattle.pw_words.specs.Words.{are_flags_of, in_table_order, is_bare, is_dashed, moved, texts}
use Rattle.pw_words.specs.inner.Reading.{given}

-- the first word and the others
pub first_and_rest : (words : List (String Global)) (first : String Global) → 1 ≤ length words → first ≡ get_or words 0 first
    → texts words ≡ string_bytes first ∷ texts (slice_range words 1 (length words))
first_and_rest [] first some is = absurd (omega arith)
first_and_rest (w ∷ ws) first some is =
    let count : length (w ∷ ws) - 1 ≡ length ws = omega arith in
    ap₂ (λ x xs. string_bytes x ∷ texts xs) (sym is) (sym (ap (λ n. take n ws) count ∙ take-length ws))

-- by the flags among them
pub given_plain : (words flags all : List Text) (first : Text) (rest : List Text)
    → all ≡ first ∷ in_table_order first flags ++ filter is_bare rest → flags ≡ filter is_dashed rest → words ≡ first ∷ rest
    → (is_bare first && are_flags_of first flags) ≡ true → all ≡ given words
given_plain words flags all first rest order dashed are plain =
    order
    ∙ ap (λ fs. first ∷ in_table_order first fs ++ filter is_bare rest) dashed
    ∙ ap (λ b. cond b (moved (first ∷ rest)) (first ∷ rest)) (sym (sym (ap (λ fs. is_bare first && are_flags_of first fs) dashed) ∙ plain))
    ∙ ap given (sym are)
