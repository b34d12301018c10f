-- Lists in which nothing stands twice: one element more, and the first that stands twice.
use Rattle.std.proofs.Common.{◌≡◌, ◌<◌, List, [], ◌∷◌, ◌++◌, length, sym, subst, ◌∙◌, arith, inl, inr}
use Rattle.std.specs.Prelude.{Contains}
use Rattle.std.proofs.lemmas.Bool.{cases_lt}
use Rattle.std.proofs.lemmas.List.{length_push, length-append, get_or_append_left, get_or_default}
use Rattle.std.proofs.Math.Seq.{get_or-append_seam}
use Rattle.acpi_space.specs.Distinct.{IsDistinct, IsFirstRepeat}

-- one more element, which isn't among them
pub IsDistinct-push : {X : Type 0} (xs : List X) (x : X) → IsDistinct xs → (Contains xs x → ⊥) → IsDistinct (xs ++ x ∷ [])
IsDistinct-push xs x distinct new i j d below within =
    let size = length_push xs x in
    let i_in : i < length xs = omega arith in
    rw (get_or_append_left xs (x ∷ []) d i i_in) (
    elim (cases_lt j (length xs)) [
      | inl here ↦ rw (get_or_append_left xs (x ∷ []) d j here) (distinct i j d below here)
      | inr past ↦ let e : j ≡ length xs = omega arith in rw (e, get_or-append_seam xs x [] d) (λ same. new (i, i_in, get_or_default xs i x d i_in ∙ same))
    ])

-- where a path is a first repeat, not all are distinct
pub first_repeat_repeats : {X : Type 0} (xs : List X) (x : X) → IsFirstRepeat xs x → IsDistinct xs → ⊥
first_repeat_repeats xs x repeat distinct =
    let front = repeat.front in
    let among = repeat.among in
    let whole : IsDistinct (front ++ x ∷ repeat.back) = subst IsDistinct repeat.parts distinct in
    let longer : length front < length (front ++ x ∷ repeat.back) = simp length-append (omega arith) in
    whole among.0 (length front) x among.1 longer
    (get_or_append_left front (x ∷ repeat.back) x among.0 among.1 ∙ among.2 ∙ sym (get_or-append_seam front x repeat.back x))
