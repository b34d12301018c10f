-- The first line of a text.
use Rattle.std.proofs.Common.{◌≡◌, ◌<◌, ◌≤◌, ◌+◌, ◌^◌, ◌∙◌, ℕ, length, length-take, List, ◌++◌, get_or, codes, decimal, ap, sym, arith, append_assoc, Option, Some, None}
use Rattle.std.proofs.lemmas.List.{append_cancel_left}
use Rattle.pw_text.specs.Lines.{with_feed}
use Rattle.pw_text.specs.Openings.{opened, opening_line}
use Rattle.acpi_values.specs.declared.operation.Op.{Op}
use Rattle.pw_audit.specs.inner.Stopping.{WithinOpening}
use Rattle.pw_history.specs.Asked.{Begins}

abbrev lead : List ℕ
lead = codes "open -> register fault after "

regroup : (a b c : List ℕ) → with_feed (a ++ b) ++ c ≡ a ++ (with_feed b ++ c)
regroup a b c = simp append_assoc

pub no_first : (count : ℕ) (text : List ℕ) → (Begins lead text → ⊥) → (Begins (codes "open\n") text → ⊥)
    → (f : Option ℕ) → WithinOpening count f → Begins (with_feed (opening_line f)) text → ⊥
no_first count text ne other None w b = other b
no_first count text ne other (Some k) w b = ne (record { rest = with_feed (decimal k) ++ b.rest; is = b.is ∙ regroup lead (decimal k) b.rest })

pub no_number : (count : ℕ) (text behind : List ℕ) → text ≡ lead ++ behind → ((k : ℕ) → k < count → Begins (with_feed (decimal k)) behind → ⊥)
    → (f : Option ℕ) → WithinOpening count f → Begins (with_feed (opening_line f)) text → ⊥
no_number count text behind e none None w b =
    let bytes : 32 ≡ 10 = ap (λ (l : List ℕ). get_or l 4 0) (sym e ∙ b.is) in
    absurd (omega (arith, bytes))
no_number count text behind e none (Some k) w b =
    none k w (record { rest = b.rest; is = append_cancel_left lead behind (with_feed (decimal k) ++ b.rest) (sym e ∙ b.is ∙ regroup lead (decimal k) b.rest) })

pub number_read : (text behind rest : List ℕ) (k : ℕ) → text ≡ lead ++ behind → behind ≡ with_feed (decimal k) ++ rest → text ≡ with_feed (opening_line (Some k)) ++ rest
number_read text behind rest k e f = e ∙ ap (λ (l : List ℕ). lead ++ l) f ∙ sym (regroup lead (decimal k) rest)

pub opened_few : (f : Option ℕ) (ops : List Op) → length (opened f ops) ≤ length ops
opened_few None ops = omega arith
opened_few (Some k) ops = let n = length-take k ops in omega arith
