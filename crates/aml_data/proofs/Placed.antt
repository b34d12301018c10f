-- A spelling among other bytes.
use Rattle.std.proofs.Common.{◌≡◌, ℕ, List, ◌++◌, length, take, drop, sym, ap, subst, ◌∙◌, arith, length-append, append_assoc}
use Rattle.std.proofs.Math.Seq.{take-append_seam, drop-append_seam}
use Rattle.aml_data.specs.Decoded.{IsSpelledAt}

-- a value is spelled at the place of its spelling, whatever stands before and after
pub is_placed : {A : Type 0} (S : A → List ℕ → Type 0) (v : A) (before b after : List ℕ) → S v b → IsSpelledAt S (before ++ b ++ after) (length before) v (length b)
is_placed S v before b after h =
    let tail : drop (length before) (before ++ b ++ after) ≡ b ++ after =
    ap (λ (t : List ℕ). drop (length before) t) (append_assoc before b after) ∙ drop-append_seam before (b ++ after) in
    let here : take (length b) (drop (length before) (before ++ b ++ after)) ≡ b = ap (λ (t : List ℕ). take (length b) t) tail ∙ take-append_seam b after in
    record {
      within = omega (arith, length-append (before ++ b) after, length-append before b);
      spelled = subst (λ (t : List ℕ). S v t) (sym here) h;
    }
