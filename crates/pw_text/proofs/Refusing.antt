-- The first bad line, one line further.
use Rattle.std.proofs.Common.{◌≡◌, ℕ, suc, List, [], ◌∷◌, refl, Ok, Option, Result, length, arith}
use Rattle.pw_text.specs.declared.script.LineWhy.{LineWhy}
use Rattle.pw_text.specs.Fields.{lines_of}
use Rattle.pw_text.specs.Scripts.{first_bad_by}

pub bad_past : {W : Type 0} (asks : List ℕ → Result (Option W) LineWhy) (n : ℕ) (texts : List (List ℕ)) (text : List ℕ) (rest : List (List ℕ)) (wish : Option W)
    → texts ≡ text ∷ rest → asks text ≡ Ok wish → first_bad_by asks n texts ≡ first_bad_by asks (suc n) rest
bad_past asks n texts text rest wish e w = rw (e, w) refl

-- no bytes have no lines
pub no_texts : (xs : List ℕ) → length xs ≡ 0 → lines_of xs ≡ []
no_texts [] e = refl
no_texts (b ∷ xs) e = absurd (omega arith)
