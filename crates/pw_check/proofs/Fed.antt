-- Lines of words, by what stands behind each word.
use Rattle.std.proofs.Common.{◌≡◌, ◌∙◌, ℕ, Bool, List, [], ◌∷◌, ◌++◌, refl, ap, sym, append_assoc}
use Rattle.pw_base.specs.declared.sink.Sink.{Ghosts as Sink}
use Rattle.pw_text.specs.Lines.{line_of, spaced}
use Rattle.pw_text.specs.Puts.{PutsText}
use Rattle.pw_text.proofs.Putting.{PutsText-as}

-- each word with the space or the line feed behind it
abbrev pub fed : List (List ℕ) → List ℕ
fed [] = 10 ∷ []
fed (word ∷ []) = word ++ 10 ∷ []
fed (word ∷ next ∷ words) = word ++ 32 ∷ fed (next ∷ words)

line_fed : (words : List (List ℕ)) → fed words ≡ line_of words
unfolding line_of
line_fed [] = refl
line_fed (word ∷ []) = refl
line_fed (word ∷ next ∷ words) = ap (λ (l : List ℕ). word ++ 32 ∷ l) (line_fed (next ∷ words)) ∙ sym (append_assoc word (32 ∷ spaced (next ∷ words)) (10 ∷ []))

-- A line that was put word by word.
pub PutsLine : {S : Type 0} {K : Sink S} {a b : S} {waited waits : List ℕ} {done : Bool} (words : List (List ℕ))
    → PutsText K a b waited waits (fed words) done → PutsText K a b waited waits (line_of words) done
PutsLine words p = PutsText-as (line_of words) (line_fed words) p
