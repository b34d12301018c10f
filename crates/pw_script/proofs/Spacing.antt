-- Numbers behind words.
use Rattle.std.proofs.Common.{◌≡◌, ◌∙◌, ℕ, List, [], ◌∷◌, ◌++◌, map, take, length, refl, ap, sym, codes, decimal}
use Rattle.std.specs.Prelude.{min}
use Rattle.std.specs.List.{flat_map}
use Rattle.pw_text.specs.Behind.{behind}
use Rattle.pw_text.proofs.Spacing.{behind_more, least}

pub behind_numbers : (xs : List ℕ) → behind (map decimal xs) ≡ flat_map (λ s. 32 ∷ decimal s) xs
behind_numbers [] = refl
behind_numbers (x ∷ xs) = behind_more (decimal x) (map decimal xs) ∙ ap (λ (l : List ℕ). (32 ∷ decimal x) ++ l) (behind_numbers xs)

pub behind_chain : (xs : List ℕ) → codes " entered" ++ flat_map (λ s. 32 ∷ decimal s) xs ≡ behind (codes "entered" ∷ map decimal xs)
behind_chain xs = ap (λ (l : List ℕ). codes " entered" ++ l) (sym (behind_numbers xs)) ∙ sym (behind_more (codes "entered") (map decimal xs))

pub behind_idle : (s : ℕ) (words : List (List ℕ)) → (codes " idle " ++ decimal s) ++ behind words ≡ behind (codes "idle" ∷ decimal s ∷ words)
behind_idle s words = ap (λ (l : List ℕ). codes " idle" ++ l) (sym (behind_more (decimal s) words))

pub take_least : (n : ℕ) (xs : List ℕ) → take (min n (length xs)) xs ≡ take n xs
take_least n xs = least n xs
