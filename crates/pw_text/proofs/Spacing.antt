-- Words with spaces between, and words behind others.
use Rattle.std.proofs.Common.{◌+◌, get_or, drop, add-one, ◌≡◌, ◌∙◌, ◌<◌, ℕ, List, [], ◌∷◌, ◌++◌, take, length, refl, ap, sym, append_assoc, arith, take_all, inl, inr}
use Rattle.std.specs.Prelude.{min}
use Rattle.std.specs.List.{flat_map}
use Rattle.std.proofs.lemmas.Bool.{cases_lt}
use Rattle.std.proofs.lemmas.List.{append-nil, get_or_default}
use Rattle.acpi_values.specs.declared.operation.Op.{Op}
use Rattle.pw_text.specs.Behind.{behind}
use Rattle.pw_text.specs.Lines.{spaced}
use Rattle.pw_text.proofs.Joined.{flat_map-in_parts, flat_map-take-suc}

pub behind_more : (word : List ℕ) (words : List (List ℕ)) → behind (word ∷ words) ≡ (32 ∷ word) ++ behind words
behind_more word [] = ap (λ (l : List ℕ). 32 ∷ l) (sym (append-nil word))
behind_more word (next ∷ words) = refl

pub behind_append : (xs ys : List (List ℕ)) → behind (xs ++ ys) ≡ behind xs ++ behind ys
behind_append [] ys = refl
behind_append (x ∷ xs) ys =
    behind_more x (xs ++ ys) ∙ ap (λ (l : List ℕ). (32 ∷ x) ++ l) (behind_append xs ys) ∙ sym (append_assoc (32 ∷ x) (behind xs) (behind ys)) ∙ ap
    (λ (l : List ℕ). l ++ behind ys) (sym (behind_more x xs))

pub spaced_behind : (word : List ℕ) (words : List (List ℕ)) → spaced (word ∷ words) ≡ word ++ behind words
spaced_behind word [] = sym (append-nil word)
spaced_behind word (next ∷ words) = ap (λ (l : List ℕ). word ++ 32 ∷ l) (spaced_behind next words) ∙ ap (λ (l : List ℕ). word ++ l) (sym (behind_more next words))

pub least : {X : Type 0} (n : ℕ) (xs : List X) → take (min n (length xs)) xs ≡ take n xs
least n xs = elim (cases_lt n (length xs)) [
  | inl lt ↦ let e : min n (length xs) ≡ n = omega arith in rw e refl
  | inr ge ↦ let e : min n (length xs) ≡ length xs = omega arith in rw e (take_all (length xs) xs (omega arith) ∙ sym (take_all n xs ge))
]

pub take_of_least : (n : ℕ) (xs : List Op) → take (min n (length xs)) xs ≡ take n xs
take_of_least n xs = least n xs

-- # One text for each element

pub in_parts : {X : Type 0} (f : X → List ℕ) (k : ℕ) (xs : List X) (d : X) → k < length xs
    → (flat_map f (take k xs) ++ f (get_or xs k d)) ++ flat_map f (drop (k + 1) xs) ≡ flat_map f xs
in_parts f k xs d lt = flat_map-in_parts f k xs (get_or xs k d) lt (get_or_default xs k d (get_or xs k d) lt)

pub one_more : {X : Type 0} (f : X → List ℕ) (k : ℕ) (xs : List X) (d : X) → k < length xs
    → flat_map f (take k xs) ++ f (get_or xs k d) ≡ flat_map f (take (k + 1) xs)
one_more f k xs d lt = rw add-one (sym (flat_map-take-suc f k xs (get_or xs k d) lt (get_or_default xs k d (get_or xs k d) lt)))
