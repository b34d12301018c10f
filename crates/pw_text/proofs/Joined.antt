-- Lists joined in order.
use Rattle.std.proofs.Common.{◌≡◌, ◌<◌, ◌+◌, ℕ, suc, zero, List, [], ◌∷◌, ◌++◌, take, drop, get_or, length, refl, sym, ◌∙◌, ap, append_assoc, add-one, arith}
use Rattle.std.proofs.lemmas.List.{append-nil}
use Rattle.std.specs.List.{flat_map, join_with_byte}

-- what the first elements give, and then what the others give, is what all give
pub flat_map-take-drop : {X A : Type 0} (f : X → List A) (k : ℕ) (xs : List X) → flat_map f (take k xs) ++ flat_map f (drop k xs) ≡ flat_map f xs
flat_map-take-drop f zero xs = refl
flat_map-take-drop f (suc k) [] = refl
flat_map-take-drop f (suc k) (x ∷ xs) = append_assoc (f x) _ _ ∙ ap (λ l. f x ++ l) (flat_map-take-drop f k xs)

-- one more element gives what it gives behind the others
pub flat_map-take-suc : {X A : Type 0} (f : X → List A) (k : ℕ) (xs : List X) (x : X) → k < length xs → x ≡ get_or xs k x → flat_map f (take (suc k) xs) ≡ flat_map f (take k xs) ++ f x
flat_map-take-suc f k [] x h e = absurd (omega arith)
flat_map-take-suc f zero (y ∷ ys) x h e = append-nil (f y) ∙ ap f (sym e)
flat_map-take-suc f (suc k) (y ∷ ys) x h e = ap (λ l. f y ++ l) (flat_map-take-suc f k ys x (omega arith) e) ∙ sym (append_assoc (f y) _ _)

-- the same where the index is counted up, with what the others give
pub flat_map-in_parts : {X A : Type 0} (f : X → List A) (k : ℕ) (xs : List X) (x : X)
    → k < length xs → x ≡ get_or xs k x → (flat_map f (take k xs) ++ f x) ++ flat_map f (drop (k + 1) xs) ≡ flat_map f xs
flat_map-in_parts f k xs x h e = rw (add-one, ← flat_map-take-suc f k xs x h e) (flat_map-take-drop f (suc k) xs)

-- pieces with a byte between each two are the first, and the others behind that byte
pub join-flat_map : (c : ℕ) (x : List ℕ) (xs : List (List ℕ)) → join_with_byte c (x ∷ xs) ≡ x ++ flat_map (λ y. c ∷ y) xs
join-flat_map c x [] = sym (append-nil x)
join-flat_map c x (y ∷ ys) = ap (λ l. x ++ (c ∷ l)) (join-flat_map c y ys)
