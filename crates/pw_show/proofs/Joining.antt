-- Texts that are joined by commas, one more at a time.
use Rattle.std.proofs.Common.{◌≡◌, ◌<◌, ℕ, suc, zero, List, [], ◌∷◌, ◌++◌, map, take, drop, get_or, length, sym, ◌∙◌, ap, append_assoc, arith}
use Rattle.std.proofs.lemmas.List.{append-nil}
use Rattle.std.specs.List.{flat_map, join_with_byte}
use Rattle.pw_text.proofs.Joined.{flat_map-take-drop, flat_map-take-suc}
use Rattle.pw_show.specs.inner.Putting.{comma_before}

module _ {X : Type 0} (f : X → List ℕ) where
  -- the texts of these, with a comma between each two
  abbrev pub joined : List X → List ℕ
  joined xs = join_with_byte 44 (map f xs)

  -- a text behind a comma
  abbrev pub behind_comma : X → List ℕ
  behind_comma x = 44 ∷ f x

  pub joined-cons : (x : X) (xs : List X) → joined (x ∷ xs) ≡ f x ++ flat_map behind_comma xs
  joined-cons x [] = sym (append-nil (f x))
  joined-cons x (y ∷ ys) = ap (λ l. f x ++ (44 ∷ l)) (joined-cons y ys)

  -- one more text stands behind those before it
  pub joined-take-suc : (i : ℕ) (xs : List X) (x : X) → i < length xs → x ≡ get_or xs i x
      → joined (take (suc i) xs) ≡ joined (take i xs) ++ (comma_before i ++ f x)
  joined-take-suc i [] x h e = absurd (omega arith)
  joined-take-suc zero (y ∷ ys) x h e = ap f (sym e)
  joined-take-suc (suc i) (y ∷ ys) x h e =
      joined-cons y (take (suc i) ys) ∙ ap (λ l. f y ++ l) (flat_map-take-suc behind_comma i ys x (omega arith) e)
      ∙ sym (append_assoc (f y) (flat_map behind_comma (take i ys)) (behind_comma x))
      ∙ ap (λ l. l ++ behind_comma x) (sym (joined-cons y (take i ys)))

  -- those up to a text, and those behind it, are all
  pub joined-take-drop : (i : ℕ) (xs : List X) → i < length xs
      → joined (take (suc i) xs) ++ flat_map behind_comma (drop (suc i) xs) ≡ joined xs
  joined-take-drop i [] h = absurd (omega arith)
  joined-take-drop i (y ∷ ys) h =
      ap (λ l. l ++ flat_map behind_comma (drop i ys)) (joined-cons y (take i ys))
      ∙ append_assoc (f y) (flat_map behind_comma (take i ys)) (flat_map behind_comma (drop i ys))
      ∙ ap (λ l. f y ++ l) (flat_map-take-drop behind_comma i ys) ∙ sym (joined-cons y ys)

  -- those before a text, the text behind its comma, and those behind it are all
  pub joined-in_parts : (i : ℕ) (xs : List X) (x : X) → i < length xs → x ≡ get_or xs i x
      → (joined (take i xs) ++ (comma_before i ++ f x)) ++ flat_map behind_comma (drop (suc i) xs) ≡ joined xs
  joined-in_parts i xs x h e =
      ap (λ l. l ++ flat_map behind_comma (drop (suc i) xs)) (sym (joined-take-suc i xs x h e)) ∙ joined-take-drop i xs h
