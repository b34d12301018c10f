-- Objects one after the other.
use Rattle.std.proofs.Common.{◌≡◌, ◌+◌, ◌<◌, ℕ, zero, suc, List, [], ◌∷◌, ◌++◌, map, take, get_or, length, sym, ◌∙◌, ap, append_assoc, add-one, arith}
use Rattle.std.proofs.lemmas.List.{append-nil}
use Rattle.aml_data.specs.Segment.{joined}

-- one more object stands behind those before it
pub joined_map-take-suc : {X : Type 0} (f : X → List ℕ) (k : ℕ) (xs : List X) (x : X) → k < length xs → x ≡ get_or xs k x
    → joined (map f (take (k + 1) xs)) ≡ joined (map f (take k xs)) ++ f x
joined_map-take-suc f k [] x h e = absurd (omega arith)
joined_map-take-suc f zero (y ∷ ys) x h e = append-nil (f y) ∙ ap f (sym e)
joined_map-take-suc f (suc k) (y ∷ ys) x h e =
    rw add-one (ap (λ l. f y ++ l) (ap (λ n. joined (map f (take n ys))) (sym (add-one k)) ∙ joined_map-take-suc f k ys x (omega arith) e) ∙ sym (append_assoc (f y) _ _))
