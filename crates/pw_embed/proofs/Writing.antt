-- Lists that are written over, one element after the other.
use Rattle.std.proofs.Common.{◌≡◌, ◌+◌, ◌<◌, ℕ, List, [], ◌∷◌, ◌++◌, suc, length, map, take, drop, sym, ap, ◌∙◌, arith, append_assoc, drop-cons, get_or, slice_set}
use Rattle.std.proofs.Math.Seq.{take-suc}
use Rattle.std.proofs.lemmas.List.{set_at, length-map, map-append}
use Rattle.std.proofs.lemmas.Grind.{common_steps}
use Rattle.std.specs.List.{AllZip}

-- one more element stands behind those before it
pub written-next : {X Y : Type 0} (f : X → Y) (xs : List X) (ys : List Y) (i : ℕ) (d : X) → i < length xs → i < length ys
    → slice_set (map f (take i xs) ++ drop i ys) i (f (get_or xs i d)) ≡ map f (take (i + 1) xs) ++ drop (i + 1) ys
written-next f xs ys i d lt room =
    let x = get_or xs i d in
    let behind = drop (suc i) ys in
    let after = drop-cons ys i (f x) room in
    let before : length (map f (take i xs)) ≡ i = length-map (take i xs) f ∙ grind (arith, common_steps) in
    let at = take-suc xs i d lt in
    let one : i + 1 ≡ suc i = omega arith in
    rw (one, after) (set_at (map f (take i xs)) (get_or ys i (f x)) behind (f x) i before
    ∙ rw at (sym (ap (λ zs. zs ++ behind) (map-append f (take i xs) (x ∷ [])) ∙ append_assoc (map f (take i xs)) (f x ∷ []) behind)))

pub AllZip-snoc : {A B : Type 0} (R : A → B → Type 0) (xs : List A) (ys : List B) (x : A) (y : B) → AllZip R xs ys → R x y → AllZip R (xs ++ x ∷ []) (ys ++ y ∷ [])
AllZip-snoc R [] [] x y all r = (r, tt)
AllZip-snoc R (a ∷ xs) (b ∷ ys) x y all r = (all.0, AllZip-snoc R xs ys x y all.1 r)
AllZip-snoc R [] (b ∷ ys) x y all r = absurd all
AllZip-snoc R (a ∷ xs) [] x y all r = absurd all
