-- What holds of each element of a list.
use Rattle.std.proofs.Common.{◌≤◌, ℕ, suc, zero, List, [], ◌∷◌, ◌++◌, map, length, get_or, drop, arith}
use Rattle.std.specs.List.{AllByRecursion}

pub each_append : {X : Type 0} (T : X → Type 0) (xs ys : List X) → AllByRecursion T xs → AllByRecursion T ys → AllByRecursion T (xs ++ ys)
each_append T [] ys a b = b
each_append T (x ∷ xs) ys a b = (a.0, each_append T xs ys a.1 b)

pub each_map : {X Y : Type 0} (T : Y → Type 0) (f : X → Y) (xs : List X) → ((x : X) → T (f x)) → AllByRecursion T (map f xs)
each_map T f [] h = tt
each_map T f (x ∷ xs) h = (h x, each_map T f xs h)

pub each_at : {X : Type 0} (T : X → Type 0) (xs : List X) (i : ℕ) (d : X) → AllByRecursion T xs → T d → T (get_or xs i d)
each_at T [] i d a h = h
each_at T (x ∷ xs) zero d a h = a.0
each_at T (x ∷ xs) (suc i) d a h = each_at T xs i d a.1 h

-- it holds where it does of the first and of each behind it
pub each_more : {X : Type 0} (T : X → Type 0) (xs : List X) (d : X) → 1 ≤ length xs → T (get_or xs 0 d) → AllByRecursion T (drop 1 xs) → AllByRecursion T xs
each_more T [] d le h a = absurd (omega arith)
each_more T (x ∷ xs) d le h a = (h, a)

pub each_none : {X : Type 0} (T : X → Type 0) (xs : List X) → length xs ≤ 0 → AllByRecursion T xs
each_none T [] le = tt
each_none T (x ∷ xs) le = absurd (omega arith)
