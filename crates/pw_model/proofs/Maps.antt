-- Maps of lists, and what holds of each element.
use Rattle.std.proofs.Common.{◌≡◌, ◌≤◌, ℕ, min, Bool, true, List, [], ◌∷◌, map, length, refl, arith}
use Rattle.std.specs.Prelude.{fold}
use Rattle.pw_plan.proofs.Lists.{and_first, and_second}
use Rattle.std.specs.List.{list_all, AllByRecursion}

-- two functions that agree at each element that has P make the same list of elements that have it
pub map_agree : {X Y : Type 0} (P : X → Type 0) (f g : X → Y) → ((x : X) → P x → f x ≡ g x) → (xs : List X) → AllByRecursion P xs → map f xs ≡ map g xs
map_agree P f g h [] a = refl
map_agree P f g h (x ∷ xs) a =
    let e : f x ≡ g x = h x a.0 in
    let r : map f xs ≡ map g xs = map_agree P f g h xs a.1 in
    cc

-- two functions that agree make the same list
pub map_same : {X Y : Type 0} (f g : X → Y) → ((x : X) → f x ≡ g x) → (xs : List X) → map f xs ≡ map g xs
map_same f g h [] = refl
map_same f g h (x ∷ xs) =
    let e : f x ≡ g x = h x in
    let r : map f xs ≡ map g xs = map_same f g h xs in
    cc

-- # Tests of all elements

pub each_passes : {X : Type 0} (t : X → Bool) (xs : List X) → list_all t xs ≡ true → AllByRecursion (λ x. t x ≡ true) xs
each_passes t [] e = tt
each_passes t (x ∷ xs) e = (and_first (t x) (list_all t xs) e, each_passes t xs (and_second (t x) (list_all t xs) e))

-- # The least

pub fold_min-le : {X : Type 0} (f : X → ℕ) (most : ℕ) (xs : List X) → fold min most (map f xs) ≤ most
fold_min-le f most [] = omega arith
fold_min-le f most (x ∷ xs) = let a = fold_min-le f (min most (f x)) xs in omega (arith, a)

pub fold_min-each : {X : Type 0} (f : X → ℕ) (most : ℕ) (xs : List X) → AllByRecursion (λ x. fold min most (map f xs) ≤ f x) xs
fold_min-each f most [] = tt
fold_min-each f most (x ∷ xs) = (let a = fold_min-le f (min most (f x)) xs in omega (arith, a), fold_min-each f (min most (f x)) xs)

pub fold_min-least : {X : Type 0} (f : X → ℕ) (t most : ℕ) (xs : List X) → t ≤ most → AllByRecursion (λ x. t ≤ f x) xs → t ≤ fold min most (map f xs)
fold_min-least f t most [] le a = le
fold_min-least f t most (x ∷ xs) le a = fold_min-least f t (min most (f x)) xs (let b = a.0 in omega (arith, b)) a.1
