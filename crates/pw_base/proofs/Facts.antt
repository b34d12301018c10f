-- Facts of truth values, lists and results, for all crates.
use Rattle.std.proofs.Common.{◌≡◌, Bool, true, false, refl, ◌||◌, sym, cond, List, [], ◌∷◌, length, arith, map, ap, Result, Ok, Err, IfOk, IfErr, subst, inl, inr, ◌⊎◌}
use Rattle.std.specs.List.{AllByRecursion}

pub is_false : (b : Bool) → (b ≡ true → ⊥) → b ≡ false
is_false true h = absurd (h refl)
is_false false h = refl

pub or_none : (a b : Bool) → a ≡ false → b ≡ false → (a || b) ≡ false
or_none true b e f = cc
or_none false b e f = f

pub same_truth : (a b : Bool) → (a ≡ true → b ≡ true) → (b ≡ true → a ≡ true) → a ≡ b
same_truth true b f g = sym (f refl)
same_truth false true f g = g refl
same_truth false false f g = refl

-- what holds of either way that a test may go
pub by_test : {A : Type 0} (P : A → Type 0) (b : Bool) (x y : A) → (b ≡ true → P x) → (b ≡ false → P y) → P (cond b x y)
by_test P true x y passed failed = passed refl
by_test P false x y passed failed = failed refl

pub empty : {X : Type 0} (xs : List X) → length xs ≡ 0 → xs ≡ []
empty [] h = refl
empty (x ∷ xs) h = absurd (omega arith)

pub weaker : {X : Type 0} (P Q : X → Type 0) → ((x : X) → P x → Q x) → (xs : List X) → AllByRecursion P xs → AllByRecursion Q xs
weaker P Q h [] a = tt
weaker P Q h (x ∷ xs) a = (h x a.0, weaker P Q h xs a.1)

pub map_map : {X Y Z : Type 0} (f : X → Y) (g : Y → Z) (xs : List X) → map g (map f xs) ≡ map (λ x. g (f x)) xs
map_map f g [] = refl
map_map f g (x ∷ xs) = ap (λ ys. g (f x) ∷ ys) (map_map f g xs)

pub both : {A : Type 0} (P Q : A → Type 0) (xs : List A) → AllByRecursion P xs → AllByRecursion Q xs → AllByRecursion (λ x. P x × Q x) xs
both P Q [] p q = tt
both P Q (x ∷ xs) p q = ((p.0, q.0), both P Q xs p.1 q.1)

pub if_ok : {A E : Type 0} {P Q : A → Type 0} (r : Result A E) → ((a : A) → P a → Q a) → IfOk r P → IfOk r Q
if_ok (Ok a) f p = f a p
if_ok (Err e) f p = tt

pub if_err : {A E : Type 0} {P Q : E → Type 0} (r : Result A E) → ((e : E) → P e → Q e) → IfErr r P → IfErr r Q
if_err (Ok a) f p = tt
if_err (Err e) f p = f e p

pub subst2 : {A B : Type 0} (P : A → B → Type 0) {a a' : A} {b b' : B} → a ≡ a' → b ≡ b' → P a b → P a' b'
subst2 P {a} {a'} {b} {b'} e f p = subst (λ x. P x b') e (subst (P a) f p)

pub same_ok : {A E : Type 0} {x y : A} (r : Result A E) → r ≡ Ok x → r ≡ Ok y → x ≡ y
same_ok r first second = cc

pub choice : (b : Bool) → (b ≡ true) ⊎ (b ≡ false)
choice true = inl refl
choice false = inr refl

pub same_err : {A E : Type 0} {made : Result A E} {f g : E} → made ≡ Err f → made ≡ Err g → f ≡ g
same_err p q = cc
