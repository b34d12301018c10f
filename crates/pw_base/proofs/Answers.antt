-- What a chain of steps says of its parts.
use Rattle.std.proofs.Common.{◌≡◌, ◌⊎◌, Result, Ok, Err, refl, ap, inl, inr}
use Rattle.pw_base.specs.Answers.{◌>>=◌}

abbrev pub done : {A E : Type 0} → A → Result A E
done x = Ok x

abbrev pub failed : {A E : Type 0} → E → Result A E
failed e = Err e

-- a chain that gives a value: its first step does, and then the others
pub bind_ok : {A B E : Type 0} (r : Result A E) (f : A → Result B E) (y : B) → (r >>= f) ≡ Ok y → (x : A) × (r ≡ Ok x) × (f x ≡ Ok y)
bind_ok (Ok x) f y e = (x, refl, e)
bind_ok (Err d) f y e = absurd cc

-- a chain that fails: its first step does, or another
pub bind_err : {A B E : Type 0} (r : Result A E) (f : A → Result B E) (d : E) → (r >>= f) ≡ Err d → (r ≡ Err d) ⊎ ((x : A) × (r ≡ Ok x) × (f x ≡ Err d))
bind_err (Ok x) f d e = inr (x, refl, e)
bind_err (Err c) f d e = inl (let q : c ≡ d = cc in ap (λ z. Err z) q)

pub ok_is : {A E : Type 0} (x y : A) → done {E = E} x ≡ done y → x ≡ y
ok_is x y e = cc

pub err_is : {A E : Type 0} (c d : E) → failed {A = A} c ≡ failed d → c ≡ d
err_is c d e = cc

pub no_ok_err : {A E : Type 0} (x : A) (d : E) → done x ≡ failed d → ⊥
no_ok_err x d e = cc

pub no_err_ok : {A E : Type 0} (x : A) (d : E) → failed d ≡ done x → ⊥
no_err_ok x d e = cc
