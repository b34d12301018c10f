-- A map that leads to the processors from n on leads to those from n - 1 on, once it has that one.
use Rattle.std.proofs.Common.{◌≡◌, ◌<◌, ◌≤◌, ◌+◌, ◌-◌, ◌∙◌, ℕ, suc, Bool, true, false, List, [], ◌∷◌, length, drop, get_or, cond, refl, ap, arith, zero-add, drop-cons, Vec, Global, Some}
use Rattle.std.specs.HashMap.{HashMap, get_by}
use Rattle.std.specs.Prelude.{bytes_eq, IfSome, Option, None}
use Rattle.pw_audit.specs.inner.Looking.{LeadsTo, cpu_by}

pub leads_on : {S : Type 0} (paths : List (List ℕ)) (n : ℕ) (d : List ℕ) (key : Vec ℕ Global) (old new : HashMap (Vec ℕ Global) ℕ S)
    → 0 < n → n ≤ length paths → key.items ≡ get_or paths (n - 1) d → LeadsTo n (drop n paths) old
    → ((q : Vec ℕ Global) → get_by (λ k. bytes_eq q.items k.items) new ≡ cond (bytes_eq key.items q.items) (Some (n - 1)) (get_by (λ k. bytes_eq q.items k.items) old))
    → LeadsTo (n - 1) (drop (n - 1) paths) new
leads_on paths n d key old new some within named leads puts = λ q.
    let lt : n - 1 < length paths = omega arith in
    let next : suc (n - 1) ≡ n = omega arith in
    let split : drop (n - 1) paths ≡ get_or paths (n - 1) d ∷ drop (suc (n - 1)) paths = drop-cons paths (n - 1) d lt in
    let test : bytes_eq key.items q.items ≡ bytes_eq (get_or paths (n - 1) d) q.items = ap (λ (k : List ℕ). bytes_eq k q.items) named in
    let later : get_by (λ k. bytes_eq q.items k.items) old ≡ cpu_by (suc (n - 1)) (drop (suc (n - 1)) paths) q.items = rw next (leads q) in
    puts q ∙ rw (test, later, split) refl

from_below : (n : ℕ) (ps : List (List ℕ)) (name : List ℕ) → IfSome (cpu_by n ps name) (λ p. p < n + length ps)
from_below n [] name = tt
from_below n (c ∷ cs) name = step (bytes_eq c name) (cpu_by (suc n) cs name) (from_below (suc n) cs name)
  where
    later : (o : Option ℕ) → IfSome o (λ p. p < suc n + length cs) → IfSome o (λ p. p < n + length (c ∷ cs))
    later None h = tt
    later (Some p) h = omega arith

    step : (b : Bool) (o : Option ℕ) → IfSome o (λ p. p < suc n + length cs) → IfSome (cond b (Some n) o) (λ p. p < n + length (c ∷ cs))
    step true o h = omega arith
    step false o h = later o h

pub found_exists : (texts : List (List ℕ)) (n : ℕ) (name : List ℕ) → length texts ≡ n → IfSome (cpu_by 0 texts name) (λ p. p < n)
found_exists texts n name size = rw size at (rw zero-add at (from_below 0 texts name))
