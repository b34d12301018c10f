-- A map that leads to the elements from n on leads to those from n - 1 on, once it leads to that one too; and where an index leads.
use Rattle.std.proofs.Common.{◌≡◌, ◌<◌, ◌≤◌, ◌+◌, ◌-◌, ◌∙◌, ℕ, suc, Bool, true, false, List, [], ◌∷◌, length, drop, get_or, cond, refl, ap, subst, sym, arith, zero-add, drop-cons, Vec, Global}
use Rattle.std.specs.HashMap.{HashMap}
use Rattle.std.specs.Prelude.{bytes_eq, option_map, IfSome, Option, Some, None}
use Rattle.aml_data.specs.Segment.{joined}
use Rattle.pw_text.specs.declared.path_index.PathIndex.{PathIndex}
use Rattle.pw_text.specs.Forms.{name_of, named_from}
use Rattle.pw_text.specs.Looking.{IsFound, IsIndexOf, LeadsAlso, LeadsTo, led_by}

pub leads_on : {X S : Type 0} (segs : X → List (List ℕ)) (xs : List X) (n : ℕ) (x : X) (old new : HashMap (Vec ℕ Global) ℕ S)
    → 0 < n → n ≤ length xs → LeadsTo segs n (drop n xs) old → LeadsAlso (segs (get_or xs (n - 1) x)) (n - 1) old new → LeadsTo segs (n - 1) (drop (n - 1) xs) new
leads_on segs xs n x old new some within leads also = λ q.
    let lt : n - 1 < length xs = omega arith in
    let next : suc (n - 1) ≡ n = omega arith in
    let split : drop (n - 1) xs ≡ get_or xs (n - 1) x ∷ drop (suc (n - 1)) xs = drop-cons xs (n - 1) x lt in
    let later : led_by old q ≡ named_from segs (suc (n - 1)) (drop (suc (n - 1)) xs) q.items = rw next (leads q) in
    also q ∙ rw (later, split) refl

from_below : {X : Type 0} (segs : X → List (List ℕ)) (n : ℕ) (xs : List X) (name : List ℕ) → IfSome (named_from segs n xs name) (λ p. p < n + length xs)
from_below segs n [] name = tt
from_below segs n (x ∷ xs) name = step (bytes_eq (joined (segs x)) name) (named_from segs (suc n) xs name) (from_below segs (suc n) xs name)
  where
    later : (o : Option ℕ) → IfSome o (λ p. p < suc n + length xs) → IfSome o (λ p. p < n + length (x ∷ xs))
    later None h = tt
    later (Some p) h = omega arith

    step : (b : Bool) (o : Option ℕ) → IfSome o (λ p. p < suc n + length xs) → IfSome (cond b (Some n) o) (λ p. p < n + length (x ∷ xs))
    step true o h = omega arith
    step false o h = later o h

pub name_within : {X : Type 0} (segs : X → List (List ℕ)) (xs : List X) (name : List ℕ) → IfSome (named_from segs 0 xs name) (λ p. p < length xs)
name_within segs xs name = rw zero-add at (from_below segs 0 xs name)

-- where an index of these elements leads a text, and that it is one of them
pub found_named : {X : Type 0} (segs : X → List (List ℕ)) (xs : List X) (I : PathIndex) (text : List ℕ) (found : Option (Option ℕ))
    → IsIndexOf segs xs I → IsFound I text found → found ≡ option_map (named_from segs 0 xs) (name_of text)
found_named segs xs I text None index is = rw is refl
found_named segs xs I text (Some found) index is = rw is.is (ap (λ (o : Option ℕ). Some o) (sym is.to ∙ index.0 is.name))

pub found_exists : {X : Type 0} (segs : X → List (List ℕ)) (xs : List X) (I : PathIndex) (text : List ℕ) (found : Option (Option ℕ))
    → IsIndexOf segs xs I → IsFound I text found → IfSome found (λ some. IfSome some (λ p. p < length xs))
found_exists segs xs I text None index is = tt
found_exists segs xs I text (Some found) index is =
    subst (λ (o : Option ℕ). IfSome o (λ p. p < length xs)) (sym (index.0 is.name) ∙ is.to) (name_within segs xs is.name.items)
