-- Lists that are added to.
use Rattle.std.proofs.Common.{◌≡◌, ◌<◌, ◌+◌, ◌∙◌, ℕ, suc, List, ◌++◌, add-one, ap, append_assoc, arith, get_or, length, take}
use Rattle.std.specs.List.{flat_map}
use Rattle.pw_findings.specs.declared.finding.Finding.{Finding}
use Rattle.pw_findings.specs.Findings.{of_each}
use Rattle.pw_text.proofs.Joined.{flat_map-take-suc}

-- what one more number gives was added
pub added_number : (f : ℕ → List Finding) (n : ℕ) (old mid new : List Finding) → mid ≡ old ++ of_each n f → new ≡ mid ++ f n → new ≡ old ++ of_each (n + 1) f
added_number f n old mid new e g =
    let s : n + 1 ≡ suc n = omega arith in
    rw s (g ∙ ap (λ l. l ++ f n) e ∙ append_assoc old (of_each n f) (f n))

-- what one more element gives was added
pub added_item : {X : Type 0} (f : X → List Finding) (k : ℕ) (xs : List X) (x : X) (old mid new : List Finding)
    → k < length xs → x ≡ get_or xs k x → mid ≡ old ++ flat_map f (take k xs) → new ≡ mid ++ f x → new ≡ old ++ flat_map f (take (k + 1) xs)
added_item f k xs x old mid new h i e g =
    rw (add-one, flat_map-take-suc f k xs x h i) (g ∙ ap (λ l. l ++ f x) e ∙ append_assoc old (flat_map f (take k xs)) (f x))
