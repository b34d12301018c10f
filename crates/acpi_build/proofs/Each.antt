-- Loops that make one thing after the other.
use Rattle.std.proofs.Common.{◌≡◌, ℕ, ◌+◌, ◌<◌, List, [], ◌∷◌, ◌++◌, length, drop, get_or, Result, Ok, Err, append_assoc, drop-cons, suc, sym, ap, subst, ◌∙◌, arith}
use Rattle.std.proofs.Common.{inl, inr}
use Rattle.std.proofs.lemmas.Bool.{cases_lt}
use Rattle.std.proofs.lemmas.List.{get_or_append_left, length_push}
use Rattle.std.proofs.Math.Seq.{get_or-append_seam}
use Rattle.pw_base.specs.declared.failure.Memory.{Memory}
use Rattle.acpi_build.specs.declared.said.Said.{Said}
use Rattle.acpi_build.specs.Building.{◌>>=◌, Build, Made, Remarks, after, built, each}
use Rattle.acpi_build.specs.inner.Answers.{Builds, remarks_in}

-- what is made, with others in front
abbrev pub ahead : {A : Type 0} → List A → Made (List A) → Made (List A)
ahead front (built made remarks) = built (front ++ made) remarks

ahead_more : {A : Type 0} (front : List A) (x : A) (made : Made (List A))
    → ahead (front ++ x ∷ []) made ≡ ahead front (after made (λ ys remarks. built (x ∷ ys) remarks))
ahead_more front x (built made remarks) = ap (λ ys. built ys remarks) (append_assoc front (x ∷ []) made)

pub rest_from : {X : Type 0} (xs : List X) (i : ℕ) (x : X) → i < length xs → x ≡ get_or xs i x → drop i xs ≡ x ∷ drop (i + 1) xs
rest_from xs i x lt is =
    let next : suc i ≡ i + 1 = omega arith in
    let cons : drop i xs ≡ get_or xs i x ∷ drop (i + 1) xs = subst (λ n. drop i xs ≡ get_or xs i x ∷ drop n xs) next (drop-cons xs i x lt) in
    cons ∙ ap (λ o. o ∷ drop (i + 1) xs) (sym is)

-- one more is made
pub each_step : {X A : Type 0} (f : X → Build A) (front : List A) (xs : List X) (i : ℕ) (x : X) (y : A) (old new : Remarks) → i < length xs → x ≡ get_or xs i x
    → f x old ≡ built y new → ahead (front ++ y ∷ []) (each f (drop (i + 1) xs) new) ≡ ahead front (each f (drop i xs) old)
each_step f front xs i x y old new lt is e = rw (rest_from xs i x lt is, e) (ahead_more front y (each f (drop (i + 1) xs) new))

-- what comes after something that is made
pub builds_on : {X Y A : Type 0} (view : X → Y) (r : Result X Memory) (old mid new : Said) (m : Build A) (f : A → Build Y) (x : A) → m (remarks_in old) ≡ built x (remarks_in mid)
    → Builds view r mid new (f x) → Builds view r old new (m >>= f)
builds_on view (Ok y) old mid new m f x e h = ap (λ made. after made f) e ∙ h
builds_on view (Err memory) old mid new m f x e h = tt

-- one element more
pub index_push : {X : Type 0} (P : ℕ → X → Type 0) (xs : List X) (y d : X) → ((n : ℕ) → n < length xs → P n (get_or xs n d)) → P (length xs) y
    → (n : ℕ) → n < length (xs ++ y ∷ []) → P n (get_or (xs ++ y ∷ []) n d)
index_push P xs y d each here n l = elim (cases_lt n (length xs)) [
  | inl below ↦ rw (get_or_append_left xs (y ∷ []) d n below) (each n below)
  | inr past ↦ let size = length_push xs y in let e : n ≡ length xs = omega arith in rw (e, get_or-append_seam xs y [] d) here
]
