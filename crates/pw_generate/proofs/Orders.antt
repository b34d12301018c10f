-- What requests leave, and how many are answered in a way, depends on each processor's own ones alone.
use Rattle.std.proofs.Common.{◌≡◌, ◌≢◌, ◌==◌, ◌+◌, ℕ, Bool, true, false, cond, List, [], ◌∷◌, refl, ap, sym, ◌∙◌, inl, inr, arith, eqb-true, eq-eqb, ne_eqb}
use Rattle.std.proofs.lemmas.Bool.{cases_eq, eqb-false}
use Rattle.pw_plan.specs.declared.plan.Plan.{Plan}
use Rattle.pw_plan.specs.declared.request.Request.{Request}
use Rattle.pw_plan.specs.Requests.{cpu_of}
use Rattle.pw_model.specs.declared.state.State.{State}
use Rattle.pw_model.specs.Answers.{after}
use Rattle.pw_notice.specs.Limits.{made_from, own}
use Rattle.pw_script.specs.Completing.{without_first}
use Rattle.pw_script.specs.HistoryText.{power_words}
use Rattle.pw_history.proofs.Firsts.{without-other, without-same}
use Rattle.pw_generate.proofs.Apart.{after-turns}

-- a number of each request, added up
abbrev pub total : Plan → (State → Request → ℕ) → State → List Request → ℕ
total P out S [] = 0
total P out S (q ∷ qs) = out S q + total P out (after P S q) qs

-- one that a request of another processor doesn't change
abbrev pub IsKept : Plan → (State → Request → ℕ) → Type 0
IsKept P out = (S : State) (q r : Request) → cpu_of q ≢ cpu_of r → out (after P S q) r ≡ out S r

-- these requests have the same of each processor
abbrev pub SameOwn : List Request → List Request → Type 0
SameOwn qs rs = (p : ℕ) → own p qs ≡ own p rs

first-has : (k : ℕ) (qs : List Request) (q : Request) (rest : List Request) → own k qs ≡ q ∷ rest → cpu_of q ≡ k
first-has k [] q rest e = cc
first-has k (r ∷ qs) q rest e = step (cpu_of r == k) refl e (first-has k qs q rest)
  where
    step : (b : Bool) → (cpu_of r == k) ≡ b → cond b (r ∷ own k qs) (own k qs) ≡ q ∷ rest → (own k qs ≡ q ∷ rest → cpu_of q ≡ k)
        → cpu_of q ≡ k
    step true h e later = let same : r ≡ q = cc in ap cpu_of (sym same) ∙ eqb-true (cpu_of r) k h
    step false h e later = later e

none-left : (qs : List Request) → SameOwn [] qs → qs ≡ []
none-left [] h = refl
none-left (q ∷ qs) h =
    let found : (cpu_of q == cpu_of q) ≡ true = eq-eqb (cpu_of q) (cpu_of q) refl in
    let e : [] ≡ q ∷ own (cpu_of q) qs = rw found at (h (cpu_of q)) in
    cc

-- # A processor's first request may as well be made at once

module _ (P : Plan) where
  first_made : (k : ℕ) (qs : List Request) (S : State) (q : Request) (rest : List Request) → own k qs ≡ q ∷ rest
      → made_from P S qs ≡ made_from P (after P S q) (without_first k qs)
  first_made k [] S q rest e = cc
  first_made k (r ∷ qs) S q rest e = step (cpu_of r == k) refl e (first_made k qs (after P S r) q rest)
    where
      step : (b : Bool) → (cpu_of r == k) ≡ b → cond b (r ∷ own k qs) (own k qs) ≡ q ∷ rest
          → (own k qs ≡ q ∷ rest → made_from P (after P S r) qs ≡ made_from P (after P (after P S r) q) (without_first k qs))
          → made_from P (after P S r) qs ≡ made_from P (after P S q) (cond b qs (r ∷ without_first k qs))
      step true h e later = let same : r ≡ q = cc in ap (λ x. made_from P (after P S x) qs) same
      step false h e later =
          let ne : cpu_of r ≢ cpu_of q = λ is. eqb-false (cpu_of r) k h (is ∙ first-has k qs q rest e) in
          later e ∙ ap (λ T. made_from P T (without_first k qs)) (after-turns P S r q ne)

  first_total : (out : State → Request → ℕ) → IsKept P out → (k : ℕ) (qs : List Request) (S : State) (q : Request) (rest : List Request)
      → own k qs ≡ q ∷ rest → total P out S qs ≡ out S q + total P out (after P S q) (without_first k qs)
  first_total out kept k [] S q rest e = cc
  first_total out kept k (r ∷ qs) S q rest e = step (cpu_of r == k) refl e (first_total out kept k qs (after P S r) q rest)
    where
      step : (b : Bool) → (cpu_of r == k) ≡ b → cond b (r ∷ own k qs) (own k qs) ≡ q ∷ rest
          → (own k qs ≡ q ∷ rest
          → total P out (after P S r) qs ≡ out (after P S r) q + total P out (after P (after P S r) q) (without_first k qs))
          → out S r + total P out (after P S r) qs ≡ out S q + total P out (after P S q) (cond b qs (r ∷ without_first k qs))
      step true h e later = let same : r ≡ q = cc in ap (λ x. out S x + total P out (after P S x) qs) same
      step false h e more =
          let is : cpu_of q ≡ k = first-has k qs q rest e in
          let ne : cpu_of r ≢ cpu_of q = λ same. eqb-false (cpu_of r) k h (same ∙ is) in
          let later = more e in
          let left : State → ℕ = λ T. total P out T (without_first k qs) in
          let turned : left (after P (after P S r) q) ≡ left (after P (after P S q) r) = ap left (after-turns P S r q ne) in
          let a : out (after P S r) q ≡ out S q = kept S r q ne in
          let b : out (after P S q) r ≡ out S r = kept S q r (λ same. ne (sym same)) in
          omega (arith, later, turned, a, b)

  -- # Where two lists have the same requests of each processor

  rest_same : (q : Request) (qs rs : List Request) → SameOwn (q ∷ qs) rs → SameOwn qs (without_first (cpu_of q) rs)
  rest_same q qs rs h p = elim (cases_eq (cpu_of q) p) [
    | inl is ↦
        let found : (cpu_of q == p) ≡ true = eq-eqb (cpu_of q) p is in
        let e : q ∷ own p qs ≡ own p rs = rw found at (h p) in
        rw is (sym (without-same power_words p rs q (own p qs) (sym e)))
    | inr ne ↦
        let other : (cpu_of q == p) ≡ false = ne_eqb (cpu_of q) p ne in
        let e : own p qs ≡ own p rs = rw other at (h p) in
        e ∙ sym (without-other power_words (cpu_of q) p rs ne)
  ]

  first_same : (q : Request) (qs rs : List Request) → SameOwn (q ∷ qs) rs → own (cpu_of q) rs ≡ q ∷ own (cpu_of q) qs
  first_same q qs rs h =
      let found : (cpu_of q == cpu_of q) ≡ true = eq-eqb (cpu_of q) (cpu_of q) refl in
      sym (rw found at (h (cpu_of q)))

  pub same-made : (qs rs : List Request) (S : State) → SameOwn qs rs → made_from P S qs ≡ made_from P S rs
  same-made [] rs S h = ap (made_from P S) (sym (none-left rs h))
  same-made (q ∷ qs) rs S h =
      same-made qs (without_first (cpu_of q) rs) (after P S q) (rest_same q qs rs h)
      ∙ sym (first_made (cpu_of q) rs S q (own (cpu_of q) qs) (first_same q qs rs h))

  pub same-total : (out : State → Request → ℕ) → IsKept P out → (qs rs : List Request) (S : State) → SameOwn qs rs
      → total P out S qs ≡ total P out S rs
  same-total out kept [] rs S h = ap (total P out S) (sym (none-left rs h))
  same-total out kept (q ∷ qs) rs S h =
      ap (λ n. out S q + n) (same-total out kept qs (without_first (cpu_of q) rs) (after P S q) (rest_same q qs rs h))
      ∙ sym (first_total out kept (cpu_of q) rs S q (own (cpu_of q) qs) (first_same q qs rs h))
