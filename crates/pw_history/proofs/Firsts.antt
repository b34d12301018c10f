-- The requests of one processor, and those without its first.
use Rattle.std.proofs.Common.{◌≡◌, ◌≢◌, ◌<◌, ◌≤◌, ◌==◌, ℕ, Bool, true, false, cond, List, [], ◌∷◌, ◌++◌, refl, ap, sym, ◌∙◌, subst, arith, eqb-true, ne_eqb}
use Rattle.std.specs.List.{AllByRecursion}
use Rattle.std.proofs.lemmas.List.{map-append}
use Rattle.std.proofs.lemmas.List.Elements.{filter-append}
use Rattle.pw_history.specs.Wording.{Wording}
use Rattle.pw_history.specs.Asked.{own, requests, without_first}
use Rattle.pw_history.specs.Telling.{EntriesFit}

module _ {P Q A E S : Type 0} (W : Wording P Q A E S) where
  -- # The requests of one processor

  pub own-append : (p : ℕ) (es fs : List E) → own W p (requests W (es ++ fs)) ≡ own W p (requests W es) ++ own W p (requests W fs)
  own-append p es fs = ap (own W p) (map-append W.kind.request es fs) ∙ filter-append (λ q. W.cpu q == p) (requests W es) (requests W fs)

  -- a processor that isn't one of the plan's has none
  pub own-none : (n p : ℕ) (qs : List Q) → AllByRecursion (λ q. W.cpu q < n) qs → n ≤ p → own W p qs ≡ []
  own-none n p [] has past = refl
  own-none n p (q ∷ qs) has past =
      let lt = has.0 in
      let other : (W.cpu q == p) ≡ false = ne_eqb (W.cpu q) p (λ same. absurd (omega (arith, lt, same))) in
      rw other (own-none n p qs has.1 past)

  requests_within : {plan : P} → EntriesFit W plan → (es : List E) → AllByRecursion (W.kind.IsEntry plan) es → AllByRecursion (λ q. W.cpu q < W.cpus plan) (requests W es)
  requests_within fit [] is = tt
  requests_within {plan = plan} fit (e ∷ es) is = (subst (λ c. c < W.cpus plan) (sym (fit.asker e)) (fit.within e is.0), requests_within fit es is.1)

  pub own-past : {plan : P} → EntriesFit W plan → (es : List E) (p : ℕ) → AllByRecursion (W.kind.IsEntry plan) es → W.cpus plan ≤ p → own W p (requests W es) ≡ []
  own-past {plan = plan} fit es p is past = own-none (W.cpus plan) p (requests W es) (requests_within fit es is) past

  -- # Without the first of a processor

  pub without-same : (k : ℕ) (qs : List Q) (q : Q) (rest : List Q) → own W k qs ≡ q ∷ rest → own W k (without_first W k qs) ≡ rest
  without-same k [] q rest e = cc
  without-same k (r ∷ qs) q rest e = step (W.cpu r == k) refl e (without-same k qs q rest)
    where
      step : (b : Bool) → (W.cpu r == k) ≡ b → cond b (r ∷ own W k qs) (own W k qs) ≡ q ∷ rest → (own W k qs ≡ q ∷ rest → own W k (without_first W k qs) ≡ rest)
          → own W k (cond b qs (r ∷ without_first W k qs)) ≡ rest
      step true h e later = cc
      step false h e later = rw h (later e)

  pub without-other : (k p : ℕ) (qs : List Q) → k ≢ p → own W p (without_first W k qs) ≡ own W p qs
  without-other k p [] ne = refl
  without-other k p (r ∷ qs) ne = step (W.cpu r == k) refl (without-other k p qs ne)
    where
      step : (b : Bool) → (W.cpu r == k) ≡ b → own W p (without_first W k qs) ≡ own W p qs
          → own W p (cond b qs (r ∷ without_first W k qs)) ≡ cond (W.cpu r == p) (r ∷ own W p qs) (own W p qs)
      step true h later =
          let other : (W.cpu r == p) ≡ false = ne_eqb (W.cpu r) p (λ is. ne (sym (eqb-true (W.cpu r) k h) ∙ is)) in
          rw other refl
      step false h later = rw later refl
