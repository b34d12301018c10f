-- Being together joins each processor with `_CPC` to itself, both ways, and through a third.
use Rattle.std.proofs.Common.{◌≡◌, ◌==◌, ◌&&◌, ◌||◌, ℕ, Bool, true, false, List, Option, Some, None, refl, sym, ◌∙◌, subst, eqb-true, eq-eqb}
use Rattle.acpi_values.specs.declared.dependency.Dependency.{Dependency}
use Rattle.pw_plan.proofs.Lists.{and_both, and_first, and_second, or_left, or_right}
use Rattle.pw_cppc.specs.declared.parts.CppcParts.{CppcParts}
use Rattle.pw_cppc.specs.Parts.{has_cpc, parts_in}
use Rattle.pw_cppc.specs.Domains.{same_domain, together}

-- # Domains that are declared

same_back : (d e : Option Dependency) → same_domain d e ≡ true → same_domain e d ≡ true
same_back None e h = cc
same_back (Some d) None h = cc
same_back (Some d) (Some e) h = eq-eqb e.domain d.domain (sym (eqb-true d.domain e.domain h))

same_through : (d e f : Option Dependency) → same_domain d e ≡ true → same_domain e f ≡ true → same_domain d f ≡ true
same_through None e f h i = cc
same_through (Some d) None f h i = cc
same_through (Some d) (Some e) None h i = cc
same_through (Some d) (Some e) (Some f) h i = eq-eqb d.domain f.domain (eqb-true d.domain e.domain h ∙ eqb-true e.domain f.domain i)

module _ (ps : List CppcParts) where
  -- # The same processor, or a domain that both declare

  abbrev joined : ℕ → ℕ → Bool
  joined p q = (p == q) || same_domain (parts_in ps p).dependency (parts_in ps q).dependency

  joined_back : (p q : ℕ) → joined p q ≡ true → joined q p ≡ true
  joined_back p q h = step (p == q) refl h
    where
      step : (b : Bool) → (p == q) ≡ b → (b || same_domain (parts_in ps p).dependency (parts_in ps q).dependency) ≡ true → joined q p ≡ true
      step true e h = or_left (q == p) (same_domain (parts_in ps q).dependency (parts_in ps p).dependency) (eq-eqb q p (sym (eqb-true p q e)))
      step false e h = or_right (q == p) (same_domain (parts_in ps q).dependency (parts_in ps p).dependency) (same_back (parts_in ps p).dependency (parts_in ps q).dependency h)

  joined_through : (p q r : ℕ) → joined p q ≡ true → joined q r ≡ true → joined p r ≡ true
  joined_through p q r h i = step (p == q) (q == r) refl refl h i
    where
      step : (b c : Bool) → (p == q) ≡ b → (q == r) ≡ c → (b || same_domain (parts_in ps p).dependency (parts_in ps q).dependency) ≡ true
          → (c || same_domain (parts_in ps q).dependency (parts_in ps r).dependency) ≡ true → joined p r ≡ true
      step true c e f h j = subst (λ k. joined k r ≡ true) (sym (eqb-true p q e)) i
      step false true e f j k = subst (λ k. joined p k ≡ true) (eqb-true q r f) h
      step false false e f j k = or_right (p == r) (same_domain (parts_in ps p).dependency (parts_in ps r).dependency)
          (same_through (parts_in ps p).dependency (parts_in ps q).dependency (parts_in ps r).dependency j k)

  -- # Together

  pub together_first : (p q : ℕ) → together ps p q ≡ true → has_cpc ps p ≡ true
  together_first p q h = and_first (has_cpc ps p) (has_cpc ps q) (and_first (has_cpc ps p && has_cpc ps q) (joined p q) h)

  pub together_second : (p q : ℕ) → together ps p q ≡ true → has_cpc ps q ≡ true
  together_second p q h = and_second (has_cpc ps p) (has_cpc ps q) (and_first (has_cpc ps p && has_cpc ps q) (joined p q) h)

  are_joined : (p q : ℕ) → together ps p q ≡ true → joined p q ≡ true
  are_joined p q h = and_second (has_cpc ps p && has_cpc ps q) (joined p q) h

  all_three : (p q : ℕ) → has_cpc ps p ≡ true → has_cpc ps q ≡ true → joined p q ≡ true → together ps p q ≡ true
  all_three p q a b c = and_both (has_cpc ps p && has_cpc ps q) (joined p q) (and_both (has_cpc ps p) (has_cpc ps q) a b) c

  pub together_itself : (p : ℕ) → has_cpc ps p ≡ true → together ps p p ≡ true
  together_itself p h = all_three p p h h (or_left (p == p) (same_domain (parts_in ps p).dependency (parts_in ps p).dependency) (eq-eqb p p refl))

  pub together_back : (p q : ℕ) → together ps p q ≡ true → together ps q p ≡ true
  together_back p q h = all_three q p (together_second p q h) (together_first p q h) (joined_back p q (are_joined p q h))

  pub together_through : (p q r : ℕ) → together ps p q ≡ true → together ps q r ≡ true → together ps p r ≡ true
  together_through p q r h i = all_three p r (together_first p q h) (together_second q r i) (joined_through p q r (are_joined p q h) (are_joined q r i))
