-- Who is not drawn along: where a vote brings no domain of its processor to be gathered, nobody else's C state rises.
use Rattle.std.proofs.Common.{◌≡◌, ◌≢◌, ◌≤◌, ◌==◌, ◌&&◌, ◌||◌, not, ℕ, Bool, true, false, cond, List, [], ◌∷◌, refl, ap, sym, ◌∙◌, inl, inr, arith, nat_le, nat_lt}
use Rattle.std.specs.Prelude.{filter}
use Rattle.std.specs.List.{list_all, list_any}
use Rattle.std.proofs.lemmas.Bool.{cases_lt}
use Rattle.std.proofs.lemmas.Bool.Decides.{nat_tests}
use Rattle.pw_plan.specs.declared.domain.Domain.{Domain}
use Rattle.pw_plan.specs.declared.domain.DomainKind.TheVariants.{Idle}
use Rattle.pw_plan.specs.declared.plan.Plan.{Plan}
use Rattle.pw_plan.specs.Covering.{covers}
use Rattle.pw_plan.specs.Groups.{has_member, is_software}
use Rattle.pw_plan.proofs.Lists.{and_both, and_first, and_second, or_first, or_second}
use Rattle.pw_model.specs.Containers.{greatest}
use Rattle.pw_model.specs.Domains.{governs, state_of}
use Rattle.pw_model.proofs.Greatest.{greatest-le, greatest-most, greatest-passes}

-- each processor votes for its state in f before, and in g after; p alone may vote for another one
module _ (P : Plan) (f g : ℕ → ℕ) (p : ℕ) (same : (r : ℕ) → r ≢ p → g r ≡ f r) where
  abbrev votes_for : (ℕ → ℕ) → Domain → Bool
  votes_for h d = list_all (λ q. nat_le (state_of d) (h q)) d.members

  abbrev enters : (ℕ → ℕ) → ℕ → ℕ → Bool
  enters h q j = list_all (λ d. not (governs q j d) || votes_for h d) P.domains

  abbrev comes : Domain → Bool
  comes d = (covers Idle p d && is_software d.coord) && (nat_le (f p) d.index && votes_for g d)

  differ : (m : ℕ) → (m == p) ≡ false → m ≢ p
  differ m e = grind (arith, nat_tests)

  alone : (a b : Bool) → (a && b) ≡ false → b ≡ true → a ≡ false
  alone false b none e = refl
  alone true b none e = cc

  voted : (s : ℕ) (ms : List ℕ) → (has_member ms p ≡ true → s ≤ f p) → list_all (λ q. nat_le s (g q)) ms ≡ true → list_all (λ q. nat_le s (f q)) ms ≡ true
  voted s [] h e = refl
  voted s (m ∷ ms) h e =
      let rest = voted s ms (λ there. h (later (m == p) there)) (and_second (nat_le s (g m)) (list_all (λ q. nat_le s (g q)) ms) e) in
      and_both (nat_le s (f m)) (list_all (λ q. nat_le s (f q)) ms) (first (m == p) refl (and_first (nat_le s (g m)) (list_all (λ q. nat_le s (g q)) ms) e)) rest
    where
      later : (b : Bool) → has_member ms p ≡ true → (b || has_member ms p) ≡ true
      later true there = refl
      later false there = there

      first : (b : Bool) → (m == p) ≡ b → nat_le s (g m) ≡ true → nat_le s (f m) ≡ true
      first false is passes = ap (nat_le s) (sym (same m (differ m is))) ∙ passes
      first true is passes =
          let one : m ≡ p = grind (arith, nat_tests) in
          let low : s ≤ f p = h (rw is refl) in
          let here : nat_le s (f p) ≡ true = grind (arith, nat_tests) in
          ap (λ r. nat_le s (f r)) one ∙ here

  entered : (q j : ℕ) (d : Domain) → comes d ≡ false → (not (governs q j d) || votes_for g d) ≡ true → (not (governs q j d) || votes_for f d) ≡ true
  entered q j d none = by (governs q j d) refl
    where
      by : (b : Bool) → governs q j d ≡ b → (not b || votes_for g d) ≡ true → (not b || votes_for f d) ≡ true
      by false is e = refl
      by true is e = voted (state_of d) d.members low e
        where
          first : (covers Idle q d && is_software d.coord) ≡ true
          first = and_first (covers Idle q d && is_software d.coord) (state_of d == j) is

          low : has_member d.members p ≡ true → state_of d ≤ f p
          low there =
              let covered : covers Idle p d ≡ true = and_both _ (has_member d.members p) (and_first _ (has_member d.members q) (and_first (covers Idle q d) (is_software d.coord) first)) there in
              let reached : (nat_le (f p) d.index && votes_for g d) ≡ false = rw (covered, and_second (covers Idle q d) (is_software d.coord) first) at none in
              let above : nat_le (f p) d.index ≡ false = alone (nat_le (f p) d.index) (votes_for g d) reached e in
              grind (arith, nat_tests)

  entered_all : (q j : ℕ) (ds : List Domain) → list_any comes ds ≡ false → list_all (λ d. not (governs q j d) || votes_for g d) ds ≡ true
      → list_all (λ d. not (governs q j d) || votes_for f d) ds ≡ true
  entered_all q j [] none e = refl
  entered_all q j (d ∷ ds) none e =
      let rest = list_all (λ d. not (governs q j d) || votes_for g d) ds in
      and_both (not (governs q j d) || votes_for f d) (list_all (λ d. not (governs q j d) || votes_for f d) ds)
      (entered q j d (or_first (comes d) (list_any comes ds) none) (and_first (not (governs q j d) || votes_for g d) rest e))
      (entered_all q j ds (or_second (comes d) (list_any comes ds) none) (and_second (not (governs q j d) || votes_for g d) rest e))

  not_risen : list_any comes P.domains ≡ false → (q : ℕ) → q ≢ p → greatest (enters g q) (g q) ≤ greatest (enters f q) (f q)
  not_risen none q other = elim (cases_lt 0 (greatest (enters g q) (g q))) [
    | inl lt ↦
        let after = greatest (enters g q) (g q) in
        let le = greatest-le (enters g q) (g q) in
        let own = same q other in
        let most : after ≤ f q = omega (arith, le, own) in
        greatest-most (enters f q) (f q) after most (entered_all q after P.domains none (greatest-passes (enters g q) (g q) lt))
    | inr ge ↦ omega (arith, ge)
  ]

  abbrev drawn : (ℕ → Bool) → ℕ → Bool
  drawn draws q = not (q == p) && (nat_lt (greatest (enters f q) (f q)) (greatest (enters g q) (g q)) && draws q)

  pub nobody_drawn : (draws : ℕ → Bool) (ms : List ℕ) → list_any comes P.domains ≡ false → filter (drawn draws) ms ≡ []
  nobody_drawn draws [] none = refl
  nobody_drawn draws (m ∷ ms) none = step (m == p) refl (nobody_drawn draws ms none)
    where
      step : (b : Bool) → (m == p) ≡ b → filter (drawn draws) ms ≡ []
          → cond (not b && (nat_lt (greatest (enters f m) (f m)) (greatest (enters g m) (g m)) && draws m)) (m ∷ filter (drawn draws) ms) (filter (drawn draws) ms) ≡ []
      step true is e = e
      step false is e =
          let low = not_risen none m (differ m is) in
          let stays : nat_lt (greatest (enters f m) (f m)) (greatest (enters g m) (g m)) ≡ false = grind (arith, nat_tests, low) in
          rw stays e
