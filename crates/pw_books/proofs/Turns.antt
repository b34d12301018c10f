-- Who has a turn, and what a step of one view does to it.
use Rattle.std.proofs.Common.{◌≡◌, ◌≢◌, ℕ, suc, ◌-◌, ◌<◌, ◌≤◌, List, [], ◌∷◌, ◌++◌, Bool, true, false, set, cond, eqb, eq-eqb, sym, refl, ap, ◌∙◌, arith}
use mathlib.Core.Option.{some}
use mathlib.Core.Logic.{dite}
use native.Mathlib.Decide.{ℕ_discrete}
use lib.ListN.{get_elem?}
use Rattle.pw_books.specs.Sums.{Named, as_number, names}
use Rattle.pw_books.proofs.Lists.{total-append, total-set, term_le, terms_le, total_some, one, none-of, names_zero, names_same, names_le, names_is}

abbrev none_at : Bool → ℕ
none_at b = cond b 0 0

nothing : (b : Bool) → none_at b ≡ 0
nothing true = refl
nothing false = refl

-- by the number of a view
module _ {V : Type 0} (num : V → ℕ) where
  as_own : (has : V → ℕ) (v : V) → as_number num (num v) has v ≡ has v
  as_own has v = ap (λ b. cond b (has v) 0) (eq-eqb (num v) (num v) refl)

  as_same : (has : V → ℕ) (n : ℕ) (v w : V) → num w ≡ num v → has w ≡ has v → as_number num n has w ≡ as_number num n has v
  as_same has n v w number same = ap (λ x. cond (eqb x n) (has w) 0) number ∙ ap (λ x. cond (eqb (num v) n) x 0) same

  pub as_none : (has : V → ℕ) (n : ℕ) (v : V) → has v ≡ 0 → as_number num n has v ≡ 0
  as_none has n v z = ap (λ x. cond (eqb (num v) n) x 0) z ∙ nothing (eqb (num v) n)

  -- who has it once, as the turn names it
  pub as_named : (has : V → ℕ) (n : ℕ) (v : V) → has v ≡ 1 → as_number num n has v ≡ names (suc (num v)) n
  as_named has n v o = ap (λ x. cond (eqb (num v) n) x 0) o ∙ dite (ℕ_discrete (num v) n)
      (λ s. one (num v) n s ∙ sym (one (suc (num v)) (suc n) (ap suc s)))
      (λ ne. none-of (num v) n ne ∙ sym (none-of (suc (num v)) (suc n) (λ s. ne (omega arith))))

  module _ (turn : ℕ) (has : V → ℕ) (views : List V) (named : Named num turn has views) where
    -- who has a turn is named by it
    pub turn_is : (j : ℕ) (v : V) → get_elem? views j ≡ some v → 0 < has v → turn ≡ suc (num v)
    turn_is j v at h = names_is turn (num v) (omega (arith, named (num v), term_le (as_number num (num v) has) views j v at, as_own has v))

    pub has_once : (j : ℕ) (v : V) → get_elem? views j ≡ some v → has v ≤ 1
    has_once j v at = omega (arith, names_le turn (num v), named (num v), term_le (as_number num (num v) has) views j v at, as_own has v)

    -- nobody has a free turn
    pub none_has : turn ≡ 0 → (j : ℕ) (v : V) → get_elem? views j ≡ some v → has v ≡ 0
    none_has free j v at = omega (arith, ap (λ x. names x (num v)) free, names_zero (num v), named (num v), term_le (as_number num (num v) has) views j v at, as_own has v)

    -- no turn has two holders
    pub one_has : (j k : ℕ) (v u : V) → k ≢ j → get_elem? views j ≡ some v → get_elem? views k ≡ some u → 0 < has v → has u ≡ 0
    one_has j k v u ne at there h = dite (ℕ_discrete (has u) 0) (λ z. z) (λ more.
        let a = turn_is j v at h in let b = turn_is k u there (omega arith) in
        let same : num u ≡ num v = omega arith in
        let two : as_number num (num v) has u ≡ has u = ap (λ b. cond b (has u) 0) (eq-eqb (num u) (num v) same) in
        absurd (omega (arith, names_le turn (num v), named (num v), terms_le (as_number num (num v) has) views j k v u ne at there, as_own has v)))

    -- a turn that isn't free has a holder
    pub holder : turn ≢ 0 → (k : ℕ) × (u : V) × (get_elem? views k ≡ some u) × (0 < has u) × (turn ≡ suc (num u))
    holder ne =
        let n : ℕ = turn - 1 in let is : turn ≡ suc n = omega arith in
        let r = total_some (as_number num n has) views (omega (arith, named n, ap (λ x. names x n) is, names_same n)) in
        let h = some_held (eqb (num r.1) n) (has r.1) r.3 in
        (r.0, r.1, r.2, h, turn_is r.0 r.1 r.2 h)
      where
        some_held : (b : Bool) (k : ℕ) → 0 < cond b k 0 → 0 < k
        some_held true k h = h
        some_held false k h = absurd (omega arith)

    -- # The view v at j becomes w

    pub stays : (j : ℕ) (v w : V) → get_elem? views j ≡ some v → num w ≡ num v → has w ≡ has v → Named num turn has (set views j w)
    stays j v w at number same n = omega (arith, total-set (as_number num n has) views j v w at, named n, as_same has n v w number same)

    pub gains : (j : ℕ) (v w : V) → get_elem? views j ≡ some v → num w ≡ num v → turn ≡ 0 → has w ≡ 1
        → Named num (suc (num v)) has (set views j w)
    gains j v w at number free now n =
        let before = none_has free j v at in
        omega (arith, total-set (as_number num n has) views j v w at, named n, as_none has n v before, as_named has n w now, ap (λ x. names (suc x) n) number, ap (λ x. names x n) free, names_zero n)

    pub loses : (j : ℕ) (v w : V) → get_elem? views j ≡ some v → 0 < has v → has w ≡ 0 → Named num 0 has (set views j w)
    loses j v w at had now n =
        let before : has v ≡ 1 = omega (arith, has_once j v at, had) in let is = turn_is j v at had in
        omega (arith, total-set (as_number num n has) views j v w at, named n, as_none has n w now, as_named has n v before, ap (λ x. names x n) is, names_zero n)

    -- one more view, which doesn't have it
    pub one_more : (w : V) → has w ≡ 0 → Named num turn has (views ++ w ∷ [])
    one_more w z n = omega (arith, total-append (as_number num n has) views (w ∷ []), named n, as_none has n w z)
