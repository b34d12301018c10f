-- Each list of a run's steps stays in a seat's keeping.
use Rattle.std.proofs.Common.{◌≡◌, ℕ, zero, suc, ◌+◌, ◌<◌, ◌≤◌, List, [], ◌∷◌, ◌++◌, length, set, cond, eq-eqb, ne_eqb, sym, refl, ap, ◌∙◌, arith}
use Rattle.std.proofs.lemmas.List.{length-append, length-set}
use mathlib.Core.Option.{some}
use mathlib.Core.Logic.{dite}
use native.Mathlib.Decide.{ℕ_discrete}
use lib.ListN.{get_elem?}
use Rattle.pw_books.specs.Runs.{Steps, Turning}
use Rattle.pw_books.specs.Sums.{total}
use Rattle.pw_books.specs.Tracks.{AreKept, did, fresh, in_keeping, lists_from, steps_of, took_over}
use Rattle.pw_books.specs.declared.track.Track.{Track}
use Rattle.pw_books.proofs.Lists.{elem_below, total-append, total-set}
use Rattle.pw_books.proofs.Running.{Grows, Run, never_fewer, steps_here, steps_there}

nil_lists : (V : Type 0) {K : Type 0} (own_kind : K → K) (i n : ℕ) → total (length {A = K}) (lists_from {V = V} own_kind [] i n) ≡ 0
nil_lists V own_kind i zero = refl
nil_lists V own_kind i (suc n) = omega (arith, nil_lists V own_kind (suc i) n)

module _ {V K : Type 0} (own_kind : K → K) where
  -- # The lists of a run by places

  module _ (f : List K → ℕ) where
    -- after a step at an earlier place
    step_before : (run : Run V K) (j : ℕ) (v : V) (k : K) (i n : ℕ) → j < i
        → total f (lists_from own_kind (run ++ (j, v, k) ∷ []) i n) ≡ total f (lists_from own_kind run i n)
    step_before run j v k i zero low = refl
    step_before run j v k i (suc n) low = omega (
      arith,
      ap f (steps_there own_kind run j i v k (λ e. omega (arith, low, e))),
      step_before run j v k (suc i) n (omega (arith, low)),
    )

    -- after a step at one of them
    step_within : (run : Run V K) (j : ℕ) (v : V) (k : K) (i n : ℕ) → i ≤ j → j < i + n
        → total f (lists_from own_kind (run ++ (j, v, k) ∷ []) i n) + f (steps_of own_kind j run)
        ≡ total f (lists_from own_kind run i n) + f (steps_of own_kind j run ++ own_kind k ∷ [])
    step_within run j v k i zero from to = absurd (omega (arith, from, to))
    step_within run j v k i (suc n) from to = dite (ℕ_discrete i j)
        (λ e. omega (
          arith,
          ap (λ i. f (steps_of own_kind i (run ++ (j, v, k) ∷ []))) e,
          ap (λ i. f (steps_of own_kind i run)) e,
          ap f (steps_here own_kind run j v k),
          step_before run j v k (suc i) n (omega (arith, e)),
        ))
        (λ ne. omega (
          arith,
          ap f (steps_there own_kind run j i v k (λ e. ne (sym e))),
          step_within run j v k (suc i) n (omega (arith, from, ne)) (omega (arith, to)),
        ))

    -- with one place more
    place_more : (run : Run V K) (i n j : ℕ) → j ≡ i + n
        → total f (lists_from own_kind run i (suc n)) ≡ total f (lists_from own_kind run i n) + f (steps_of own_kind j run)
    place_more run i zero j is = omega (arith, ap (λ k. f (steps_of own_kind k run)) (let e : j ≡ i = omega (arith, is) in e))
    place_more run i (suc n) j is = omega (arith, place_more run (suc i) n j (omega (arith, is)))

  -- # What the seats have

  module _ (run : Run V K) (ts : List (Track V K)) (all : AreKept own_kind run ts) (id : ℕ) (x : Track V K) (at : get_elem? ts id ≡ some x)
      (own : x.own ≡ steps_of own_kind id run) (v : V) where
    kept_in : (k : K) (n : ℕ) → n ≡ length ts → (f : List K → ℕ) → f [] ≡ 0
        → total f (lists_from own_kind (run ++ (id, v, k) ∷ []) 0 n) + f x.own ≡ total (in_keeping f) ts + f (x.own ++ own_kind k ∷ [])
    kept_in k n same f none =
        let low = elem_below ts id x at in
        omega (
          arith,
          step_within f run id v k 0 n (omega arith) (omega (arith, low, same)),
          all f none,
          ap (λ n. total f (lists_from own_kind run 0 n)) same,
          ap f own,
          ap (λ l. f (l ++ own_kind k ∷ [])) own,
        )

    -- where one takes a step
    pub kept_more : (k : K) (w : V) → AreKept own_kind (run ++ (id, v, k) ∷ []) (set ts id (did own_kind k w x))
    kept_more k w f none = omega (
      arith,
      kept_in k (length (set ts id (did own_kind k w x))) (length-set ts id (did own_kind k w x)) f none,
      total-set (in_keeping f) ts id x (did own_kind k w x) at,
    )

    -- where one is split, and the new seat, at the next place, took none
    pub kept_split : (k : K) (left right : V) → steps_of own_kind (length ts) (run ++ (id, v, k) ∷ []) ≡ []
        → AreKept own_kind (run ++ (id, v, k) ∷ []) (set ts id (did own_kind k left x) ++ fresh right ∷ [])
    kept_split k left right past f none =
        let ls = set ts id (did own_kind k left x) in let after : Run V K = run ++ (id, v, k) ∷ [] in
        let wide : length (ls ++ fresh right ∷ []) ≡ suc (length ts) =
        omega (arith, length-append ls (fresh right ∷ []), length-set ts id (did own_kind k left x)) in
        let last : f (steps_of own_kind (length ts) after) ≡ 0 = ap f past ∙ none in
        omega (
          arith,
          ap (λ n. total f (lists_from own_kind after 0 n)) wide,
          place_more f after 0 (length ts) (length ts) (omega arith),
          last,
          none,
          kept_in k (length ts) refl f none,
          total-set (in_keeping f) ts id x (did own_kind k left x) at,
          total-append (in_keeping f) ls (fresh right ∷ []),
        )

    -- where another is joined into it
    pub kept_joined : (k mine : K) → own_kind k ≡ own_kind mine → (both spent : V) (other : ℕ) (y : Track V K)
        → get_elem? (set ts id (took_over own_kind mine both x y)) other ≡ some y
        → AreKept own_kind (run ++ (id, v, k) ∷ []) (set (set ts id (took_over own_kind mine both x y)) other (fresh spent))
    kept_joined k mine same both spent other y there f none =
        let joined = took_over own_kind mine both x y in let ls = set ts id joined in
        omega (
          arith,
          kept_in k (length (set ls other (fresh spent))) (length-set ls other (fresh spent) ∙ length-set ts id joined) f none,
          ap (λ k. f (x.own ++ k ∷ [])) same,
          total-set (in_keeping f) ts id x joined at,
          total-set (in_keeping f) ls other y (fresh spent) there,
          total-append f x.kept (y.own ∷ y.kept),
          none,
        )

  -- # How many steps there are

  module _ (s : ℕ × V × K) (ss : Run V K) where
    -- a first step at an earlier place
    first_before : (i n : ℕ) → s.0 < i → total (length {A = K}) (lists_from own_kind (s ∷ ss) i n) ≡ total (length {A = K}) (lists_from own_kind ss i n)
    first_before i zero low = refl
    first_before i (suc n) low = omega (
      arith,
      ap (λ b. length (cond b (own_kind s.2 ∷ steps_of own_kind i ss) (steps_of own_kind i ss))) (ne_eqb s.0 i (λ e. omega (arith, low, e))),
      first_before (suc i) n (omega (arith, low)),
    )

    -- or at one of them
    first_within : (i n : ℕ) → i ≤ s.0 → s.0 < i + n
        → total (length {A = K}) (lists_from own_kind (s ∷ ss) i n) ≡ total (length {A = K}) (lists_from own_kind ss i n) + 1
    first_within i zero from to = absurd (omega (arith, from, to))
    first_within i (suc n) from to = dite (ℕ_discrete s.0 i)
        (λ e. omega (
          arith,
          ap (λ b. length (cond b (own_kind s.2 ∷ steps_of own_kind i ss) (steps_of own_kind i ss))) (eq-eqb s.0 i e),
          first_before (suc i) n (omega (arith, e)),
        ))
        (λ ne. omega (
          arith,
          ap (λ b. length (cond b (own_kind s.2 ∷ steps_of own_kind i ss) (steps_of own_kind i ss))) (ne_eqb s.0 i ne),
          first_within (suc i) n (omega (arith, from, ne)) (omega (arith, to)),
        ))

  -- each step is at a place that there is
  module _ {M : Type 0} (T : Turning M V K) (grows : Grows T) where
    pub all_placed : (m : M) (run : Run V K) (n : M) (w : ℕ) → Steps T m run n → length (T.views n) ≤ w
        → total (length {A = K}) (lists_from own_kind run 0 w) ≡ length run
    all_placed m [] n w e le = nil_lists V own_kind 0 w
    all_placed m (s ∷ ss) n w st le = omega (
      arith,
      first_within s ss 0 w (omega arith) (omega (arith, elem_below (T.views m) s.0 s.1 st.0, never_fewer T grows m (s ∷ ss) n st, le)),
      all_placed (T.after m s.0 s.1 s.2) ss n w st.2 le,
    )
