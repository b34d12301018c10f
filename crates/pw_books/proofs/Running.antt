-- A run with one more step, and the steps that a seat took in it.
use Rattle.std.proofs.Common.{◌≡◌, ◌≢◌, ◌⊎◌, ⊎_elim, ℕ, zero, suc, ◌≤◌, List, [], ◌∷◌, ◌++◌, Bool, true, false, length, map, set}
use Rattle.std.proofs.Common.{cond, eqb, eq-eqb, ne_eqb, sym, refl, ap, ◌∙◌, subst, arith}
use Rattle.std.proofs.lemmas.List.{length-append, length-set}
use mathlib.Core.Option.{some}
use lib.ListN.{get_elem?}
use Rattle.pw_books.specs.Runs.{Steps, Turning}
use Rattle.pw_books.specs.Tracks.{steps_of}
use Rattle.pw_books.proofs.Lists.{both_each, elem_below, more_each, set_each}

abbrev pub Run : Type 0 → Type 0 → Type 0
Run V K = List (ℕ × V × K)

-- no seat's place goes
abbrev pub Grows : {M V K : Type 0} → Turning M V K → Type 0
Grows {M = M} {V = V} {K = K} T = (m : M) (j : ℕ) (v : V) (k : K) → length (T.views m) ≤ length (T.views (T.after m j v k))

-- How a step changes the views: it sets its seat's, and besides it may put one behind them or set another, which is such a one.
abbrev pub Changes : {V : Type 0} → (V → Type 0) → List V → ℕ → List V → Type 0
Changes {V = V} Such vs j ws =
    ((w : V) × (ws ≡ set vs j w)) ⊎ (((w : V) × (r : V) × Such r × (ws ≡ set vs j w ++ r ∷ [])) ⊎ ((w : V) × (r : V) × (k : ℕ) × Such r × (ws ≡ set (set vs j w) k r)))

module _ {V : Type 0} (Such : V → Type 0) (vs : List V) (j : ℕ) (ws : List V) (c : Changes Such vs j ws) where
  pub never_narrow : length vs ≤ length ws
  never_narrow = ⊎_elim
      (λ (a : (w : V) × (ws ≡ set vs j w)). omega (arith, ap (length {A = V}) a.1, length-set vs j a.0))
      (⊎_elim
      (λ (a : (w : V) × (r : V) × Such r × (ws ≡ set vs j w ++ r ∷ [])).
      omega (arith, ap (length {A = V}) a.3, length-append (set vs j a.0) (a.1 ∷ []), length-set vs j a.0))
      (λ (a : (w : V) × (r : V) × (k : ℕ) × Such r × (ws ≡ set (set vs j w) k r)).
      omega (arith, ap (length {A = V}) a.4, length-set (set vs j a.0) a.2 a.1, length-set vs j a.0)))
      c

  -- so all other seats' views are such ones, where they were
  pub others_such : ((i : ℕ) (u : V) → i ≢ j → get_elem? vs i ≡ some u → Such u) → (i : ℕ) (u : V) → i ≢ j → get_elem? ws i ≡ some u → Such u
  others_such all i u ne there = ⊎_elim
      (λ (a : (w : V) × (ws ≡ set vs j w)). set_each P vs j a.0 here other i u (subst (λ l. get_elem? l i ≡ some u) a.1 there) ne)
      (⊎_elim
      (λ (a : (w : V) × (r : V) × Such r × (ws ≡ set vs j w ++ r ∷ [])).
      more_each P vs j a.0 here other a.1 (λ i ne. a.2) i u (subst (λ l. get_elem? l i ≡ some u) a.3 there) ne)
      (λ (a : (w : V) × (r : V) × (k : ℕ) × Such r × (ws ≡ set (set vs j w) k r)).
      both_each P vs j a.0 here other a.2 a.1 (λ ne. a.3) i u (subst (λ l. get_elem? l i ≡ some u) a.4 there) ne))
      c
    where
      P : ℕ → V → Type 0
      P i u = i ≢ j → Such u

      here : {w : V} → P j w
      here ne = absurd (ne refl)

      other : (i : ℕ) (u : V) → i ≢ j → get_elem? vs i ≡ some u → P i u
      other i u ne there _ = all i u ne there

module _ {M V K : Type 0} (T : Turning M V K) where
  -- what each step keeps stands at the end
  pub lasts : (I : M → Type 0) → ((m : M) (j : ℕ) (v : V) (k : K) → I m → get_elem? (T.views m) j ≡ some v → T.May m j v k → I (T.after m j v k))
      → (m : M) → I m → (run : Run V K) (n : M) → Steps T m run n → I n
  lasts I keeps m i [] n e = subst I e i
  lasts I keeps m i (s ∷ ss) n e = lasts I keeps (T.after m s.0 s.1 s.2) (keeps m s.0 s.1 s.2 i e.0 e.1) ss n e.2

  pub one_more : (m : M) (run : Run V K) (n : M) (j : ℕ) (v : V) (k : K) → Steps T m run n → get_elem? (T.views n) j ≡ some v → T.May n j v k
      → Steps T m (run ++ (j, v, k) ∷ []) (T.after n j v k)
  one_more m [] n j v k e at may = subst (λ (x : M). (get_elem? (T.views x) j ≡ some v) × T.May x j v k × (T.after x j v k ≡ T.after n j v k)) (sym e) (at, may, refl)
  one_more m (s ∷ ss) n j v k st at may = (st.0, st.1, one_more (T.after m s.0 s.1 s.2) ss n j v k st.2 at may)

  module _ (grows : Grows T) where
    pub never_fewer : (m : M) (run : Run V K) (n : M) → Steps T m run n → length (T.views m) ≤ length (T.views n)
    never_fewer m [] n e = omega (arith, ap (λ (x : M). length (T.views x)) e)
    never_fewer m (s ∷ ss) n st = omega (arith, grows m s.0 s.1 s.2, never_fewer (T.after m s.0 s.1 s.2) ss n st.2)

    -- a place that no seat has took none
    pub none_past : (own_kind : K → K) (m : M) (run : Run V K) (n : M) (j : ℕ) → Steps T m run n → length (T.views n) ≤ j → steps_of own_kind j run ≡ []
    none_past own_kind m [] n j e past = refl
    none_past own_kind m (s ∷ ss) n j st past =
        let next = T.after m s.0 s.1 s.2 in let here = elem_below (T.views m) s.0 s.1 st.0 in let wide = grows m s.0 s.1 s.2 in
        let more = never_fewer next ss n st.2 in
        let ne : s.0 ≢ j = λ e. omega (arith, here, past, wide, more, e) in
        ap (λ b. cond b (own_kind s.2 ∷ steps_of own_kind j ss) (steps_of own_kind j ss)) (ne_eqb s.0 j ne) ∙ none_past own_kind next ss n j st.2 past

-- # Whose step it is

cond_more : {K : Type 0} (b : Bool) (x k : K) (xs ys : List K) → ys ≡ xs ++ k ∷ [] → cond b (x ∷ ys) ys ≡ cond b (x ∷ xs) xs ++ k ∷ []
cond_more true x k xs ys e = ap (λ l. x ∷ l) e
cond_more false x k xs ys e = e

module _ {V K : Type 0} (own_kind : K → K) where
  -- it is the last of the seat that took it, and none of another's
  pub steps_here : (run : Run V K) (j : ℕ) (v : V) (k : K) → steps_of own_kind j (run ++ (j, v, k) ∷ []) ≡ steps_of own_kind j run ++ own_kind k ∷ []
  steps_here [] j v k = ap (λ b. cond b (own_kind k ∷ []) []) (eq-eqb j j refl)
  steps_here (s ∷ ss) j v k =
      cond_more (eqb s.0 j) (own_kind s.2) (own_kind k) (steps_of own_kind j ss) (steps_of own_kind j (ss ++ (j, v, k) ∷ [])) (steps_here ss j v k)

  pub steps_there : (run : Run V K) (i j : ℕ) (v : V) (k : K) → i ≢ j → steps_of own_kind j (run ++ (i, v, k) ∷ []) ≡ steps_of own_kind j run
  steps_there [] i j v k ne = ap (λ b. cond b (own_kind k ∷ []) []) (ne_eqb i j ne)
  steps_there (s ∷ ss) i j v k ne = ap (λ l. cond (eqb s.0 j) (own_kind s.2 ∷ l) l) (steps_there ss i j v k ne)

-- # The views of seats

module _ {A B : Type 0} (f : A → B) where
  pub map-set : (l : List A) (i : ℕ) (a : A) → map f (set l i a) ≡ set (map f l) i (f a)
  map-set [] i a = refl
  map-set (x ∷ xs) zero a = refl
  map-set (x ∷ xs) (suc i) a = ap (λ l. f x ∷ l) (map-set xs i a)

  pub map-snoc : (l : List A) (a : A) → map f (l ++ a ∷ []) ≡ map f l ++ f a ∷ []
  map-snoc [] a = refl
  map-snoc (x ∷ xs) a = ap (λ l. f x ∷ l) (map-snoc xs a)
