-- What a seat met is what it last found, and it finds no turn held while no other seat took a step.
use Rattle.std.proofs.Common.{◌≡◌, ◌≢◌, ◌⊎◌, inl, inr, ⊎_elim, ℕ, zero, suc, ◌<◌, List, [], ◌∷◌, ◌++◌, Option, Some, None, length, set, cond, eq-eqb, ne_eqb, sym, refl, ap, ◌∙◌, subst, arith}
use Rattle.std.proofs.lemmas.List.{length-map}
use mathlib.Core.Option.{some, some-injective, some-ne-none}
use mathlib.Core.Logic.{dite}
use native.Mathlib.Decide.{dec_le, ℕ_discrete}
use lib.ListN.{get_elem?}
use Rattle.pw_books.specs.Ruled.{Showing, Shows}
use Rattle.pw_books.specs.Runs.{FoundLast, NoFind, NoneFinds, Steps, Turning}
use Rattle.pw_books.specs.Tracks.{steps_of}
use Rattle.pw_books.specs.declared.track.Track.{Track}
use Rattle.pw_books.proofs.Lists.{at_set, at_snoc, some_at}
use Rattle.pw_books.proofs.Running.{Grows, Run, none_past}

-- # What a seat met

-- by what a view has met
module _ {M V K X : Type 0} (T : Turning M V K) (IsFind : K → Type 0) (FindsHeld : M → K → X → Type 0) (met : V → Option X) where
  -- the seat has met this before the step
  abbrev Before : M → ℕ → K → ℕ → X → Type 0
  Before m i k j p = (w : V) × (get_elem? (T.views m) j ≡ some w) × (met w ≡ Some p) × (i ≡ j → IsFind k → ⊥)

  -- so it has, or it finds it in the step
  abbrev pub Finds : M → ℕ → K → ℕ → X → Type 0
  Finds m i k j p = ((i ≡ j) × FindsHeld m k p) ⊎ Before m i k j p

  module _ (m : M) (i j : ℕ) (p : X) where
    -- a step after which the seat has met what it had met
    pub stays : (v w : V) (k : K) → get_elem? (T.views m) i ≡ some v → met w ≡ met v → (IsFind k → ⊥) → (u : V)
        → get_elem? (set (T.views m) i w) j ≡ some u → met u ≡ Some p → Finds m i k j p
    stays v w k at same other u there has = ⊎_elim
        (λ (b : (j ≡ i) × (w ≡ u)). inr (v, subst (λ i. get_elem? (T.views m) i ≡ some v) (sym b.0) at, sym same ∙ (ap met b.1 ∙ has), λ e. other))
        (λ (b : (j ≢ i) × (get_elem? (T.views m) j ≡ some u)). inr (u, b.1, has, λ e f. b.0 (sym e)))
        (at_set (T.views m) i j w u there)

    -- a step that finds a turn held
    pub finds : (w : V) (k : K) (x : X) → met w ≡ Some x → ((q : X) → q ≡ x → FindsHeld m k q) → (u : V)
        → get_elem? (set (T.views m) i w) j ≡ some u → met u ≡ Some p → Finds m i k j p
    finds w k x is tells u there has = ⊎_elim
        (λ (b : (j ≡ i) × (w ≡ u)). inl (sym b.0, tells p (let e : Some p ≡ Some x = sym has ∙ (ap met (sym b.1) ∙ is) in cc)))
        (λ (b : (j ≢ i) × (get_elem? (T.views m) j ≡ some u)). inr (u, b.1, has, λ e f. b.0 (sym e)))
        (at_set (T.views m) i j w u there)

    never : {A : Type 0} (u v : V) → met u ≡ None → u ≡ v → met v ≡ Some p → A
    never u v none e has = let x : None ≡ Some p = sym none ∙ (ap met e ∙ has) in absurd (cc)

    -- steps by which a seat comes or goes that has met none
    pub comes : (v w r : V) (k : K) → get_elem? (T.views m) i ≡ some v → met w ≡ met v → (IsFind k → ⊥) → met r ≡ None → (u : V)
        → get_elem? (set (T.views m) i w ++ r ∷ []) j ≡ some u → met u ≡ Some p → Finds m i k j p
    comes v w r k at same other none u there has = ⊎_elim
        (λ (b : get_elem? (set (T.views m) i w) j ≡ some u). stays v w k at same other u b has)
        (λ (e : r ≡ u). never r u none e has)
        (at_snoc (set (T.views m) i w) r u j there)

    pub goes : (v w r : V) (k : K) (n : ℕ) → get_elem? (T.views m) i ≡ some v → met w ≡ met v → (IsFind k → ⊥) → met r ≡ None → (u : V)
        → get_elem? (set (set (T.views m) i w) n r) j ≡ some u → met u ≡ Some p → Finds m i k j p
    goes v w r k n at same other none u there has = ⊎_elim
        (λ (b : (j ≡ n) × (r ≡ u)). never r u none b.1 has)
        (λ (b : (j ≢ n) × (get_elem? (set (T.views m) i w) j ≡ some u)). stays v w k at same other u b.1 has)
        (at_set (set (T.views m) i w) n j r u there)

  -- where each step does so
  module _ (step : (m : M) (i j : ℕ) (p : X) (v : V) (k : K) → get_elem? (T.views m) i ≡ some v → T.May m i v k → (u : V)
      → get_elem? (T.views (T.after m i v k)) j ≡ some u → met u ≡ Some p → Finds m i k j p) where
    all_steps : (m : M) (run : Run V K) (n : M) (j : ℕ) (u : V) (p : X) → Steps T m run n → get_elem? (T.views n) j ≡ some u → met u ≡ Some p
        → FoundLast T.after IsFind FindsHeld m run j p ⊎ ((w : V) × (get_elem? (T.views m) j ≡ some w) × (met w ≡ Some p) × NoneFinds IsFind j run)
    all_steps m [] n j u p e there has = inr (u, subst (λ (x : M). get_elem? (T.views x) j ≡ some u) (sym e) there, has, tt)
    all_steps m (s ∷ ss) n j u p st there has = ⊎_elim
        (λ (f : FoundLast T.after IsFind FindsHeld (T.after m s.0 s.1 s.2) ss j p). inl (inr f))
        (λ (b : (w : V) × (get_elem? (T.views (T.after m s.0 s.1 s.2)) j ≡ some w) × (met w ≡ Some p) × NoneFinds IsFind j ss). ⊎_elim
        (λ (f : (s.0 ≡ j) × FindsHeld m s.2 p). inl (inl (f.0, f.1, b.3)))
        (λ (c : Before m s.0 s.2 j p). inr (c.0, c.1, c.2, (c.3, b.3)))
        (step m s.0 j p s.1 s.2 st.0 st.1 b.0 b.1 b.2))
        (all_steps (T.after m s.0 s.1 s.2) ss n j u p st.2 there has)

    -- from a machine with one seat, which has met none
    pub found_last : (m : M) (v : V) → T.views m ≡ v ∷ [] → met v ≡ None → (run : Run V K) (n : M) (j : ℕ) (u : V) (p : X) → Steps T m run n
        → get_elem? (T.views n) j ≡ some u → met u ≡ Some p → FoundLast T.after IsFind FindsHeld m run j p
    found_last m v one none run n j u p st there has = ⊎_elim
        (λ (f : FoundLast T.after IsFind FindsHeld m run j p). f)
        (λ (b : (w : V) × (get_elem? (T.views m) j ≡ some w) × (met w ≡ Some p) × NoneFinds IsFind j run).
        first j b.0 (subst (λ vs. get_elem? vs j ≡ some b.0) one b.1) b.2)
        (all_steps m run n j u p st there has)
      where
        first : (j : ℕ) (w : V) → get_elem? (v ∷ []) j ≡ some w → met w ≡ Some p → FoundLast T.after IsFind FindsHeld m run j p
        first zero w at has = never m j j p v w none (some-injective v w at) has
        first (suc j) w at has = absurd (some-ne-none w (sym at))

-- # While no other seat took a step

-- by what holds then of the machine and the seat's place
module _ {M V K H : Type 0} (S : Showing M V K H) (IsFind : K → Type 0) (own_find : (k : K) → IsFind (S.own_kind k) → IsFind k)
    (Quiet : M → ℕ → Type 0)
    (finds_none : (m : M) (j : ℕ) (v : V) (k : K) → Quiet m j → get_elem? (S.turning.views m) j ≡ some v → S.turning.May m j v k → IsFind k → ⊥)
    (still : (m : M) (j : ℕ) (v : V) (k : K) → Quiet m j → get_elem? (S.turning.views m) j ≡ some v → S.turning.May m j v k
    → Quiet (S.turning.after m j v k) j) where
  -- who took no step in the run didn't take its first
  first_is : (j : ℕ) (s : ℕ × V × K) (ss : Run V K) → ((i : ℕ) → i ≢ j → steps_of S.own_kind i (s ∷ ss) ≡ []) → s.0 ≡ j
  first_is j s ss alone = dite (ℕ_discrete s.0 j) (λ e. e) (λ ne. absurd
      (let here : steps_of S.own_kind s.0 (s ∷ ss) ≡ S.own_kind s.2 ∷ steps_of S.own_kind s.0 ss =
      ap (λ b. cond b (S.own_kind s.2 ∷ steps_of S.own_kind s.0 ss) (steps_of S.own_kind s.0 ss)) (eq-eqb s.0 s.0 refl) in
      omega (arith, ap (length {A = K}) (sym here ∙ alone s.0 ne))))

  quiet : (m : M) (j : ℕ) → Quiet m j → (run : Run V K) (n : M) → Steps S.turning m run n → ((i : ℕ) → i ≢ j → steps_of S.own_kind i run ≡ [])
      → NoFind IsFind (steps_of S.own_kind j run)
  quiet m j q [] n e alone = tt
  quiet m j q (s ∷ ss) n st alone =
      let same = first_is j s ss alone in
      let at : get_elem? (S.turning.views m) j ≡ some s.1 = subst (λ i. get_elem? (S.turning.views m) i ≡ some s.1) same st.0 in
      let may : S.turning.May m j s.1 s.2 = subst (λ i. S.turning.May m i s.1 s.2) same st.1 in
      let next = S.turning.after m j s.1 s.2 in
      let on : Steps S.turning next ss n = subst (λ i. Steps S.turning (S.turning.after m i s.1 s.2) ss n) same st.2 in
      let rest = quiet next j (still m j s.1 s.2 q at may) ss n on
      (λ i ne. sym (ap (λ b. cond b (S.own_kind s.2 ∷ steps_of S.own_kind i ss) (steps_of S.own_kind i ss)) (ne_eqb s.0 i (λ e. ne (sym e ∙ same)))) ∙ alone i ne) in
      subst (NoFind IsFind) (ap (λ b. cond b (S.own_kind s.2 ∷ steps_of S.own_kind j ss) (steps_of S.own_kind j ss)) (sym (eq-eqb s.0 j same)))
      ((λ f. finds_none m j s.1 s.2 q at may (own_find s.2 f)), rest)

  module _ (start : M) (v : V) (one : S.turning.views start ≡ v ∷ []) (q : Quiet start 0) where
    from_start : (j : ℕ) (run : Run V K) (n : M) → Steps S.turning start run n → ((i : ℕ) → i ≢ j → steps_of S.own_kind i run ≡ [])
        → NoFind IsFind (steps_of S.own_kind j run)
    from_start zero run n st alone = quiet start 0 q run n st alone
    from_start (suc j) [] n st alone = tt
    from_start (suc j) (s ∷ ss) n st alone =
        let same = first_is (suc j) s ss alone in
        let there : get_elem? (v ∷ []) (suc j) ≡ some s.1 = subst (λ vs. get_elem? vs (suc j) ≡ some s.1) one (subst (λ i. get_elem? (S.turning.views start) i ≡ some s.1) same st.0) in
        absurd (some-ne-none s.1 (sym there))

    -- a seat finds no turn held while each other one is live and took none
    pub none_found : Grows S.turning → (ws : List ℕ) (hs : H) (ts : List (Track V K)) → Shows S start ws hs ts → (j : ℕ) (t : Track V K)
        → get_elem? ts j ≡ some t → 0 < S.parts t.view
        → ((i : ℕ) (u : Track V K) → i ≢ j → get_elem? ts i ≡ some u → (0 < S.parts u.view) × (u.own ≡ [])) → NoFind IsFind t.own
    none_found grows ws hs ts o j t at live others =
        let alone : (i : ℕ) → i ≢ j → steps_of S.own_kind i o.run ≡ [] = λ i ne. dite (dec_le (length ts) i)
        (λ past. none_past S.turning grows S.own_kind start o.run o.machine i o.ran
        (omega (arith, past, ap (length {A = V}) o.views, length-map ts (λ (t : Track V K). t.view))))
        (λ low. let u = some_at ts i (omega (arith, low)) in let h = others i u.0 ne u.1 in sym (o.own i u.0 u.1 h.0) ∙ h.1) in
        subst (NoFind IsFind) (sym (o.own j t at live)) (from_start j o.run o.machine o.ran alone)
