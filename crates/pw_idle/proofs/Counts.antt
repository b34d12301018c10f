-- How many children allow a state.
use Rattle.std.proofs.Common.{◌≡◌, ◌<◌, ◌≤◌, ◌+◌, ◌-◌, ◌==◌, nat_le, ◌&&◌, ℕ, suc, zero, Bool, true, false, List, [], ◌∷◌, map, length, get_or, set, refl, ap, sym, ◌∙◌, arith}
use Rattle.std.specs.Prelude.{zip}
use Rattle.std.specs.List.{list_all}
use Rattle.std.proofs.lemmas.Bool.Decides.{nat_tests}
use Rattle.std.proofs.lemmas.List.{get_or-map, length-map}
use Rattle.acpi_values.specs.Idle.{rows_of}
use Rattle.acpi_values.specs.declared.idle.IdleRow.{IdleRow}
use Rattle.acpi_values.specs.declared.idle.IdleTable.{IdleTable}
use Rattle.pw_plan.specs.declared.domain.Child.{Child}
use Rattle.pw_plan.specs.declared.domain.Child.TheVariants.{Cpu}
use Rattle.pw_model.specs.declared.state.Vote.{Vote}
use Rattle.pw_plan.specs.declared.plan.Plan.{Plan}
use Rattle.pw_plan.specs.Parts.{no_row}
use Rattle.pw_plan.specs.Places.{children_at, container_at, row_at, table_of}
use Rattle.pw_model.specs.Containers.{all_allow, allows, may_idle}
use Rattle.pw_model.specs.States.{any_latency, running}
use Rattle.pw_model.specs.Holding.{HoldsVotes}
use Rattle.pw_idle.specs.Nodes.{Counts, allows_state, counted, one_if}

module _ (t : Child → Vote → Bool) where
  pub counted-le : (cs : List Child) (vs : List Vote) → counted t cs vs ≤ length cs
  unfolding counted
  counted-le [] vs = omega arith
  counted-le (c ∷ cs) [] = omega arith
  counted-le (c ∷ cs) (v ∷ vs) = step (t c v) (counted-le cs vs)
    where
      step : (b : Bool) → counted t cs vs ≤ length cs → one_if b + counted t cs vs ≤ suc (length cs)
      step true le = omega arith
      step false le = omega arith

  -- all pass exactly where all are counted
  pub counted-all : (cs : List Child) (vs : List Vote) → length vs ≡ length cs → list_all (λ (x : Child × Vote). t x.0 x.1) (zip cs vs) ≡ (counted t cs vs == length cs)
  unfolding counted
  counted-all [] [] e = refl
  counted-all [] (v ∷ vs) e = absurd (omega arith)
  counted-all (c ∷ cs) [] e = absurd (omega arith)
  counted-all (c ∷ cs) (v ∷ vs) e = step (t c v) (counted-all cs vs (omega arith)) (counted-le cs vs)
    where
      step : (b : Bool) → list_all (λ (x : Child × Vote). t x.0 x.1) (zip cs vs) ≡ (counted t cs vs == length cs) → counted t cs vs ≤ length cs
          → (b && list_all (λ (x : Child × Vote). t x.0 x.1) (zip cs vs)) ≡ (one_if b + counted t cs vs == suc (length cs))
      step true h le = h ∙ grind (arith, nat_tests)
      step false h le = grind (arith, nat_tests)

  -- one vote set
  pub counted-set : (cs : List Child) (vs : List Vote) (k : ℕ) (v : Vote) → k < length cs → k < length vs
      → one_if (t (get_or cs k (Cpu 0)) (get_or vs k running)) + counted t cs (set vs k v) ≡ one_if (t (get_or cs k (Cpu 0)) v) + counted t cs vs
  unfolding counted
  counted-set [] vs k v lt has = absurd (omega arith)
  counted-set (c ∷ cs) [] k v lt has = absurd (omega arith)
  counted-set (c ∷ cs) (w ∷ vs) zero v lt has = omega arith
  counted-set (c ∷ cs) (w ∷ vs) (suc k) v lt has = let h = counted-set cs vs k v (omega arith) (omega arith) in omega (arith, h)

  -- none passes
  pub counted-none : (cs : List Child) (v : Vote) → ((c : Child) → t c v ≡ false) → counted t cs (map (λ (c : Child). v) cs) ≡ 0
  unfolding counted
  counted-none [] v none = refl
  counted-none (c ∷ cs) v none = let rest = counted-none cs v none in rw none (omega (arith, rest))

  -- one passes, or one doesn't
  pub counted-some : (cs : List Child) (vs : List Vote) (k : ℕ) → k < length cs → k < length vs → t (get_or cs k (Cpu 0)) (get_or vs k running) ≡ true → 0 < counted t cs vs
  unfolding counted
  counted-some [] vs k lt has e = absurd (omega arith)
  counted-some (c ∷ cs) [] k lt has e = absurd (omega arith)
  counted-some (c ∷ cs) (w ∷ vs) zero lt has e = rw e (omega arith)
  counted-some (c ∷ cs) (w ∷ vs) (suc k) lt has e = let h = counted-some cs vs k (omega arith) (omega arith) e in omega (arith, h)

  pub counted-lt : (cs : List Child) (vs : List Vote) (k : ℕ) → k < length cs → k < length vs → t (get_or cs k (Cpu 0)) (get_or vs k running) ≡ false → counted t cs vs < length cs
  unfolding counted
  counted-lt [] vs k lt has e = absurd (omega arith)
  counted-lt (c ∷ cs) [] k lt has e = absurd (omega arith)
  counted-lt (c ∷ cs) (w ∷ vs) zero lt has e = let le = counted-le cs vs in rw e (omega (arith, le))
  counted-lt (c ∷ cs) (w ∷ vs) (suc k) lt has e = step (t c w) (counted-lt cs vs k (omega arith) (omega arith) e)
    where
      step : (b : Bool) → counted t cs vs < length cs → one_if b + counted t cs vs < suc (length cs)
      step true h = omega arith
      step false h = omega arith

module _ (P : Plan) (n : ℕ) where
  -- a state that is enabled is one to idle in exactly where all children are counted
  pub may_counted : (vs : List Vote) (ks : List ℕ) (s : ℕ) (row : IdleRow) → Counts P n vs ks → length vs ≡ length (children_at P n) → 1 ≤ s → s ≤ length (rows_of (container_at P n).idle)
      → row ≡ row_at (container_at P n).idle s → row.enabled ≡ true → (get_or ks (s - 1) 0 == length vs) ≡ may_idle P n vs s
  may_counted vs ks s row h len first last is on =
      let back : (s - 1) + 1 ≡ s = omega arith in
      let count : get_or ks (s - 1) 0 ≡ counted (allows_state P n s) (children_at P n) vs = h.each (s - 1) (omega arith) ∙ ap (λ i. counted (allows_state P n i) (children_at P n) vs) back in
      let enabled : (row_at (container_at P n).idle s).enabled ≡ true = ap (λ (r : IdleRow). r.enabled) (sym is) ∙ on in
      ap (λ x. x == length vs) count ∙ ap (λ x. counted (allows_state P n s) (children_at P n) vs == x) len
      ∙ sym (counted-all (allows_state P n s) (children_at P n) vs len)
      ∙ sym (ap (λ b. b && all_allow P (children_at P n) vs s (row_at (container_at P n).idle s).latency) enabled)

  pub opening_counts : Counts P n (map (λ (c : Child). running) (children_at P n)) (map (λ (r : IdleRow). 0) (rows_of (container_at P n).idle))
  opening_counts = record {
    rows = length-map (rows_of (container_at P n).idle) (λ (r : IdleRow). 0);
    each = λ j lt. get_or-map (λ (r : IdleRow). 0) (rows_of (container_at P n).idle) j no_row 0 lt
        ∙ sym (counted-none (allows_state P n (j + 1)) (children_at P n) running (λ c. runs j (row_at (container_at P n).idle (j + 1)).latency));
  }
    where
      runs : (j latency : ℕ) → (nat_le (j + 1) 0 && nat_le latency any_latency) ≡ false
      runs j latency = grind (arith, nat_tests)

  -- what a call of `allows` told
  pub allows_is : (b : Bool) (table own : IdleTable) (w v : Vote) (row : IdleRow) (c : Child) (i : ℕ) → b ≡ allows table w i row.latency → table ≡ table_of P c → w ≡ v → row ≡ row_at own i
      → own ≡ (container_at P n).idle → b ≡ allows_state P n i c v
  allows_is b table own w v row c i e is vote told of =
      e ∙ ap (λ x. allows x w i row.latency) is ∙ ap (λ x. allows (table_of P c) x i row.latency) vote
      ∙ ap (λ (x : IdleRow). allows (table_of P c) v i x.latency) (told ∙ ap (λ x. row_at x i) of)

  -- one count anew, and the others as they were
  module _ (vs : List Vote) (k : ℕ) (v : Vote) (ks : List ℕ) (a r : ℕ) (was now : Bool) (h : HoldsVotes P n vs) (lt : k < length (children_at P n))
      (before : was ≡ allows_state P n (a + 1) (get_or (children_at P n) k (Cpu 0)) (get_or vs k running)) (is : get_or ks a 0 ≡ counted (allows_state P n (a + 1)) (children_at P n) vs) where
    there : k < length vs
    there = let e : length vs ≡ length (children_at P n) = h.children in omega (arith, e, lt)

    pub count_some : was ≡ true → 0 < get_or ks a 0
    count_some e = rw is (counted-some (allows_state P n (a + 1)) (children_at P n) vs k lt there (sym before ∙ e))

    pub count_lt : was ≡ false → get_or ks a 0 < length vs
    count_lt e = rw (is, h.children) (counted-lt (allows_state P n (a + 1)) (children_at P n) vs k lt there (sym before ∙ e))

    pub count_changed : now ≡ allows_state P n (a + 1) (get_or (children_at P n) k (Cpu 0)) v → one_if was + r ≡ one_if now + get_or ks a 0
        → r ≡ counted (allows_state P n (a + 1)) (children_at P n) (set vs k v)
    count_changed after e =
        let s = counted-set (allows_state P n (a + 1)) (children_at P n) vs k v lt there in
        let w : one_if was ≡ one_if (allows_state P n (a + 1) (get_or (children_at P n) k (Cpu 0)) (get_or vs k running)) = ap one_if before in
        let m : one_if now ≡ one_if (allows_state P n (a + 1) (get_or (children_at P n) k (Cpu 0)) v) = ap one_if after in
        omega (arith, s, w, m, e, is)
