-- What a control was last set to, in lists of operations that are put together.
use Rattle.std.proofs.Common.{◌≡◌, ◌≢◌, ◌<◌, ◌≤◌, ◌+◌, ◌==◌, ◌||◌, ℕ, suc, zero, Bool, true, false, List, [], ◌∷◌, ◌++◌, Option, Some, None, refl, ap, sym, subst, ◌∙◌, inl, inr, arith, append_assoc}
use Rattle.std.specs.List.{flat_map, range_with_len, AllByRecursion}
use Rattle.std.proofs.lemmas.Bool.{cases_eq}
use Rattle.acpi_values.specs.declared.operation.Op.{Op}
use Rattle.acpi_values.specs.declared.operation.Op.TheVariants as op
use Rattle.acpi_values.specs.declared.register.Register.{Register}
use Rattle.pw_plan.specs.Groups.{has_member}
use Rattle.pw_plan.proofs.Lists.{each_append, or_left, or_right}
use Rattle.pw_cppc.specs.declared.parts.Control.{Control}
use Rattle.pw_cppc.specs.declared.plan.CppcPlan.{CppcPlan}
use Rattle.pw_cppc.specs.Controls.{IsLastSetOn}
use Rattle.pw_cppc.specs.Operations.{set_in, set_on}
use Rattle.pw_cppc.specs.Parts.{register_of}
use Rattle.pw_cppc.specs.Planning.{parts_at}
use Rattle.pw_cppc.proofs.MembersAsked.{own_number, same_number}

module _ (P : CppcPlan) (control : Control) (on : ℕ → Type 0) where
  -- none of these sets the control on one of them
  abbrev pub Spares : List Op → Type 0
  Spares ops = (q : ℕ) (r : Register) → on q → register_of control (parts_at P q) ≡ Some r → AllByRecursion (λ o. (w : ℕ) → o ≢ op.Set q r w) ops

  pub spares_none : Spares []
  spares_none q r i h = tt

  pub spares_append : (xs ys : List Op) → Spares xs → Spares ys → Spares (xs ++ ys)
  spares_append xs ys a b q r i h = each_append (λ o. (w : ℕ) → o ≢ op.Set q r w) xs ys (a q r i h) (b q r i h)

  pub last_append : (v : ℕ) (ops more : List Op) → IsLastSetOn P control on v ops → Spares more → IsLastSetOn P control on v (ops ++ more)
  last_append v ops more last spares = record {
    before = last.before;
    later = last.later ++ more;
    cpu = last.cpu;
    one = last.one;
    register = last.register;
    has = last.has;
    set = ap (λ os. os ++ more) last.set ∙ append_assoc last.before (op.Set last.cpu last.register v ∷ last.later) more;
    none_later = λ q r i h. each_append (λ o. (w : ℕ) → o ≢ op.Set q r w) last.later more (last.none_later q r i h) (spares q r i h);
  }

  pub last_before : (v : ℕ) (more ops : List Op) → IsLastSetOn P control on v ops → IsLastSetOn P control on v (more ++ ops)
  last_before v more ops last = record {
    before = more ++ last.before;
    later = last.later;
    cpu = last.cpu;
    one = last.one;
    register = last.register;
    has = last.has;
    set = ap (λ os. more ++ os) last.set ∙ sym (append_assoc more last.before (op.Set last.cpu last.register v ∷ last.later));
    none_later = last.none_later;
  }

  -- # Of one processor

  pub set_last : (q v : ℕ) (r : Register) → on q → register_of control (parts_at P q) ≡ Some r → IsLastSetOn P control on v (set_on P control q v)
  set_last q v r i e = subst (λ o. IsLastSetOn P control on v (set_in o q v)) (sym e)
      (record { before = []; later = []; cpu = q; one = i; register = r; has = e; set = refl; none_later = λ m s j h. tt })

  -- another register is set, or nobody of them is
  pub others_spare : (c : Control) (q v : ℕ) → ((r : Register) → on q → register_of control (parts_at P q) ≡ Some r → register_of c (parts_at P q) ≡ Some r → ⊥) → Spares (set_on P c q v)
  others_spare c q v other = step (register_of c (parts_at P q)) refl
    where
      clash : (s : Register) → register_of c (parts_at P q) ≡ Some s → (m : ℕ) (r : Register) → on m → register_of control (parts_at P m) ≡ Some r → (w : ℕ) → op.Set q s v ≢ op.Set m r w
      clash s e m r i is w same =
          let cpu : q ≡ m = cc in
          let reg : s ≡ r = cc in
          other r (subst on (sym cpu) i) (ap (λ k. register_of control (parts_at P k)) cpu ∙ is) (e ∙ ap (λ x. Some x) reg)

      step : (o : Option Register) → register_of c (parts_at P q) ≡ o → Spares (set_in o q v)
      step None e m r i is = tt
      step (Some s) e m r i is = (clash s e m r i is, tt)

  -- # Of each of some processors

  pub each_spares : (f : ℕ → List Op) (ms : List ℕ) → ((q : ℕ) → has_member ms q ≡ true → Spares (f q)) → Spares (flat_map f ms)
  each_spares f [] h = spares_none
  each_spares f (m ∷ ms) h = spares_append (f m) (flat_map f ms) (h m (or_left (m == m) (has_member ms m) (own_number m)))
      (each_spares f ms (λ q e. h q (or_right (m == q) (has_member ms q) e)))

  -- where those of the other processors spare it
  pub last_among : (v : ℕ) (f : ℕ → List Op) (p : ℕ) (ms : List ℕ) → has_member ms p ≡ true → IsLastSetOn P control on v (f p) → ((q : ℕ) → q ≢ p → Spares (f q))
      → IsLastSetOn P control on v (flat_map f ms)
  last_among v f p [] e last other = cc
  last_among v f p (m ∷ ms) e last other = step (has_member ms p) refl (λ g. last_among v f p ms g last other)
    where
      first : (b : Bool) → (m == p) ≡ b → (b || false) ≡ true → m ≡ p
      first true h e = same_number m p h
      first false h e = cc

      step : (b : Bool) → has_member ms p ≡ b → (has_member ms p ≡ true → IsLastSetOn P control on v (flat_map f ms)) → IsLastSetOn P control on v (f m ++ flat_map f ms)
      step true h later = last_before v (f m) (flat_map f ms) (later h)
      step false h later =
          let here : m ≡ p = first (m == p) refl (ap (λ b. (m == p) || b) (sym h) ∙ e) in
          last_append v (f m) (flat_map f ms) (subst (λ k. IsLastSetOn P control on v (f k)) (sym here) last)
          (each_spares f ms (λ q g. other q (λ same. let x : false ≡ true = sym h ∙ ap (has_member ms) (sym same) ∙ g in cc)))

  -- # Of each of some places

  pub range_spares : (f : ℕ → List Op) (k n : ℕ) → ((q : ℕ) → k ≤ q → q < k + n → Spares (f q)) → Spares (flat_map f (range_with_len k n))
  range_spares f k zero h = spares_none
  range_spares f k (suc n) h = spares_append (f k) (flat_map f (range_with_len (k + 1) n)) (h k (omega arith) (omega arith)) (range_spares f (k + 1) n (λ q a b. h q (omega arith) (omega arith)))

  pub last_in : (v : ℕ) (f : ℕ → List Op) (d k n : ℕ) → k ≤ d → d < k + n → IsLastSetOn P control on v (f d) → ((q : ℕ) → q < k + n → q ≢ d → Spares (f q))
      → IsLastSetOn P control on v (flat_map f (range_with_len k n))
  last_in v f d k zero le lt last other = absurd (omega arith)
  last_in v f d k (suc n) le lt last other = elim (cases_eq k d) [
    | inl here ↦ last_append v (f k) (flat_map f (range_with_len (k + 1) n)) (rw here last) (range_spares f (k + 1) n (λ q a b. other q (omega arith) (λ same. absurd (omega (arith, same, here)))))
    | inr behind ↦ last_before v (f k) (flat_map f (range_with_len (k + 1) n)) (last_in v f d (k + 1) n (further k d le behind) (omega arith) last (λ q b. other q (omega arith)))
  ]
    where
      further : (k d : ℕ) → k ≤ d → (k ≡ d → ⊥) → k + 1 ≤ d
      further k d le ne = grind arith
