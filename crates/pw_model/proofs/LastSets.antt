-- What a register was last set to.
use Rattle.std.proofs.Common.{◌≡◌, ◌≢◌, ◌<◌, ◌≤◌, ◌+◌, ◌==◌, ◌||◌, ℕ, suc, zero, Bool, true, false, List, [], ◌∷◌, ◌++◌, map, refl, ap, sym, ◌∙◌, inl, inr, arith, append_assoc}
use Rattle.std.specs.List.{flat_map, range_with_len, AllByRecursion}
use Rattle.std.proofs.lemmas.Bool.{cases_eq}
use Rattle.std.proofs.lemmas.Bool.Decides.{nat_tests}
use Rattle.acpi_values.specs.declared.operation.Op.{Op}
use Rattle.acpi_values.specs.declared.operation.Op.TheVariants.{Set}
use Rattle.acpi_values.specs.declared.register.Register.{Register}
use Rattle.pw_plan.specs.Groups.{has_member}
use Rattle.pw_plan.proofs.Lists.{each_append, or_left, or_right}
use Rattle.pw_model.specs.Laws.{IsLastSet}

-- none of these sets this register of the processor
abbrev pub Untouched : ℕ → Register → List Op → Type 0
Untouched p r ops = AllByRecursion (λ o. (w : ℕ) → o ≢ Set p r w) ops

pub last_append : (p : ℕ) (r : Register) (v : ℕ) (ops more : List Op) → IsLastSet p r v ops → Untouched p r more → IsLastSet p r v (ops ++ more)
last_append p r v ops more last u = record {
  before = last.before;
  later = last.later ++ more;
  set = ap (λ os. os ++ more) last.set ∙ append_assoc last.before (Set p r v ∷ last.later) more;
  none_later = each_append (λ o. (w : ℕ) → o ≢ Set p r w) last.later more last.none_later u;
}

pub last_before : (p : ℕ) (r : Register) (v : ℕ) (more ops : List Op) → IsLastSet p r v ops → IsLastSet p r v (more ++ ops)
last_before p r v more ops last = record {
  before = more ++ last.before;
  later = last.later;
  set = ap (λ os. more ++ os) last.set ∙ sym (append_assoc more last.before (Set p r v ∷ last.later));
  none_later = last.none_later;
}

-- # Of each of some members

pub mapped : (Q : Op → Type 0) (f : ℕ → Op) (ms : List ℕ) → ((q : ℕ) → has_member ms q ≡ true → Q (f q)) → AllByRecursion Q (map f ms)
mapped Q f [] h = tt
mapped Q f (m ∷ ms) h = (h m (or_left (m == m) (has_member ms m) (grind (arith, nat_tests))), mapped Q f ms (λ q e. h q (or_right (m == q) (has_member ms q) e)))

-- where each member's own register is set, a member's is last set as it is set
pub set_members : (p : ℕ) (r : Register) (v : ℕ) (f : ℕ → Op) (ms : List ℕ) → has_member ms p ≡ true → f p ≡ Set p r v → ((q : ℕ) → q ≢ p → (w : ℕ) → f q ≢ Set p r w) → IsLastSet p r v (map f ms)
set_members p r v f [] e is other = cc
set_members p r v f (m ∷ ms) e is other = step (has_member ms p) refl (λ g. set_members p r v f ms g is other)
  where
    first : (b : Bool) → (m == p) ≡ b → (b || false) ≡ true → m ≡ p
    first true h e = grind (arith, nat_tests)
    first false h e = cc

    step : (b : Bool) → has_member ms p ≡ b → (has_member ms p ≡ true → IsLastSet p r v (map f ms)) → IsLastSet p r v (f m ∷ map f ms)
    step true h later = last_before p r v (f m ∷ []) (map f ms) (later h)
    step false h later =
        let here : m ≡ p = first (m == p) refl (ap (λ b. (m == p) || b) (sym h) ∙ e) in
        record {
          before = [];
          later = map f ms;
          set = ap (λ o. o ∷ map f ms) (ap f here ∙ is);
          none_later = mapped (λ o. (w : ℕ) → o ≢ Set p r w) f ms (λ q g. other q (λ same. let x : false ≡ true = sym h ∙ ap (has_member ms) (sym same) ∙ g in cc));
        }

-- # In lists that are put together

pub untouched_in : (p : ℕ) (r : Register) (f : ℕ → List Op) (k n : ℕ) → ((q : ℕ) → k ≤ q → q < k + n → Untouched p r (f q)) → Untouched p r (flat_map f (range_with_len k n))
untouched_in p r f k zero h = tt
untouched_in p r f k (suc n) h = each_append (λ o. (w : ℕ) → o ≢ Set p r w) (f k) (flat_map f (range_with_len (k + 1) n)) (h k (omega arith) (omega arith)) (untouched_in p r f (k + 1) n
    (λ q a b. h q (omega arith) (omega arith)))

-- where one of them alone sets it
pub set_in : (p : ℕ) (r : Register) (v : ℕ) (f : ℕ → List Op) (d k n : ℕ) → k ≤ d → d < k + n → IsLastSet p r v (f d) → ((q : ℕ) → q < k + n → q ≢ d → Untouched p r (f q))
    → IsLastSet p r v (flat_map f (range_with_len k n))
set_in p r v f d k zero le lt last other = absurd (omega arith)
set_in p r v f d k (suc n) le lt last other = elim (cases_eq k d) [
  | inl here ↦ last_append p r v (f k) (flat_map f (range_with_len (k + 1) n)) (rw here last) (untouched_in p r f (k + 1) n
      (λ q a b. other q (omega arith) (λ same. absurd (omega (arith, same, here)))))
  | inr behind ↦ last_before p r v (f k) (flat_map f (range_with_len (k + 1) n)) (set_in p r v f d (k + 1) n (further k d le behind) (omega arith) last (λ q b. other q (omega arith)))
]
  where
    further : (k d : ℕ) → k ≤ d → (k ≡ d → ⊥) → k + 1 ≤ d
    further k d le ne = grind arith
