-- Replies that are known, one after the other.
use Rattle.std.proofs.Common.{◌≡◌, ◌∙◌, ◌≤◌, ◌==◌, ◌++◌, suc, Bool, true, false, cond, List, [], ◌∷◌, drop, length, get_or, refl, ap, sym, subst, arith, Option, Some, None}
use Rattle.std.specs.Borrow.{Bor}
use Rattle.std.specs.Prelude.{IfSome, is_some, option_copied}
use Rattle.std.proofs.lemmas.Bool.Decides.{nat_tests}
use Rattle.pw_kind.specs.Coordination.{Coordination}
use Rattle.pw_kind.specs.History.{Faultless, after_entry, replies, replies_from}
use Rattle.pw_history.specs.inner.Known.{AreKnown, IsKnown, first_known, for_each, others_known}

module _ {P Q A E S : Type 0} (C : Coordination P Q A E S) (plan : P) where
  -- # As many replies as entries

  few_replies : (s : S) (es : List E) → length (replies_from C plan s es) ≤ length es
  few_replies s [] = omega arith
  few_replies s (e ∷ es) = step (C.fault e == 0) (few_replies (after_entry C plan s e) es)
    where
      step : (b : Bool) → length (replies_from C plan (after_entry C plan s e) es) ≤ length es
          → length (cond b (C.answer plan s (C.request e) ∷ []) [] ++ replies_from C plan (after_entry C plan s e) es) ≤ suc (length es)
      step true le = omega (arith, le)
      step false le = omega (arith, le)

  all_replied : (s : S) (es : List E) → length (replies_from C plan s es) ≡ length es → Faultless C es
  all_replied s [] same = tt
  all_replied s (e ∷ es) same = step (C.fault e == 0) refl same (all_replied (after_entry C plan s e) es)
    where
      step : (b : Bool) → (C.fault e == 0) ≡ b → length (cond b (C.answer plan s (C.request e) ∷ []) [] ++ replies_from C plan (after_entry C plan s e) es) ≡ suc (length es)
          → (length (replies_from C plan (after_entry C plan s e) es) ≡ length es → Faultless C es) → (C.fault e ≡ 0) × Faultless C es
      step true none same later = (grind (arith, nat_tests), later (omega (arith, same)))
      step false some same later = let le = few_replies (after_entry C plan s e) es in absurd (omega (arith, same, le))

  pub all_known : (es : List E) (known : Option (List A)) → IfSome known (λ told. told ≡ replies C plan es) → AreKnown C plan (C.opening plan) es (for_each (length es) known)
  unfolding replies
  all_known es None is = tt
  all_known es (Some known) is = step (length known == length es) refl
    where
      step : (b : Bool) → (length known == length es) ≡ b → AreKnown C plan (C.opening plan) es (cond b (Some known) None)
      step true same = let sizes : length known ≡ length es = grind (arith, nat_tests) in (is, all_replied (C.opening plan) es (sym (ap length is) ∙ sizes))
      step false same = tt

  -- # One after the other

  reply_first : (s : S) (e : E) (es : List E) → C.fault e ≡ 0 → replies_from C plan s (e ∷ es) ≡ C.answer plan s (C.request e) ∷ replies_from C plan (after_entry C plan s e) es
  reply_first s e es none = let zero : (C.fault e == 0) ≡ true = grind (arith, nat_tests) in rw zero refl

  first_is : (s : S) (f : E) (es : List E) (e : E) → e ≡ f → (known : Option (List A)) → AreKnown C plan s (f ∷ es) known → IsKnown C plan s e (first_known known)
  first_is s f es e is None h = tt
  first_is s f es e is (Some []) h = tt
  first_is s f es e is (Some (r ∷ rs)) h =
      let all = h.0 ∙ reply_first s f es h.1.0 in
      (ap C.fault is ∙ h.1.0, ap (λ x. C.answer plan s (C.request x)) is ∙ sym (ap (λ xs. get_or xs 0 r) all))

  pub own_known : (s : S) (es : List E) (e : E) (known : Option (List A)) → 1 ≤ length es → e ≡ get_or es 0 e → AreKnown C plan s es known → IsKnown C plan s e (first_known known)
  own_known s [] e known le is h = absurd (omega arith)
  own_known s (f ∷ es) e known le is h = first_is s f es e is known h

  others_are : (s : S) (f : E) (es : List E) (known : Option (List A)) → AreKnown C plan s (f ∷ es) known → AreKnown C plan (after_entry C plan s f) es (others_known known)
  others_are s f es None h = tt
  others_are s f es (Some []) h = let all = h.0 ∙ reply_first s f es h.1.0 in cc
  others_are s f es (Some (r ∷ rs)) h =
      let all = h.0 ∙ reply_first s f es h.1.0 in
      (ap (drop 1) all, h.1.1)

  pub others_are_known : (s : S) (es : List E) (e : E) (known : Option (List A)) → 1 ≤ length es → e ≡ get_or es 0 e → AreKnown C plan s es known
      → AreKnown C plan (after_entry C plan s e) (drop 1 es) (others_known known)
  others_are_known s [] e known le is h = absurd (omega arith)
  others_are_known s (f ∷ es) e known le is h = subst (λ x. AreKnown C plan (after_entry C plan s x) es (others_known known)) (sym is) (others_are s f es known h)

  some_known : (s : S) (f : E) (es : List E) (known : Option (List A)) → AreKnown C plan s (f ∷ es) known → is_some (first_known known) ≡ is_some known
  some_known s f es None h = refl
  some_known s f es (Some []) h = let all = h.0 ∙ reply_first s f es h.1.0 in cc
  some_known s f es (Some (r ∷ rs)) h = refl

  pub as_known : (s : S) (es : List E) (known : Option (List A)) → 1 ≤ length es → AreKnown C plan s es known → is_some (first_known known) ≡ is_some known
  as_known s [] known le h = absurd (omega arith)
  as_known s (f ∷ es) known le h = some_known s f es known h

pub still_known : {A : Type 0} (known : Option (List A)) → is_some (others_known known) ≡ is_some known
still_known None = refl
still_known (Some []) = refl
still_known (Some (r ∷ rs)) = refl

pub copied_some : {X : Type 0} (known : Option (Bor X)) → is_some (option_copied known) ≡ is_some known
copied_some None = refl
copied_some (Some b) = refl

pub copied_told : {X : Type 0} (Q : X → Type 0) (known : Option (Bor X)) → IfSome known (λ b. Q b.now) → IfSome (option_copied known) Q
copied_told Q None h = h
copied_told Q (Some b) h = h
