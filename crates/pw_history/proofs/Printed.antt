-- The text of a history in its parts.
use Rattle.std.proofs.Common.{◌≡◌, ◌≢◌, ◌∙◌, ◌≤◌, ◌+◌, ◌-◌, ◌==◌, ℕ, Bool, true, false, cond, List, [], ◌∷◌, ◌++◌, map, take, drop, length, get_or, refl, ap, sym, subst, arith, Option}
use Rattle.std.specs.List.{AllByRecursion, flat_map}
use Rattle.std.proofs.lemmas.Bool.Decides.{nat_tests}
use Rattle.std.proofs.lemmas.List.{append-nil}
use Rattle.std.proofs.lemmas.Grind.{flat_map-append}
use Rattle.acpi_values.specs.declared.operation.Op.{Op}
use Rattle.pw_kind.specs.History.{after_entry}
use Rattle.pw_text.specs.Lines.{text_of}
use Rattle.pw_text.specs.Behind.{asked_head, behind}
use Rattle.pw_text.specs.HistoryText.{fault_words}
use Rattle.pw_text.proofs.Printed.{asked_text}
use Rattle.pw_history.specs.Wording.{Wording}
use Rattle.pw_history.specs.HistoryText.{entry_lines, history_lines, history_text, lines_from, op_line, opening_lines, request_line}

module _ {P Q A E S : Type 0} (W : Wording P Q A E S) (plan : P) where
  -- # One entry

  pub entry_text : (n : ℕ) (q : Q) (out : List (List ℕ)) (ops : List Op)
      → asked_head n (W.path plan (W.cpu q)) (W.request_words q) ++ (behind out ++ (10 ∷ flat_map (λ o. op_line W plan o ++ (10 ∷ [])) ops))
      ≡ text_of (request_line W plan n (W.cpu q) q out ∷ map (op_line W plan) ops)
  entry_text n q out ops = asked_text (op_line W plan) n (W.path plan (W.cpu q)) (W.request_words q) out ops

  -- that was answered, or that a fault ended
  module _ (s : S) (n : ℕ) (e : E) (q : Q) (is : q ≡ W.kind.request e) (asker : W.asker e ≡ W.cpu q) where
    abbrev lines : ℕ → Q → List (List ℕ) → List Op → List ℕ
    lines p x out ops = text_of (request_line W plan n p x out ∷ map (op_line W plan) ops)

    asked_lines : (out : List (List ℕ)) (ops : List Op) → lines (W.cpu q) q out ops ≡ lines (W.asker e) (W.kind.request e) out ops
    asked_lines out ops = ap (λ p. lines p q out ops) (sym asker) ∙ ap (λ x. lines (W.asker e) x out ops) is

    by_fault : (b : Bool) → (W.kind.fault e == 0) ≡ b
        → lines (W.asker e) (W.kind.request e) (cond b (W.reply_words (W.kind.answer plan s (W.kind.request e))) (fault_words (W.kind.fault e - 1)))
        (cond b (W.kind.ops plan s (W.kind.request e)) (take (W.kind.fault e - 1) (W.kind.ops plan s (W.kind.request e))))
        ≡ text_of (entry_lines W plan s n e)
    by_fault b h = ap (λ t. lines (W.asker e) (W.kind.request e) (cond t (W.reply_words (W.kind.answer plan s (W.kind.request e))) (fault_words (W.kind.fault e - 1)))
        (cond t (W.kind.ops plan s (W.kind.request e)) (take (W.kind.fault e - 1) (W.kind.ops plan s (W.kind.request e))))) (sym h)

    pub answered_lines : (reply : A) (ops : List Op) → W.kind.fault e ≡ 0 → reply ≡ W.kind.answer plan s q → ops ≡ W.kind.ops plan s q
        → lines (W.cpu q) q (W.reply_words reply) ops ≡ text_of (entry_lines W plan s n e)
    answered_lines reply ops none told list =
        asked_lines (W.reply_words reply) ops
        ∙ ap (λ r. lines (W.asker e) (W.kind.request e) (W.reply_words r) ops) (told ∙ ap (W.kind.answer plan s) is)
        ∙ ap (λ os. lines (W.asker e) (W.kind.request e) (W.reply_words (W.kind.answer plan s (W.kind.request e))) os) (list ∙ ap (W.kind.ops plan s) is)
        ∙ by_fault true (grind (arith, nat_tests))

    pub faulted_lines : (done : ℕ) (ops : List Op) → W.kind.fault e ≢ 0 → done ≡ W.kind.fault e - 1 → ops ≡ take done (W.kind.ops plan s q)
        → lines (W.cpu q) q (fault_words done) ops ≡ text_of (entry_lines W plan s n e)
    faulted_lines done ops some at list =
        asked_lines (fault_words done) ops
        ∙ ap (λ os. lines (W.asker e) (W.kind.request e) (fault_words done) os) (list ∙ ap (λ x. take done (W.kind.ops plan s x)) is)
        ∙ ap (λ k. lines (W.asker e) (W.kind.request e) (fault_words k) (take k (W.kind.ops plan s (W.kind.request e)))) at
        ∙ by_fault false (grind (arith, nat_tests))

    pub after_answered : W.kind.fault e ≡ 0 → W.kind.after plan s q ≡ after_entry W.kind plan s e
    after_answered none = let zero : (W.kind.fault e == 0) ≡ true = grind (arith, nat_tests) in rw zero (ap (W.kind.after plan s) is)

    pub after_fault : W.kind.fault e ≢ 0 → s ≡ after_entry W.kind plan s e
    after_fault some = let not_zero : (W.kind.fault e == 0) ≡ false = grind (arith, nat_tests) in rw not_zero refl

  -- # All entries

  pub lines_step : (s : S) (n : ℕ) (es : List E) (e : E) → 1 ≤ length es → e ≡ get_or es 0 e
      → text_of (entry_lines W plan s n e) ++ text_of (lines_from W plan (after_entry W.kind plan s e) (n + 1) (drop 1 es)) ≡ text_of (lines_from W plan s n es)
  lines_step s n [] e le is = absurd (omega arith)
  lines_step s n (f ∷ es) e le is =
      ap (λ (x : E). text_of (entry_lines W plan s n x) ++ text_of (lines_from W plan (after_entry W.kind plan s x) (n + 1) es)) is
      ∙ sym (flat_map-append (λ (l : List ℕ). l ++ (10 ∷ [])) (entry_lines W plan s n f) (lines_from W plan (after_entry W.kind plan s f) (n + 1) es))

  pub whole_text : (fault : Option ℕ) (es : List E)
      → text_of (opening_lines W plan fault) ++ (text_of (lines_from W plan (W.kind.opening plan) 1 es) ++ []) ≡ history_text W plan fault es
  unfolding history_text history_lines
  whole_text fault es =
      ap (λ (l : List ℕ). text_of (opening_lines W plan fault) ++ l) (append-nil (text_of (lines_from W plan (W.kind.opening plan) 1 es)))
      ∙ sym (flat_map-append (λ (l : List ℕ). l ++ (10 ∷ [])) (opening_lines W plan fault) (lines_from W plan (W.kind.opening plan) 1 es))

pub others_state : {E : Type 0} (Q : E → Type 0) (es : List E) → 1 ≤ length es → AllByRecursion Q es → AllByRecursion Q (drop 1 es)
others_state Q [] le h = absurd (omega arith)
others_state Q (e ∷ es) le h = h.1

pub first_states : {E : Type 0} (Q : E → Type 0) (es : List E) (e : E) → 1 ≤ length es → e ≡ get_or es 0 e → AllByRecursion Q es → Q e
first_states Q [] e le is h = absurd (omega arith)
first_states Q (f ∷ es) e le is h = subst Q (sym is) h.0
