-- The text of a history tells it, but for its seats.
use Rattle.std.proofs.Common.{◌≡◌, ◌+◌, ℕ, List, [], ◌∷◌, ◌++◌, map, take, get_or, codes, decimal, Option, Some, None, refl, ap, ap₂, sym, ◌∙◌, arith}
use Rattle.std.specs.List.{AllByRecursion}
use Rattle.std.proofs.lemmas.Fmt.{decimal_injective}
use Rattle.std.proofs.lemmas.List.{append_cancel_left}
use Rattle.acpi_values.specs.declared.operation.Op.{Op}
use Rattle.pw_kind.specs.History.{after_entry, entry_ops}
use Rattle.pw_text.specs.HistoryText.{fault_words}
use Rattle.pw_history.specs.Wording.{Wording}
use Rattle.pw_history.specs.HistoryText.{entry_line, history_lines, history_text, lines_from, op_line, opening_lines, outcome_words}
use Rattle.pw_history.specs.Telling.{EntriesFit, IsNarrowFault, Over, WordsTell}
use Rattle.pw_history.proofs.Alike.{after-alike, ops-alike}
use Rattle.pw_history.proofs.Each.{each_append, each_map}
use Rattle.pw_history.proofs.Cuts.{AllOver, ended-same, joined-over, joined-same, over-test}
use Rattle.pw_history.proofs.Numbers.{opening-over}

abbrev pub head_of : List (List ℕ) → List ℕ
head_of [] = []
head_of (l ∷ ls) = l

abbrev pub tail_of : List (List ℕ) → List (List ℕ)
tail_of [] = []
tail_of (l ∷ ls) = ls

module _ {P Q A E S : Type 0} (W : Wording P Q A E S) (plan : P) where
  -- # The opening

  pub heads-tell : (a b : Option ℕ) → IsNarrowFault a → IsNarrowFault b → head_of (opening_lines W plan a) ≡ head_of (opening_lines W plan b) → a ≡ b
  heads-tell None None h g e = refl
  heads-tell None (Some k) h g e = cc
  heads-tell (Some k) None h g e = cc
  heads-tell (Some k) (Some j) h g e =
      let words = joined-same 32 (codes "open") (codes "open") (codes "->" ∷ fault_words k) (codes "->" ∷ fault_words j) (opening-over k) (opening-over j) e in
      ap (λ n. Some n) (decimal_injective k j (omega arith) (omega arith) (ap (λ (ws : List (List ℕ)). get_or ws 5 []) words))

  -- lines that begin with one
  pub head-opening : (a : Option ℕ) (xs : List (List ℕ)) → head_of (opening_lines W plan a ++ xs) ≡ head_of (opening_lines W plan a)
  head-opening None xs = refl
  head-opening (Some k) xs = refl

  pub opening-same : (a b : Option ℕ) (xs ys : List (List ℕ)) → IsNarrowFault a → IsNarrowFault b → opening_lines W plan a ++ xs ≡ opening_lines W plan b ++ ys → (a ≡ b) × (xs ≡ ys)
  opening-same a b xs ys h g e =
      let same : a ≡ b = heads-tell a b h g (sym (head-opening a xs) ∙ ap (λ (ls : List (List ℕ)). head_of ls) e ∙ head-opening b ys) in
      (same, append_cancel_left (opening_lines W plan a) xs ys (e ∙ ap (λ (o : Option ℕ). opening_lines W plan o ++ ys) (sym same)))

module _ {P Q A E S : Type 0} {W : Wording P Q A E S} {plan : P} {IsNarrow : E → Type 0} (tell : WordsTell W plan IsNarrow) where
  -- # No line has a line feed

  pub ops-over : (os : List Op) → AllOver 10 (map (op_line W plan) os)
  ops-over os = each_map (Over 10) (op_line W plan) os tell.operations

  pub entry_line-over : (s : S) (n : ℕ) (e : E) → Over 10 (entry_line W plan s n e)
  entry_line-over s n e = joined-over 10 32 (decimal n ∷ W.path plan (W.asker e) ∷ W.request_words (W.kind.request e) ++ codes "->" ∷ outcome_words W plan s e) (omega arith) (tell.words s n e)

  from_over : (es : List E) (s : S) (n : ℕ) → AllOver 10 (lines_from W plan s n es)
  from_over [] s n = tt
  from_over (e ∷ es) s n = (
    entry_line-over s n e,
    each_append (Over 10) (map (op_line W plan) (entry_ops W.kind plan s e)) (lines_from W plan (after_entry W.kind plan s e) (n + 1) es)
        (ops-over (entry_ops W.kind plan s e)) (from_over es (after_entry W.kind plan s e) (n + 1)),
  )

  opening_over : (o : Option ℕ) → AllOver 10 (opening_lines W plan o)
  opening_over None = (over-test 10 (codes "open") refl, ops-over (W.opening_ops plan))
  opening_over (Some k) = (joined-over 10 32 (codes "open" ∷ codes "->" ∷ fault_words k) (omega arith) (opening-over k), ops-over (take k (W.opening_ops plan)))

  pub lines-over : (o : Option ℕ) (es : List E) → AllOver 10 (history_lines W plan o es)
  unfolding history_lines
  lines-over o es = each_append (Over 10) (opening_lines W plan o) (lines_from W plan (W.kind.opening plan) 1 es) (opening_over o) (from_over es (W.kind.opening plan) 1)

  -- # Entries

  module _ (fit : EntriesFit W plan) where
    entries_same : (es fs : List E) (s : S) (n : ℕ) → AllByRecursion (W.kind.IsEntry plan) es → AllByRecursion (W.kind.IsEntry plan) fs → AllByRecursion IsNarrow es → AllByRecursion IsNarrow fs
        → lines_from W plan s n es ≡ lines_from W plan s n fs → map W.unseated es ≡ map W.unseated fs
    entries_same [] [] s n is_es is_fs narrow_es narrow_fs same = refl
    entries_same [] (f ∷ fs) s n is_es is_fs narrow_es narrow_fs same = cc
    entries_same (e ∷ es) [] s n is_es is_fs narrow_es narrow_fs same = cc
    entries_same (e ∷ es) (f ∷ fs) s n is_es is_fs narrow_es narrow_fs same =
        let first : entry_line W plan s n e ≡ entry_line W plan s n f = ap (λ (ls : List (List ℕ)). head_of ls) same in
        let later : map (op_line W plan) (entry_ops W.kind plan s e) ++ lines_from W plan (after_entry W.kind plan s e) (n + 1) es
        ≡ map (op_line W plan) (entry_ops W.kind plan s f) ++ lines_from W plan (after_entry W.kind plan s f) (n + 1) fs = ap (λ (ls : List (List ℕ)). tail_of ls) same in
        let alike : W.unseated e ≡ W.unseated f = tell.entries s n e f is_es.0 is_fs.0 narrow_es.0 narrow_fs.0 first in
        let ops : map (op_line W plan) (entry_ops W.kind plan s e) ≡ map (op_line W plan) (entry_ops W.kind plan s f) = ap (λ (os : List Op). map (op_line W plan) os) (ops-alike fit s e f alike) in
        let rest : lines_from W plan (after_entry W.kind plan s e) (n + 1) es ≡ lines_from W plan (after_entry W.kind plan s f) (n + 1) fs =
        append_cancel_left (map (op_line W plan) (entry_ops W.kind plan s e)) (lines_from W plan (after_entry W.kind plan s e) (n + 1) es) (lines_from W plan (after_entry W.kind plan s f) (n + 1) fs)
        (later ∙ ap (λ l. l ++ lines_from W plan (after_entry W.kind plan s f) (n + 1) fs) (sym ops)) in
        ap₂ (λ (x : E) (xs : List E). x ∷ xs) alike
        (entries_same es fs (after_entry W.kind plan s e) (n + 1) is_es.1 is_fs.1 narrow_es.1 narrow_fs.1 (rest ∙ ap (λ (t : S). lines_from W plan t (n + 1) fs) (sym (after-alike fit s e f alike))))

    -- # The law

    pub text-tells : (a b : Option ℕ) (es fs : List E) → IsNarrowFault a → IsNarrowFault b → AllByRecursion (W.kind.IsEntry plan) es → AllByRecursion (W.kind.IsEntry plan) fs
        → AllByRecursion IsNarrow es → AllByRecursion IsNarrow fs → history_text W plan a es ≡ history_text W plan b fs → (a ≡ b) × (map W.unseated es ≡ map W.unseated fs)
    unfolding history_text history_lines
    text-tells a b es fs narrow_a narrow_b is_es is_fs narrow_es narrow_fs e =
        let lines = ended-same 10 (history_lines W plan a es) (history_lines W plan b fs) (lines-over a es) (lines-over b fs) e in
        let parts = opening-same W plan a b (lines_from W plan (W.kind.opening plan) 1 es) (lines_from W plan (W.kind.opening plan) 1 fs) narrow_a narrow_b lines in
        (parts.0, entries_same es fs (W.kind.opening plan) 1 is_es is_fs narrow_es narrow_fs parts.1)
