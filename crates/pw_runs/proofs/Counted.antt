-- The text of a history, or a trace of one, tells how many entries it has.
use Rattle.std.proofs.Common.{◌≡◌, ◌<◌, ◌==◌, ◌/◌, ◌%◌, ◌+◌, ℕ, zero, suc, Bool, true, false, cond, List, [], ◌∷◌, ◌++◌, map, take, length, decimal, Option, Some, None, sym, ap, ◌∙◌, inl, inr, arith, nat_lt, refl}
use Rattle.std.specs.Fmt.{digit_glyph, digits, digits_onto}
use Rattle.std.proofs.lemmas.Bool.{lt-ltb}
use Rattle.acpi_values.specs.declared.operation.Op.{Op}
use Rattle.acpi_values.specs.declared.operation.Op.TheVariants.{Set, Enter}
use Rattle.pw_kind.specs.History.{after_entry, entry_ops}
use Rattle.pw_plan.proofs.Lists.{each_append}
use Rattle.pw_history.specs.Wording.{Wording}
use Rattle.pw_history.specs.HistoryText.{op_line, opening_lines, outcome_words, request_line}
use Rattle.pw_history.specs.Telling.{Over, TextsTell}
use Rattle.pw_history.proofs.Cuts.{AllOver, ended-same}
use Rattle.pw_history.proofs.Numbers.{decimal-over}
use Rattle.pw_audit.specs.declared.form.Form.{Form}
use Rattle.pw_audit.specs.declared.form.Form.TheVariants.{History, Trace}
use Rattle.pw_audit.specs.Tracing.{IsWholeAs, Opens, Tells, TellsOps}
use Rattle.pw_audit.proofs.Told.{opens_over, tells_over}

-- # Lines that begin with a number

-- it doesn't begin with a space
abbrev is_head : List ℕ → Bool
is_head [] = false
is_head (b ∷ line) = nat_lt 32 b

abbrev heads : List (List ℕ) → ℕ
heads [] = 0
heads (line ∷ lines) = cond (is_head line) (suc (heads lines)) (heads lines)

onto_some : (k base : ℕ) (upper : Bool) (n : ℕ) (acc : List ℕ) → 0 < length acc → 0 < length (digits_onto k base upper n acc)
onto_some zero base upper n acc some = some
onto_some (suc k) base upper n acc some = step (n / base == 0) (onto_some k base upper (n / base) (digit_glyph upper (n % base) ∷ acc) (omega arith))
  where
    step : (b : Bool) → 0 < length (digits_onto k base upper (n / base) (digit_glyph upper (n % base) ∷ acc))
        → 0 < length (cond b (digit_glyph upper (n % base) ∷ acc) (digits_onto k base upper (n / base) (digit_glyph upper (n % base) ∷ acc)))
    step true later = omega arith
    step false later = later

first_onto : (k base : ℕ) (upper : Bool) (n : ℕ) → 0 < length (digits_onto (suc k) base upper n [])
first_onto k base upper n = step (n / base == 0) (onto_some k base upper (n / base) (digit_glyph upper (n % base) ∷ []) (omega arith))
  where
    step : (b : Bool) → 0 < length (digits_onto k base upper (n / base) (digit_glyph upper (n % base) ∷ []))
        → 0 < length (cond b (digit_glyph upper (n % base) ∷ []) (digits_onto k base upper (n / base) (digit_glyph upper (n % base) ∷ [])))
    step true later = omega arith
    step false later = later

decimal_some : (n : ℕ) → 0 < length (decimal n)
unfolding digits
decimal_some n = first_onto 63 10 false n

head_over : (w rest : List ℕ) → 0 < length w → Over 47 w → is_head (w ++ rest) ≡ true
head_over [] rest some over = absurd (omega (arith, some))
head_over (b ∷ w) rest some over = let above = over.0 in lt-ltb 32 b (omega (arith, above))

module _ {Plan Request Reply Entry State : Type 0} (W : Wording Plan Request Reply Entry State) where
  -- # The lines of a history

  head_entry : (plan : Plan) (n p : ℕ) (q : Request) (outcome : List (List ℕ)) → is_head (request_line W plan n p q outcome) ≡ true
  head_entry plan n p q outcome = head_over (decimal n) _ (decimal_some n) (decimal-over n)

  heads_ops : (plan : Plan) (os : List Op) (lines : List (List ℕ)) → heads (map (op_line W plan) os ++ lines) ≡ heads lines
  heads_ops plan [] lines = refl
  heads_ops plan (Set p r v ∷ os) lines = heads_ops plan os lines
  heads_ops plan (Enter p composite ∷ os) lines = heads_ops plan os lines

  heads_told : (form : Form) (plan : Plan) (os : List Op) (ls lines : List (List ℕ)) → TellsOps W form plan os ls → heads (ls ++ lines) ≡ heads lines
  heads_told History plan os ls lines told = ap (λ (l : List (List ℕ)). heads (l ++ lines)) told ∙ heads_ops plan os lines
  heads_told Trace plan os ls lines told = ap (λ (l : List (List ℕ)). heads (l ++ lines)) told.is ∙ heads_ops plan told.done lines

  heads_from : (form : Form) (plan : Plan) (es : List Entry) (S : State) (n : ℕ) (ls : List (List ℕ)) → Tells W form plan S n es ls → heads ls ≡ length es
  heads_from form plan [] S n ls t = ap heads t
  heads_from form plan (e ∷ es) S n ls t =
      let head = head_entry plan n (W.asker e) (W.kind.request e) (outcome_words W plan S e) in
      let ops = heads_told form plan (entry_ops W.kind plan S e) t.ops t.later t.tells in
      let later = heads_from form plan es (after_entry W.kind plan S e) (n + 1) t.later t.goes_on in
      ap heads t.is
      ∙ ap (λ (b : Bool). cond b (suc (heads (t.ops ++ t.later))) (heads (t.ops ++ t.later))) head
      ∙ ap (λ (k : ℕ). suc k) (ops ∙ later)

  -- # The lines of an opening

  heads_opening : (plan : Plan) (o : Option ℕ) (lines : List (List ℕ)) → heads (opening_lines W plan o ++ lines) ≡ suc (heads lines)
  heads_opening plan None lines = ap (λ (k : ℕ). suc k) (heads_ops plan (W.opening_ops plan) lines)
  heads_opening plan (Some k) lines = ap (λ (k : ℕ). suc k) (heads_ops plan (take k (W.opening_ops plan)) lines)

  heads_opened : (form : Form) (plan : Plan) (o : Option ℕ) (first lines : List (List ℕ)) → Opens W form plan o first → heads (first ++ lines) ≡ suc (heads lines)
  heads_opened History plan o first lines is = ap (λ (l : List (List ℕ)). heads (l ++ lines)) is ∙ heads_opening plan o lines
  heads_opened Trace plan None first lines (inl is) = ap (λ (l : List (List ℕ)). heads (l ++ lines)) is
  heads_opened Trace plan None first lines (inr is) = ap (λ (l : List (List ℕ)). heads (l ++ lines)) is ∙ heads_opening plan None lines
  heads_opened Trace plan (Some k) first lines is = ap (λ (l : List (List ℕ)). heads (l ++ lines)) is ∙ heads_opening plan (Some k) lines

-- # Texts

module _ {Plan Request Reply Entry State : Type 0} {W : Wording Plan Request Reply Entry State} {plan : Plan} {IsNarrow : Entry → Type 0}
    {IsNarrowRequest : Request → Type 0} (laws : TextsTell W plan IsNarrow IsNarrowRequest) (form : Form) (asked : List Request) (text : List ℕ) where
  abbrev lines : IsWholeAs W form plan asked text → List (List ℕ)
  lines w = w.is.first ++ w.is.later

  lines_over : (w : IsWholeAs W form plan asked text) → AllOver 10 (lines w)
  lines_over w =
      each_append (Over 10) w.is.first w.is.later (opens_over plan laws form w.o w.is.first w.is.opens)
      (tells_over plan laws form w.entries (W.kind.opening plan) 1 w.is.later w.is.tells)

  heads_text : (w : IsWholeAs W form plan asked text) → heads (lines w) ≡ suc (length w.entries)
  heads_text w =
      heads_opened W form plan w.o w.is.first w.is.later w.is.opens
      ∙ ap (λ (k : ℕ). suc k) (heads_from W form plan w.entries (W.kind.opening plan) 1 w.is.later w.is.tells)

  -- as which histories a text is whole, they have as many entries
  pub same_count : (a b : IsWholeAs W form plan asked text) → length a.entries ≡ length b.entries
  same_count a b =
      let same = ended-same 10 (lines a) (lines b) (lines_over a) (lines_over b) (sym a.is.is ∙ b.is.is) in
      let counts = sym (heads_text a) ∙ ap heads same ∙ heads_text b in
      omega (arith, counts)
