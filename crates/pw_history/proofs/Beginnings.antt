-- The lines of a history begin those of the histories that it begins.
use Rattle.std.proofs.Common.{◌≡◌, ◌⊎◌, ◌≤◌, ◌<◌, ◌==◌, ◌+◌, ℕ, min, false, List, [], ◌∷◌, ◌++◌, map, take, length, Option, Some, None, refl, ap, sym, ◌∙◌, subst, inl, inr, arith, append_assoc, append-nil, length-take, ne_eqb}
use Rattle.std.specs.List.{AllByRecursion}
use Rattle.std.proofs.lemmas.Bool.{cases_eq}
use Rattle.std.proofs.lemmas.List.{map-append, take-append-le, take_min}
use Rattle.pw_kind.specs.History.{Faultless, after_entry, replay, replay_from}
use Rattle.pw_text.specs.Lines.{text_of, with_feed}
use Rattle.pw_history.specs.Wording.{Wording}
use Rattle.pw_history.specs.Asked.{IsRunOf, IsStart, Lawful, left_after}
use Rattle.pw_history.specs.HistoryText.{entry_lines, history_lines, history_text, lines_from, opening_lines}
use Rattle.pw_history.specs.Telling.{EntriesFit, Over, WordsTell}
use Rattle.pw_history.specs.Wholes.{BeginsStart, BeginsWhole, Starts, pieces_of}
use Rattle.pw_history.proofs.Completions.{completed-run}
use Rattle.pw_history.proofs.Cuts.{AllOver}
use Rattle.pw_history.proofs.Determined.{lines-over}

-- # The lines of a text

pub one_line : (l r : List ℕ) → Over 10 l → pieces_of (l ++ 10 ∷ r) ≡ with_feed l ∷ pieces_of r
one_line [] r o = refl
one_line (b ∷ l) r o =
    let over = o.0 in
    let other : (b == 10) ≡ false = ne_eqb b 10 (λ e. absurd (omega (arith, over, e))) in
    rw (other, one_line l r o.1) refl

pub pieces_of-text : (ls : List (List ℕ)) → AllOver 10 ls → pieces_of (text_of ls) ≡ map with_feed ls
pieces_of-text [] o = refl
pieces_of-text (l ∷ ls) o = ap pieces_of (append_assoc l (10 ∷ []) (text_of ls)) ∙ one_line l (text_of ls) o.0 ∙ ap (λ r. with_feed l ∷ r) (pieces_of-text ls o.1)

take_first : {X : Type 0} (k : ℕ) (xs ys : List X) → take (length (take k xs)) (xs ++ ys) ≡ take k xs
take_first k xs ys =
    let within : min k (length xs) ≤ length xs = omega arith in
    ap (λ n. take n (xs ++ ys)) (length-take k xs) ∙ take-append-le (min k (length xs)) xs ys within ∙ take_min k xs

module _ {P Q A E S : Type 0} (W : Wording P Q A E S) (plan : P) where
  -- # The lines of one history behind another

  pub lines_from-append : (es fs : List E) (s : S) (n : ℕ) → lines_from W plan s n (es ++ fs) ≡ lines_from W plan s n es ++ lines_from W plan (replay_from W.kind plan s es) (n + length es) fs
  lines_from-append [] fs s n = let e : n ≡ n + 0 = omega arith in ap (λ m. lines_from W plan s m fs) e
  lines_from-append (e ∷ es) fs s n =
      let t = after_entry W.kind plan s e in
      let left = replay_from W.kind plan s (e ∷ es) in
      let number : n + 1 + length es ≡ n + length (e ∷ es) = omega arith in
      ap (λ l. entry_lines W plan s n e ++ l) (lines_from-append es fs t (n + 1) ∙ ap (λ m. lines_from W plan t (n + 1) es ++ lines_from W plan left m fs) number)
      ∙ sym (append_assoc (entry_lines W plan s n e) (lines_from W plan t (n + 1) es) (lines_from W plan left (n + length (e ∷ es)) fs))

  pub history_lines-append : (o : Option ℕ) (es fs : List E) → history_lines W plan o (es ++ fs) ≡ history_lines W plan o es ++ lines_from W plan (replay W.kind plan es) (1 + length es) fs
  unfolding history_lines replay
  history_lines-append o es fs =
      ap (λ l. opening_lines W plan o ++ l) (lines_from-append es fs (W.kind.opening plan) 1)
      ∙ sym (append_assoc (opening_lines W plan o) (lines_from W plan (W.kind.opening plan) 1 es) (lines_from W plan (replay_from W.kind plan (W.kind.opening plan) es) (1 + length es) fs))

  -- # A start goes on to a history of all requests

  faultless_or : (es : List E) → Faultless W.kind es ⊎ (Faultless W.kind es → ⊥)
  faultless_or [] = inl tt
  faultless_or (e ∷ es) = elim (cases_eq (W.kind.fault e) 0) [
    | inl z ↦ elim (faultless_or es) [
      | inl none ↦ inl (z, none)
      | inr some ↦ inr (λ f. some f.1)
    ]
    | inr ne ↦ inr (λ f. ne f.0)
  ]

  record GoesOn (asked : List Q) (es : List E) : Type 0 where
    later : List E
    run : IsRunOf W plan asked (es ++ later)

  goes_on : EntriesFit W plan → (asked : List Q) → AllByRecursion (λ q. W.cpu q < W.cpus plan) asked → (es : List E) → IsStart W plan asked es → GoesOn asked es
  goes_on fit asked has es start = elim (faultless_or es) [
    | inl none ↦ record {
      later = map W.entry (left_after W asked es);
      run = completed-run fit asked es has none start;
    }
    | inr some ↦ record {
      later = [];
      run = subst (IsRunOf W plan asked) (sym (append-nil es)) (record { legal = start.legal; begins = start.begins; whole = λ none. absurd (some none) });
    }
  ]

module _ {P Q A E S : Type 0} {W : Wording P Q A E S} {plan : P} {IsNarrow : E → Type 0} (tell : WordsTell W plan IsNarrow) where
  pub text_lines : (o : Option ℕ) (es : List E) → pieces_of (history_text W plan o es) ≡ map with_feed (history_lines W plan o es)
  unfolding history_text
  text_lines o es = pieces_of-text (history_lines W plan o es) (lines-over tell o es)

  first_lines : (o : Option ℕ) (es fs : List E) (lines : List (List ℕ)) → take (length lines) (map with_feed (history_lines W plan o es)) ≡ lines
      → take (length lines) (pieces_of (history_text W plan o (es ++ fs))) ≡ lines
  first_lines o es fs lines first =
      let rest = lines_from W plan (replay W.kind plan es) (1 + length es) fs in
      let A = map with_feed (history_lines W plan o es) in
      let all : pieces_of (history_text W plan o (es ++ fs)) ≡ A ++ map with_feed rest =
      text_lines o (es ++ fs) ∙ ap (map with_feed) (history_lines-append W plan o es fs) ∙ map-append with_feed (history_lines W plan o es) rest in
      let a : take (length (take (length lines) A)) (A ++ map with_feed rest) ≡ take (length lines) A = take_first (length lines) A (map with_feed rest) in
      let n : length (take (length lines) A) ≡ length lines = ap length first in
      ap (take (length lines)) all ∙ ap (λ k. take k (A ++ map with_feed rest)) (sym n) ∙ a ∙ first

  pub begins-start : (asked : List Q) (lines : List (List ℕ)) → BeginsWhole W plan asked lines → BeginsStart W plan asked lines
  begins-start asked lines b = record {
    opening = b.whole.opening;
    entries = b.whole.entries;
    starts = of b.whole.opening b.whole.entries b.whole.lawful;
    first = ap (take (length lines)) (sym (text_lines b.whole.opening b.whole.entries) ∙ ap pieces_of (sym b.whole.is)) ∙ b.first;
  }
    where
      of : (o : Option ℕ) (es : List E) → Lawful W plan asked o es → Starts W plan asked o es
      of None es lawful = record { legal = lawful.legal; begins = lawful.begins }
      of (Some k) es lawful = lawful

  pub begins-whole : EntriesFit W plan → (asked : List Q) → AllByRecursion (λ q. W.cpu q < W.cpus plan) asked → (lines : List (List ℕ)) → BeginsStart W plan asked lines
      → BeginsWhole W plan asked lines
  begins-whole fit asked has lines b = of b.opening b.entries b.starts b.first
    where
      of : (o : Option ℕ) (es : List E) → Starts W plan asked o es → take (length lines) (map with_feed (history_lines W plan o es)) ≡ lines → BeginsWhole W plan asked lines
      of None es start first =
          let on = goes_on W plan fit asked has es start in
          record {
            text = history_text W plan None (es ++ on.later);
            whole = record { opening = None; entries = es ++ on.later; lawful = on.run; is = refl };
            first = first_lines None es on.later lines first;
          }
      of (Some k) es start first =
          record {
            text = history_text W plan (Some k) [];
            whole = record { opening = Some k; entries = []; lawful = (start.0, refl); is = refl };
            first = first_lines (Some k) [] [] lines (ap (λ fs. take (length lines) (map with_feed (history_lines W plan (Some k) fs))) (sym start.1) ∙ first);
          }
