-- What goes on with the lines of a history is a line of a next entry.
use Rattle.std.proofs.Common.{◌≡◌, ◌<◌, ◌+◌, ℕ, suc, zero, List, [], ◌∷◌, ◌++◌, map, take, drop, length, get_or, Option, None, refl, ap, ap₂, sym, ◌∙◌, subst, arith, append_assoc, take-append-drop}
use Rattle.std.specs.List.{AllByRecursion}
use Rattle.std.proofs.lemmas.List.{append_cancel_left, append_cancel_right, length-map, map-append}
use Rattle.pw_kind.specs.History.{after_entry, entry_ops, replay, replay_from}
use Rattle.pw_kind.proofs.Joining.{each_first, each_last, legal-first}
use Rattle.acpi_values.specs.declared.operation.Op.{Op}
use Rattle.pw_text.specs.Lines.{with_feed}
use Rattle.pw_history.specs.Wording.{Wording}
use Rattle.pw_history.specs.Asked.{Begins, CanBeAsked, IsRunOf, IsStart, Lawful, own}
use Rattle.pw_history.specs.HistoryText.{history_lines, lines_from, op_line, opening_lines}
use Rattle.pw_history.specs.Telling.{TextsTell}
use Rattle.pw_history.specs.Wholes.{BeginsWhole, GoesOnWith, lines_within, next_line, next_op_lines, pieces_of}
use Rattle.pw_history.proofs.Alike.{after-alike, legal-alike, ops-alike, requests-alike}
use Rattle.pw_history.proofs.Beginnings.{text_lines}
use Rattle.pw_history.proofs.Completions.{first-begins}
use Rattle.pw_history.proofs.Determined.{head_of, opening-same, tail_of}
use Rattle.pw_history.proofs.Narrow.{lawful-narrow, lawful-opening, start-narrow}

-- # Lists of lines

pub nothing : {l : List ℕ} {ls : List (List ℕ)} → l ∷ ls ≡ [] → ⊥
nothing e = cc

record SplitsAs (ws zs ys : List (List ℕ)) : Type 0 where
  rest : List (List ℕ)
  is : zs ≡ ws ++ rest
  more : ys ≡ map with_feed rest

feeds_split : (ws zs ys : List (List ℕ)) → map with_feed ws ++ ys ≡ map with_feed zs → SplitsAs ws zs ys
feeds_split [] zs ys e = record { rest = zs; is = refl; more = e }
feeds_split (a ∷ ws) [] ys e = absurd (nothing e)
feeds_split (a ∷ ws) (z ∷ zs) ys e =
    let first : a ≡ z = append_cancel_right a z (10 ∷ []) (ap (λ (ls : List (List ℕ)). head_of ls) e) in
    let r = feeds_split ws zs ys (ap (λ (ls : List (List ℕ)). tail_of ls) e) in
    record { rest = r.rest; is = ap₂ (λ (l : List ℕ) (ls : List (List ℕ)). l ∷ ls) (sym first) r.is; more = r.more }

pub taken : (j : ℕ) (xs ys : List (List ℕ)) (l : List ℕ) (r : List (List ℕ)) → j < length xs → take j xs ++ l ∷ r ≡ xs ++ ys → l ≡ get_or xs j []
taken j [] ys l r lt e = absurd (omega arith)
taken zero (x ∷ xs) ys l r lt e = ap (λ (ls : List (List ℕ)). head_of ls) e
taken (suc j) (x ∷ xs) ys l r lt e = taken j xs ys l r (omega arith) (ap (λ (ls : List (List ℕ)). tail_of ls) e)

-- a whole text whose lines begin so
pub record WholeHas {P Q A E S : Type 0} (W : Wording P Q A E S) (plan : P) (asked : List Q) (shown : List (List ℕ)) (l : List ℕ) : Type 0 where
  pub opening : Option ℕ
  pub entries : List E
  pub lawful : Lawful W plan asked opening entries
  pub later : List (List ℕ)
  pub is : history_lines W plan opening entries ≡ shown ++ l ∷ later

module _ {P Q A E S : Type 0} {W : Wording P Q A E S} {plan : P} {IsNarrow : E → Type 0} {IsNarrowRequest : Q → Type 0} (laws : TextsTell W plan IsNarrow IsNarrowRequest) where
  pub whole_has : (asked : List Q) (shown : List (List ℕ)) (l : List ℕ) → BeginsWhole W plan asked (map with_feed shown ++ with_feed l ∷ []) → WholeHas W plan asked shown l
  whole_has asked shown l b =
      let w = b.whole in
      let A = map with_feed shown in
      let B = map with_feed (history_lines W plan w.opening w.entries) in
      let lines : pieces_of b.text ≡ B = ap pieces_of w.is ∙ text_lines laws.words w.opening w.entries in
      let n = length (A ++ with_feed l ∷ []) in
      let first : take n B ≡ A ++ with_feed l ∷ [] = ap (take n) (sym lines) ∙ b.first in
      let all : A ++ (with_feed l ∷ drop n B) ≡ B = sym (append_assoc A (with_feed l ∷ []) (drop n B)) ∙ ap (λ x. x ++ drop n B) (sym first) ∙ take-append-drop n B in
      let s = feeds_split shown (history_lines W plan w.opening w.entries) (with_feed l ∷ drop n B) all in
      step w.opening w.entries w.lawful (drop n B) s.rest s.more s.is
    where
      step : (o : Option ℕ) (fs : List E) → Lawful W plan asked o fs → (ys rest : List (List ℕ)) → with_feed l ∷ ys ≡ map with_feed rest → history_lines W plan o fs ≡ shown ++ rest
          → WholeHas W plan asked shown l
      step o fs lawful ys [] more is = absurd (nothing more)
      step o fs lawful ys (z ∷ rest) more is =
          let same : l ≡ z = append_cancel_right l z (10 ∷ []) (ap (λ (ls : List (List ℕ)). head_of ls) more) in
          record { opening = o; entries = fs; lawful = lawful; later = rest; is = is ∙ ap (λ x. shown ++ x ∷ rest) (sym same) }

  -- # A history whose lines begin those of another one begins it, but for its seats

  record Follows (es fs : List E) (s : S) (n : ℕ) (xs : List (List ℕ)) : Type 0 where
    before : List E
    later : List E
    split : fs ≡ before ++ later
    alike : map W.unseated before ≡ map W.unseated es
    rest : xs ≡ lines_from W plan (replay_from W.kind plan s es) (n + length es) later

  follows : (es fs : List E) (s : S) (n : ℕ) (xs : List (List ℕ)) → AllByRecursion (W.kind.IsEntry plan) es → AllByRecursion (W.kind.IsEntry plan) fs → AllByRecursion IsNarrow es
      → AllByRecursion IsNarrow fs → lines_from W plan s n es ++ xs ≡ lines_from W plan s n fs → Follows es fs s n xs
  follows [] fs s n xs is_es is_fs narrow_es narrow_fs same =
      let number : n ≡ n + 0 = omega arith in
      record { before = []; later = fs; split = refl; alike = refl; rest = same ∙ ap (λ m. lines_from W plan s m fs) number }
  follows (e ∷ es) [] s n xs is_es is_fs narrow_es narrow_fs same = absurd (nothing same)
  follows (e ∷ es) (f ∷ fs) s n xs is_es is_fs narrow_es narrow_fs same =
      let t = after_entry W.kind plan s e in
      let ops = map (op_line W plan) (entry_ops W.kind plan s e) in
      let more : (ops ++ lines_from W plan t (n + 1) es) ++ xs ≡ map (op_line W plan) (entry_ops W.kind plan s f) ++ lines_from W plan (after_entry W.kind plan s f) (n + 1) fs =
      ap (λ (ls : List (List ℕ)). tail_of ls) same in
      let like : W.unseated e ≡ W.unseated f = laws.words.entries s n e f is_es.0 is_fs.0 narrow_es.0 narrow_fs.0 (ap (λ (ls : List (List ℕ)). head_of ls) same) in
      let both : map (op_line W plan) (entry_ops W.kind plan s f) ++ lines_from W plan (after_entry W.kind plan s f) (n + 1) fs ≡ ops ++ lines_from W plan t (n + 1) fs =
      sym (ap₂ (λ (os : List Op) (u : S). map (op_line W plan) os ++ lines_from W plan u (n + 1) fs) (ops-alike laws.entries s e f like) (after-alike laws.entries s e f like)) in
      let left : lines_from W plan t (n + 1) es ++ xs ≡ lines_from W plan t (n + 1) fs =
      append_cancel_left ops (lines_from W plan t (n + 1) es ++ xs) (lines_from W plan t (n + 1) fs) (sym (append_assoc ops (lines_from W plan t (n + 1) es) xs) ∙ more ∙ both) in
      let r = follows es fs t (n + 1) xs is_es.1 is_fs.1 narrow_es.1 narrow_fs.1 left in
      let number : n + 1 + length es ≡ n + length (e ∷ es) = omega arith in
      record {
        before = f ∷ r.before;
        later = r.later;
        split = ap (λ l. f ∷ l) r.split;
        alike = ap₂ (λ (x : E) (xs : List E). x ∷ xs) (sym like) r.alike;
        rest = r.rest ∙ ap (λ m. lines_from W plan (replay_from W.kind plan s (e ∷ es)) m r.later) number;
      }

  module _ (asked : List Q) (are : CanBeAsked W IsNarrowRequest plan asked) where
    -- what a whole text with the lines of a history and one more says: what is asked behind it
    record Behind (es : List E) (xs : List (List ℕ)) : Type 0 where
      before : List E
      next : E
      later : List E
      run : IsRunOf W plan asked (before ++ next ∷ later)
      alike : map W.unseated before ≡ map W.unseated es
      narrow : IsNarrow next
      is : xs ≡ lines_from W plan (replay W.kind plan es) (1 + length es) (next ∷ later)

    behind : (es : List E) (l : List ℕ) (xs : List (List ℕ)) (o : Option ℕ) (fs : List E) → AllByRecursion (W.kind.IsEntry plan) es → AllByRecursion IsNarrow es → Lawful W plan asked o fs
        → history_lines W plan None es ++ l ∷ xs ≡ history_lines W plan o fs → Behind es (l ∷ xs)
    unfolding history_lines replay
    behind es l xs o fs is_es narrow_es lawful same =
        let begun = opening-same W plan None o (lines_from W plan (W.kind.opening plan) 1 es ++ l ∷ xs) (lines_from W plan (W.kind.opening plan) 1 fs) tt
        (lawful-opening laws.entries laws.numbers asked o fs lawful) (sym (append_assoc (opening_lines W plan None) (lines_from W plan (W.kind.opening plan) 1 es) (l ∷ xs)) ∙ same) in
        let run : IsRunOf W plan asked fs = subst (λ x. Lawful W plan asked x fs) (sym begun.0) lawful in
        let narrow = lawful-narrow laws.entries laws.numbers asked are.narrow o fs lawful in
        let r = follows es fs (W.kind.opening plan) 1 (l ∷ xs) is_es run.legal.well_formed.entries narrow_es narrow begun.1 in
        step r.before r.later r.alike (subst (IsRunOf W plan asked) r.split run) (subst (AllByRecursion IsNarrow) r.split narrow) r.rest
      where
        step : (before later : List E) → map W.unseated before ≡ map W.unseated es → IsRunOf W plan asked (before ++ later) → AllByRecursion IsNarrow (before ++ later)
            → l ∷ xs ≡ lines_from W plan (replay_from W.kind plan (W.kind.opening plan) es) (1 + length es) later → Behind es (l ∷ xs)
        step before [] alike run narrow rest = absurd (nothing rest)
        step before (e ∷ later) alike run narrow rest =
            record { before = before; next = e; later = later; run = run; alike = alike; narrow = (each_last IsNarrow before (e ∷ later) narrow).0; is = rest }

    -- # The next entry

    pub next-line : (es : List E) → IsStart W plan asked es → (l : List ℕ) → BeginsWhole W plan asked (map with_feed (history_lines W plan None es) ++ with_feed l ∷ []) → GoesOnWith W plan asked es l
    next-line es start l b =
        let h = whole_has asked (history_lines W plan None es) l b in
        let r = behind es l h.later h.opening h.entries start.legal.well_formed.entries (start-narrow laws.entries laws.numbers asked es are.narrow start) h.lawful (sym h.is) in
        let whole : IsRunOf W plan asked ((r.before ++ r.next ∷ []) ++ r.later) = subst (IsRunOf W plan asked) (sym (append_assoc r.before (r.next ∷ []) r.later)) r.run in
        let like : map W.unseated (r.before ++ r.next ∷ []) ≡ map W.unseated (es ++ r.next ∷ []) =
        map-append W.unseated r.before (r.next ∷ []) ∙ ap (λ x. x ++ W.unseated r.next ∷ []) r.alike ∙ sym (map-append W.unseated es (r.next ∷ [])) in
        record {
          entry = r.next;
          starts = record {
            legal = legal-alike laws.entries (r.before ++ r.next ∷ []) (es ++ r.next ∷ []) like (legal-first W.kind plan (r.before ++ r.next ∷ []) r.later whole.legal);
            begins = λ p lt. subst (λ q. Begins (own W p q) (own W p asked)) (requests-alike laws.entries (r.before ++ r.next ∷ []) (es ++ r.next ∷ []) like)
                (first-begins W plan asked (r.before ++ r.next ∷ []) r.later whole p lt);
          };
          line = ap (λ (ls : List (List ℕ)). head_of ls) r.is;
        }

    -- # The operations of an entry

    pub next-op : (es : List E) (e : E) → IsStart W plan asked (es ++ e ∷ []) → (j : ℕ) (l : List ℕ) → j < length (entry_ops W.kind plan (replay W.kind plan es) e)
        → BeginsWhole W plan asked (map with_feed (lines_within W plan es e j) ++ with_feed l ∷ []) → l ≡ get_or (next_op_lines W plan es e) j []
    next-op es e start j l lt b =
        let s = replay W.kind plan es in
        let n = 1 + length es in
        let ops = next_op_lines W plan es e in
        let shown = next_line W plan es e ∷ take j ops in
        let h = whole_has asked (history_lines W plan None es ++ shown) l b in
        let narrow = start-narrow laws.entries laws.numbers asked (es ++ e ∷ []) are.narrow start in
        let is = start.legal.well_formed.entries in
        let r = behind es (next_line W plan es e) (take j ops ++ l ∷ h.later) h.opening h.entries (each_first (W.kind.IsEntry plan) es (e ∷ []) is) (each_first IsNarrow es (e ∷ []) narrow) h.lawful
        (sym (append_assoc (history_lines W plan None es) shown (l ∷ h.later)) ∙ sym h.is) in
        let is_f = (each_last (W.kind.IsEntry plan) r.before (r.next ∷ r.later) r.run.legal.well_formed.entries).0 in
        let like : W.unseated e ≡ W.unseated r.next = laws.words.entries s n e r.next (each_last (W.kind.IsEntry plan) es (e ∷ []) is).0 is_f (each_last IsNarrow es (e ∷ []) narrow).0 r.narrow
        (ap (λ (ls : List (List ℕ)). head_of ls) r.is) in
        let after_f = lines_from W plan (after_entry W.kind plan s r.next) (n + 1) r.later in
        let more : take j ops ++ l ∷ h.later ≡ map (op_line W plan) (entry_ops W.kind plan s r.next) ++ after_f = ap (λ (ls : List (List ℕ)). tail_of ls) r.is in
        let within : j < length ops = omega (arith, lt, length-map (entry_ops W.kind plan s e) (op_line W plan)) in
        taken j ops after_f l h.later within (more ∙ ap (λ (os : List Op). map (op_line W plan) os ++ after_f) (sym (ops-alike laws.entries s e r.next like)))
