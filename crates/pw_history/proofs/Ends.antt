-- A text is whole exactly where the history that it tells is one of the requests.
use Rattle.std.proofs.Common.{◌≡◌, ◌<◌, ◌^◌, ℕ, suc, zero, List, [], ◌∷◌, ◌++◌, map, take, length, get_or, min, ◌≤◌, length-take, take-take, Option, Some, None, refl, ap, sym, ◌∙◌, subst, inl, inr, arith}
use Rattle.std.specs.List.{AllByRecursion}
use Rattle.std.proofs.lemmas.List.{take_min}
use Rattle.pw_kind.specs.History.{Faultless}
use Rattle.pw_kind.proofs.Joining.{last_before}
use Rattle.pw_text.specs.Lines.{with_feed}
use Rattle.pw_history.specs.Wording.{Wording}
use Rattle.pw_history.specs.Asked.{CanBeAsked, IsRunOf, IsStart, Lawful}
use Rattle.pw_history.specs.HistoryText.{history_lines, history_text, lines_from, opening_lines}
use Rattle.pw_history.specs.Telling.{IsNarrowFault, TextsTell, WordsTell}
use Rattle.pw_history.specs.Wholes.{BeginsWhole, HasFeed, IsFirstLine, IsWhole, pieces_of}
use Rattle.pw_history.proofs.Alike.{run-alike}
use Rattle.pw_history.proofs.Beginnings.{text_lines}
use Rattle.pw_history.proofs.Determined.{head-opening, head_of, heads-tell, opening-same, text-tells}
use Rattle.pw_history.proofs.Each.{each_map}
use Rattle.pw_history.proofs.Narrow.{lawful-formed, lawful-narrow, lawful-opening, start-narrow}
use Rattle.pw_history.proofs.Nexts.{next-line, nothing, taken, whole_has}

module _ {P Q A E S : Type 0} {W : Wording P Q A E S} {plan : P} {IsNarrow : E → Type 0} {IsNarrowRequest : Q → Type 0} (laws : TextsTell W plan IsNarrow IsNarrowRequest) where
  -- a text tells what may come of requests
  pub lawful-told : (asked others : List Q) (a b : Option ℕ) (es fs : List E) → AllByRecursion IsNarrowRequest asked → AllByRecursion IsNarrowRequest others → Lawful W plan asked a es
      → Lawful W plan others b fs → history_text W plan a es ≡ history_text W plan b fs → (a ≡ b) × (map W.unseated es ≡ map W.unseated fs)
  lawful-told asked others a b es fs narrow narrow_others lawful other same =
      text-tells laws.words laws.entries a b es fs (lawful-opening laws.entries laws.numbers asked a es lawful) (lawful-opening laws.entries laws.numbers others b fs other)
      (lawful-formed W plan asked a es lawful) (lawful-formed W plan others b fs other)
      (lawful-narrow laws.entries laws.numbers asked narrow a es lawful) (lawful-narrow laws.entries laws.numbers others narrow_others b fs other) same

  module _ (asked : List Q) (are : CanBeAsked W IsNarrowRequest plan asked) where
    pub whole-run : (es : List E) → IsStart W plan asked es → IsWhole W plan asked (history_text W plan None es) → IsRunOf W plan asked es
    whole-run es start w =
        let r = text-tells laws.words laws.entries None w.opening es w.entries tt (lawful-opening laws.entries laws.numbers asked w.opening w.entries w.lawful) start.legal.well_formed.entries
        (lawful-formed W plan asked w.opening w.entries w.lawful) (start-narrow laws.entries laws.numbers asked es are.narrow start)
        (lawful-narrow laws.entries laws.numbers asked are.narrow w.opening w.entries w.lawful) w.is in
        run-alike laws.entries asked w.entries es (sym r.1) (subst (λ o. Lawful W plan asked o w.entries) (sym r.0) w.lawful)

    -- # The lines of the opening, and what follows a fault

    pub first-line : (l : List ℕ) → BeginsWhole W plan asked (with_feed l ∷ []) → IsFirstLine W plan l
    unfolding history_lines
    first-line l b = let h = whole_has laws asked [] l b in step h.opening h.entries h.later h.lawful h.is
      where
        step : (o : Option ℕ) (fs : List E) (later : List (List ℕ)) → Lawful W plan asked o fs → opening_lines W plan o ++ lines_from W plan (W.kind.opening plan) 1 fs ≡ l ∷ later
            → IsFirstLine W plan l
        step None fs later lawful e = inl (ap (λ (ls : List (List ℕ)). head_of ls) (sym e))
        step (Some k) fs later lawful e = inr (k, lawful.0, ap (λ (ls : List (List ℕ)). head_of ls) (sym e))

    -- the next operation of the opening
    pub opening-op : (o : Option ℕ) (j : ℕ) (l : List ℕ) → IsNarrowFault o → suc j < length (opening_lines W plan o)
        → BeginsWhole W plan asked (map with_feed (take (suc j) (opening_lines W plan o)) ++ with_feed l ∷ []) → l ≡ get_or (opening_lines W plan o) (suc j) []
    unfolding history_lines
    opening-op o j l narrow lt b =
        let h = whole_has laws asked (take (suc j) (opening_lines W plan o)) l b in
        let rest = lines_from W plan (W.kind.opening plan) 1 h.entries in
        let heads : head_of (opening_lines W plan o) ≡ head_of (opening_lines W plan h.opening) =
        sym (taken_head j (opening_lines W plan o) (l ∷ h.later) lt) ∙ ap (λ (ls : List (List ℕ)). head_of ls) (sym h.is) ∙ head-opening W plan h.opening rest in
        let same : o ≡ h.opening = heads-tell W plan o h.opening narrow (lawful-opening laws.entries laws.numbers asked h.opening h.entries h.lawful) heads in
        taken (suc j) (opening_lines W plan o) rest l h.later lt (sym h.is ∙ ap (λ x. opening_lines W plan x ++ rest) (sym same))
      where
        taken_head : (j : ℕ) (xs ys : List (List ℕ)) → suc j < length xs → head_of (take (suc j) xs ++ ys) ≡ head_of xs
        taken_head j [] ys lt = absurd (omega arith)
        taken_head j (x ∷ xs) ys lt = refl

    -- nothing follows an opening that a fault ended
    pub opening-ends : (k : ℕ) (l : List ℕ) → k < 2 ^ 32 → BeginsWhole W plan asked (map with_feed (opening_lines W plan (Some k)) ++ with_feed l ∷ []) → ⊥
    unfolding history_lines
    opening-ends k l narrow b =
        let h = whole_has laws asked (opening_lines W plan (Some k)) l b in
        let r = opening-same W plan h.opening (Some k) (lines_from W plan (W.kind.opening plan) 1 h.entries) (l ∷ h.later)
        (lawful-opening laws.entries laws.numbers asked h.opening h.entries h.lawful) narrow h.is in
        let none : h.entries ≡ [] = (subst (λ o. Lawful W plan asked o h.entries) r.0 h.lawful).1 in
        nothing (sym r.1 ∙ ap (lines_from W plan (W.kind.opening plan) 1) none)

    -- nor an entry that is a fault
    pub fault-ends : (es : List E) → IsStart W plan asked es → (l : List ℕ) → BeginsWhole W plan asked (map with_feed (history_lines W plan None es) ++ with_feed l ∷ []) → Faultless W.kind es
    fault-ends es start l b =
        let on = next-line laws asked are es start l b in
        last_before W.kind es [] on.entry on.starts.legal.well_formed.fault

-- # Each line has its line feed

each_take : {X : Type 0} (T : X → Type 0) (n : ℕ) (xs : List X) → AllByRecursion T xs → AllByRecursion T (take n xs)
each_take T zero xs a = tt
each_take T (suc n) [] a = tt
each_take T (suc n) (x ∷ xs) a = (a.0, each_take T n xs a.1)

pub each-feed : {P Q A E S : Type 0} {W : Wording P Q A E S} {plan : P} {IsNarrow : E → Type 0} → WordsTell W plan IsNarrow → (asked : List Q) (lines : List (List ℕ))
    → BeginsWhole W plan asked lines → AllByRecursion HasFeed lines
each-feed {W = W} {plan = plan} tell asked lines b =
    let w = b.whole in
    let all : pieces_of b.text ≡ map with_feed (history_lines W plan w.opening w.entries) = ap pieces_of w.is ∙ text_lines tell w.opening w.entries in
    subst (AllByRecursion HasFeed) (ap (take (length lines)) (sym all) ∙ b.first)
    (each_take HasFeed (length lines) (map with_feed (history_lines W plan w.opening w.entries))
    (each_map HasFeed with_feed (history_lines W plan w.opening w.entries) (λ l. record { line = l; is = refl })))

-- fewer of the first lines are first lines too
pub begins-shorter : {P Q A E S : Type 0} (W : Wording P Q A E S) (plan : P) (asked : List Q) (lines : List (List ℕ)) (j : ℕ) → BeginsWhole W plan asked lines → BeginsWhole W plan asked (take j lines)
begins-shorter W plan asked lines j b =
    let n : length (take j lines) ≡ min j (length lines) = length-take j lines in
    let le : min j (length lines) ≤ length lines = omega arith in
    record {
      text = b.text;
      whole = b.whole;
      first =
          ap (λ m. take m (pieces_of b.text)) n
          ∙ sym (take-take (min j (length lines)) (length lines) (pieces_of b.text) le)
          ∙ ap (take (min j (length lines))) b.first
          ∙ take_min j lines;
    }
