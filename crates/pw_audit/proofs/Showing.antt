-- Texts that begin with the lines of a start.
use Rattle.std.proofs.Common.{◌≡◌, ◌⊎◌, ◌<◌, ◌≤◌, ◌+◌, ◌==◌, ◌∙◌, ℕ, min, suc, Bool, true, false, List, [], ◌∷◌, ◌++◌, map, take, drop, length, length-take, Option, Some, None, refl, ap, ap₂, sym, subst, inl, inr, arith, append_assoc, append-nil, eqb-true, take-append-drop, take-take}
use Rattle.std.specs.List.{AllByRecursion}
use Rattle.std.proofs.Math.Seq.{take-append_seam}
use Rattle.std.proofs.lemmas.Bool.{cases_eq}
use Rattle.std.proofs.lemmas.List.{append_cancel_right, length-append, length-map, map-append, take-append-le, take-map, take_min}
use Rattle.pw_text.specs.Lines.{text_of, with_feed}
use Rattle.pw_audit.specs.declared.form.Form.{Form}
use Rattle.pw_audit.proofs.Told.{opens_over, tells_append, tells_listed, tells_over}
use Rattle.pw_kind.specs.History as histories
use Rattle.pw_history.specs.Asked.{Begins, CanBeAsked, IsRunOf, IsStart, Lawful, left_after}
use Rattle.pw_history.specs.HistoryText.{lines_from}
use Rattle.pw_history.specs.Wholes.{HasFeed, Starts, onto_first, pieces_of}
use Rattle.pw_history.specs.Telling.{Over, TextsTell}
use Rattle.pw_history.specs.Wording.{Wording}
use Rattle.pw_history.proofs.Cuts.{AllOver}
use Rattle.pw_history.proofs.Determined.{head_of, tail_of}
use Rattle.pw_history.proofs.Completions.{completed-run}
use Rattle.pw_history.proofs.Beginnings.{one_line, pieces_of-text}
use Rattle.pw_history.proofs.Each.{each_append, each_map}
use Rattle.pw_kind.proofs.Joining.{each_first, each_last}
use Rattle.pw_audit.specs.Tracing.{BeginsAs, IsUnfinishedAs, IsWholeAs, IsWrongAs, Opens, Tells}

nothing : {x : List ℕ} {xs : List (List ℕ)} → x ∷ xs ≡ [] → ⊥
nothing e = cc

-- # Pieces

regroup : (l t r : List ℕ) → (with_feed l ++ t) ++ r ≡ l ++ 10 ∷ (t ++ r)
regroup l t r = simp append_assoc

pieces-append : (ls : List (List ℕ)) (rest : List ℕ) → AllOver 10 ls → pieces_of (text_of ls ++ rest) ≡ map with_feed ls ++ pieces_of rest
pieces-append [] rest o = refl
pieces-append (l ∷ ls) rest o =
    ap pieces_of (regroup l (text_of ls) rest) ∙ one_line l (text_of ls ++ rest) o.0 ∙ ap (λ (ps : List (List ℕ)). with_feed l ∷ ps) (pieces-append ls rest o.1)

record FirstPiece (rest : List ℕ) : Type 0 where
  piece : List ℕ
  more : List (List ℕ)
  tail : List ℕ
  pieces : pieces_of rest ≡ piece ∷ more
  is : rest ≡ piece ++ tail

first_piece : (rest : List ℕ) → 0 < length rest → FirstPiece rest
first_piece [] lt = absurd (omega arith)
first_piece (b ∷ []) lt = step (b == 10) refl
  where
    step : (t : Bool) → (b == 10) ≡ t → FirstPiece (b ∷ [])
    step true e = record { piece = 10 ∷ []; more = []; tail = []; pieces = rw e refl; is = ap (λ (x : ℕ). x ∷ []) (eqb-true b 10 e) }
    step false e = record { piece = b ∷ []; more = []; tail = []; pieces = rw e refl; is = refl }
first_piece (b ∷ d ∷ bs) lt = step (b == 10) refl (first_piece (d ∷ bs) (omega arith))
  where
    step : (t : Bool) → (b == 10) ≡ t → FirstPiece (d ∷ bs) → FirstPiece (b ∷ d ∷ bs)
    step true e later = record { piece = 10 ∷ []; more = pieces_of (d ∷ bs); tail = d ∷ bs; pieces = rw e refl; is = ap (λ (x : ℕ). x ∷ d ∷ bs) (eqb-true b 10 e) }
    step false e later = record {
      piece = b ∷ later.piece;
      more = later.more;
      tail = later.tail;
      pieces = rw e (ap (onto_first b) later.pieces);
      is = ap (λ (x : List ℕ). b ∷ x) later.is;
    }

take_one : (xs : List (List ℕ)) (x : List ℕ) (more : List (List ℕ)) → take (length xs + 1) (xs ++ x ∷ more) ≡ xs ++ x ∷ []
take_one [] x more = refl
take_one (y ∷ xs) x more =
    let n : length (y ∷ xs) + 1 ≡ suc (length xs + 1) = omega arith in
    ap (λ (k : ℕ). take k (y ∷ (xs ++ x ∷ more))) n ∙ ap (λ (l : List (List ℕ)). y ∷ l) (take_one xs x more)

-- # Lines of a text

unfeed : (xs ys : List (List ℕ)) → map with_feed xs ≡ map with_feed ys → xs ≡ ys
unfeed [] [] e = refl
unfeed [] (y ∷ ys) e = absurd (nothing (sym e))
unfeed (x ∷ xs) [] e = absurd (nothing e)
unfeed (x ∷ xs) (y ∷ ys) e =
    let first : x ≡ y = append_cancel_right x y (10 ∷ []) (ap (λ (ls : List (List ℕ)). head_of ls) e) in
    ap₂ (λ (l : List ℕ) (ls : List (List ℕ)). l ∷ ls) first (unfeed xs ys (ap (λ (ls : List (List ℕ)). tail_of ls) e))

each_take : {X : Type 0} (T : X → Type 0) (n : ℕ) (xs : List X) → AllByRecursion T xs → AllByRecursion T (take n xs)
each_take T n xs a = each_first T (take n xs) (drop n xs) (subst (AllByRecursion T) (sym (take-append-drop n xs)) a)

module _ {Plan Request Reply Entry State : Type 0} (W : Wording Plan Request Reply Entry State) where
  -- # A start goes on to a history of the whole script

  faultless_or : (es : List Entry) → histories.Faultless W.kind es ⊎ (histories.Faultless W.kind es → ⊥)
  faultless_or [] = inl tt
  faultless_or (e ∷ es) = elim (cases_eq (W.kind.fault e) 0) [
    | inl z ↦ elim (faultless_or es) [
      | inl none ↦ inl (z, none)
      | inr some ↦ inr (λ f. some f.1)
    ]
    | inr ne ↦ inr (λ f. ne f.0)
  ]

  record Completed (plan : Plan) (L : List Request) (es : List Entry) : Type 0 where
    later : List Entry
    run : IsRunOf W plan L (es ++ later)

  completes : {IsNarrow : Entry → Type 0} {IsNarrowRequest : Request → Type 0}
      → (plan : Plan) (tell : TextsTell W plan IsNarrow IsNarrowRequest) (L : List Request) (are : CanBeAsked W IsNarrowRequest plan L) (es : List Entry) → IsStart W plan L es → Completed plan L es
  completes plan tell L are es start = elim (faultless_or es) [
    | inl none ↦ record { later = map (W.entry) (left_after W L es); run = completed-run (tell.entries) L es are.has none start }
    | inr some ↦ record {
      later = [];
      run = subst (IsRunOf W plan L) (sym (append-nil es)) (record { legal = start.legal; begins = start.begins; whole = λ none. absurd (some none) });
    }
  ]

  module _ (form : Form) (plan : Plan) (L : List Request) where
    -- the first lines of a start
    pub record Shown (ls : List (List ℕ)) : Type 0 where
      pub o : Option ℕ
      pub entries : List Entry
      pub starts : Starts W plan L o entries
      pub first : List (List ℕ)
      pub later : List (List ℕ)
      pub opens : Opens W form plan o first
      pub tells : Tells W form plan (W.kind.opening plan) 1 entries later
      pub more : List (List ℕ)
      pub is : first ++ later ≡ ls ++ more

    -- fewer of the first lines are first lines too
    pub begins_shorter : (lines : List (List ℕ)) (j : ℕ) → BeginsAs W form plan L lines → BeginsAs W form plan L (take j lines)
    begins_shorter lines j b =
        let n : length (take j lines) ≡ min j (length lines) = length-take j lines in
        let le : min j (length lines) ≤ length lines = omega arith in
        record {
          text = b.text;
          whole = b.whole;
          first =
              ap (λ m. take m (pieces_of b.text)) n
              ∙ sym (take-take (min j (length lines)) (length lines) (pieces_of b.text) le)
              ∙ ap (take (min j (length lines))) b.first
              ∙ take_min j lines;
        }

    module _ {IsNarrow : Entry → Type 0} {IsNarrowRequest : Request → Type 0} (tell : TextsTell W plan IsNarrow IsNarrowRequest) where
      pub all_over : (o : Option ℕ) (es : List Entry) (first later : List (List ℕ)) → Opens W form plan o first → Tells W form plan (W.kind.opening plan) 1 es later → AllOver 10 (first ++ later)
      all_over o es first later opens tells = each_append (Over 10) first later (opens_over plan tell form o first opens) (tells_over plan tell form es (W.kind.opening plan) 1 later tells)

      pub text_lines : (text : List ℕ) (w : IsWholeAs W form plan L text) → pieces_of text ≡ map with_feed (w.is.first ++ w.is.later)
      text_lines text w = ap pieces_of w.is.is ∙ pieces_of-text (w.is.first ++ w.is.later) (all_over w.o w.entries w.is.first w.is.later w.is.opens w.is.tells)

      whole_begins : (o : Option ℕ) (es : List Entry) (first later ls more : List (List ℕ)) → Lawful W plan L o es → Opens W form plan o first → Tells W form plan (W.kind.opening plan) 1 es later
          → first ++ later ≡ ls ++ more → BeginsAs W form plan L (map with_feed ls)
      whole_begins o es first later ls more lawful opens tells is = record {
        text = text_of (first ++ later);
        whole = record { o = o; entries = es; lawful = lawful; is = record { first = first; later = later; opens = opens; tells = tells; is = refl } };
        first =
            ap (take (length (map with_feed ls))) (pieces_of-text (first ++ later) (all_over o es first later opens tells) ∙ ap (map with_feed) is ∙ map-append with_feed ls more)
            ∙ take-append_seam (map with_feed ls) (map with_feed more);
      }

      start_begins : CanBeAsked W IsNarrowRequest plan L → (o : Option ℕ) (es : List Entry) (first later ls more : List (List ℕ)) → Starts W plan L o es → Opens W form plan o first
          → Tells W form plan (W.kind.opening plan) 1 es later → first ++ later ≡ ls ++ more → BeginsAs W form plan L (map with_feed ls)
      start_begins are None es first later ls more starts opens tells is =
          let done = completes plan tell L are es starts in
          let rest = lines_from W plan (histories.replay_from W.kind plan (W.kind.opening plan) es) (1 + length es) done.later in
          whole_begins None (es ++ done.later) first (later ++ rest) ls (more ++ rest) done.run opens
          (tells_append W form plan es done.later (W.kind.opening plan) 1 later rest tells
          (tells_listed W form plan done.later (histories.replay_from W.kind plan (W.kind.opening plan) es) (1 + length es)))
          (sym (append_assoc first later rest) ∙ ap (λ (x : List (List ℕ)). x ++ rest) is ∙ append_assoc ls more rest)
      start_begins are (Some k) es first later ls more starts opens tells is = whole_begins (Some k) es first later ls more starts opens tells is

      -- a whole text whose lines begin so
      pub record WholeHas (shown : List (List ℕ)) (l : List ℕ) : Type 0 where
        pub o : Option ℕ
        pub entries : List Entry
        pub lawful : Lawful W plan L o entries
        pub first : List (List ℕ)
        pub later : List (List ℕ)
        pub opens : Opens W form plan o first
        pub tells : Tells W form plan (W.kind.opening plan) 1 entries later
        pub after : List (List ℕ)
        pub is : first ++ later ≡ shown ++ l ∷ after

      pub whole_has : (shown : List (List ℕ)) (l : List ℕ) → BeginsAs W form plan L (map with_feed shown ++ with_feed l ∷ []) → WholeHas shown l
      whole_has shown l b =
          let w = b.whole in
          let all = w.is.first ++ w.is.later in
          let n = length (map with_feed shown ++ with_feed l ∷ []) in
          let front : map with_feed (take n all) ≡ map with_feed (shown ++ l ∷ []) =
          sym (take-map with_feed n all) ∙ ap (take n) (sym (text_lines b.text w)) ∙ b.first ∙ sym (map-append with_feed shown (l ∷ [])) in
          let same : take n all ≡ shown ++ l ∷ [] = unfeed (take n all) (shown ++ l ∷ []) front in
          record {
            o = w.o;
            entries = w.entries;
            lawful = w.lawful;
            first = w.is.first;
            later = w.is.later;
            opens = w.is.opens;
            tells = w.is.tells;
            after = drop n all;
            is = sym (take-append-drop n all) ∙ ap (λ (x : List (List ℕ)). x ++ drop n all) same ∙ append_assoc shown (l ∷ []) (drop n all);
          }

      each_feed : (lines : List (List ℕ)) → BeginsAs W form plan L lines → AllByRecursion HasFeed lines
      each_feed lines b =
          let all = b.whole.is.first ++ b.whole.is.later in
          subst (AllByRecursion HasFeed) (ap (take (length lines)) (sym (text_lines b.text b.whole)) ∙ b.first)
          (each_take HasFeed (length lines) (map with_feed all) (each_map HasFeed with_feed all (λ l. record { line = l; is = refl })))

      -- # Lines of a start

      module _ (are : CanBeAsked W IsNarrowRequest plan L) (ls : List (List ℕ)) (shown : Shown ls) where
        shown_over : AllOver 10 ls
        shown_over = each_first (Over 10) ls shown.more (subst (AllOver 10) shown.is (all_over shown.o shown.entries shown.first shown.later shown.opens shown.tells))

        begins_here : BeginsAs W form plan L (map with_feed ls)
        begins_here = start_begins are shown.o shown.entries shown.first shown.later ls shown.more shown.starts shown.opens shown.tells shown.is

        -- a text with these lines, and something behind them that can't be
        pub wrong_here : (text rest : List ℕ) → text ≡ text_of ls ++ rest → 0 < length rest
            → ((l : List ℕ) → Begins (with_feed l) rest → WholeHas ls l → ⊥)
            → IsWrongAs W form plan L text (length ls + 1)
        wrong_here text rest is some none =
            let A = map with_feed ls in
            let first = first_piece rest some in
            let size : length A ≡ length ls = length-map ls with_feed in
            let pieces : pieces_of text ≡ A ++ first.piece ∷ first.more = ap pieces_of is ∙ pieces-append ls rest shown_over ∙ ap (λ (ps : List (List ℕ)). A ++ ps) first.pieces in
            let long : length (pieces_of text) ≡ length A + length (first.piece ∷ first.more) = ap (λ (ps : List (List ℕ)). length ps) pieces ∙ length-append A (first.piece ∷ first.more) in
            let one : take (length ls + 1) (pieces_of text) ≡ A ++ first.piece ∷ [] =
            ap (take (length ls + 1)) pieces ∙ ap (λ (n : ℕ). take (n + 1) (A ++ first.piece ∷ first.more)) (sym size) ∙ take_one A first.piece first.more in
            record {
              some = omega arith;
              within = omega arith;
              wrong = λ b. bad first (subst (BeginsAs W form plan L) one b);
              least = λ j lt.
                  let front : take j (pieces_of text) ≡ take j A = ap (take j) pieces ∙ take-append-le j A (first.piece ∷ first.more) (omega arith) in
                  subst (BeginsAs W form plan L) (sym front) (begins_shorter A j begins_here);
            }
          where
            bad : (first : FirstPiece rest) → BeginsAs W form plan L (map with_feed ls ++ first.piece ∷ []) → ⊥
            bad first b =
                let feed : HasFeed first.piece = (each_last HasFeed (map with_feed ls) (first.piece ∷ []) (each_feed (map with_feed ls ++ first.piece ∷ []) b)).0 in
                none feed.line (record { rest = first.tail; is = first.is ∙ ap (λ (l : List ℕ). l ++ first.tail) feed.is })
                (whole_has ls feed.line (subst (λ (l : List ℕ). BeginsAs W form plan L (map with_feed ls ++ l ∷ [])) feed.is b))

        -- a text of these lines alone
        pub ends_here : (text : List ℕ) → text ≡ text_of ls → ((w : IsWholeAs W form plan L text) → ls ≡ w.is.first ++ w.is.later → ⊥)
            → (length ls ≡ length (pieces_of text)) × IsUnfinishedAs W form plan L text
        ends_here text is lacks =
            let pieces : pieces_of text ≡ map with_feed ls =
            ap pieces_of (is ∙ sym (append-nil (text_of ls))) ∙ pieces-append ls [] shown_over ∙ append-nil (map with_feed ls) in (
              sym (ap (λ (ps : List (List ℕ)). length ps) pieces ∙ length-map ls with_feed),
              record { begins = subst (BeginsAs W form plan L) (sym pieces) begins_here; lacks = λ w. lacks w (unfeed ls (w.is.first ++ w.is.later) (sym pieces ∙ text_lines text w)) },
            )
