-- What is told of a text that should begin with the lines of an opening is right.
use Rattle.std.proofs.Common.{◌≡◌, ◌⊎◌, ◌<◌, ◌+◌, ◌∙◌, ℕ, zero, suc, List, [], ◌∷◌, ◌++◌, map, take, drop, length, get_or, codes, Option, Some, None, refl, ap, sym, subst, inl, inr, arith, append_assoc, append-nil, length-take, take-append-drop}
use Rattle.std.proofs.lemmas.List.{append_cancel_left, length-append, length-map}
use Rattle.acpi_values.specs.declared.operation.Op.{Op}
use Rattle.pw_text.specs.Lines.{text_of, with_feed}
use Rattle.pw_text.specs.Openings.{opened, opening_line}
use Rattle.pw_audit.specs.declared.answer.AuditFault.{AuditFault}
use Rattle.pw_audit.specs.declared.answer.AuditFault.TheVariants.{TooLong, Wrong, Unfinished, Memory}
use Rattle.pw_audit.specs.declared.form.Form.{Form}
use Rattle.pw_audit.specs.declared.form.Form.TheVariants.{History, Trace}
use Rattle.pw_audit.specs.inner.Stopping.{HasFirst, LacksFirst, NoOpening, OpeningRead, Refuses, StopsAtOpening, StopsIn, WithinOpening}
use Rattle.pw_audit.proofs.Passing.{text_of-append, text_of-one}
use Rattle.pw_audit.proofs.Showing.{Shown, WholeHas, ends_here, wrong_here}
use Rattle.pw_audit.proofs.Told.{head_opens, opens_listed, same_opening, told_not_first}
use Rattle.pw_audit.proofs.Following.{opening_is, start_none, starts_opening}
use Rattle.pw_history.specs.Asked.{Begins, CanBeAsked, Lawful}
use Rattle.pw_history.specs.HistoryText.{op_line, opening_lines}
use Rattle.pw_history.specs.Telling.{IsNarrowFault, TextsTell}
use Rattle.pw_history.specs.Wording.{Wording}
use Rattle.pw_history.proofs.Determined.{head_of, heads-tell, tail_of}
use Rattle.pw_history.proofs.Narrow.{lawful-opening, opening-narrow}
use Rattle.pw_history.proofs.Nexts.{taken}
use Rattle.pw_audit.specs.Tracing.{IsWholeAs, IsWrongAs, Opens, Tells}

nothing : {x : List ℕ} {xs : List (List ℕ)} → x ∷ xs ≡ [] → ⊥
nothing e = cc

-- a text that has first lines, one more, and some of the lines behind it
pub within : (front : List (List ℕ)) (first : List ℕ) (some : List (List ℕ)) (text rest later : List ℕ) → text ≡ text_of front ++ (with_feed first ++ rest) → rest ≡ text_of some ++ later
    → text ≡ text_of (front ++ first ∷ some) ++ later
within front first some text rest later is more =
    is ∙ ap (λ (l : List ℕ). text_of front ++ (with_feed first ++ l)) more ∙ regroup (text_of front) (with_feed first) (text_of some) later
    ∙ ap (λ (l : List ℕ). l ++ later) (sym (text_of-append front (first ∷ some)))
  where
    regroup : (a b c d : List ℕ) → a ++ (b ++ (c ++ d)) ≡ (a ++ (b ++ c)) ++ d
    regroup a b c d = simp append_assoc

module _ {Plan Request Reply Entry State : Type 0} (W : Wording Plan Request Reply Entry State) where
  -- # Openings that were read

  -- a trace left its operations out
  pub opening_out : (form : Form) (plan : Plan) (o : Option ℕ) (text rest : List ℕ) → form ≡ Trace → o ≡ None → LacksFirst W plan rest → text ≡ with_feed (opening_line o) ++ rest
      → OpeningRead W form plan o text 1 rest
  opening_out form plan o text rest trace none lacks is = record {
    first = codes "open" ∷ [];
    opens = subst (λ (f : Form). Opens W f plan o (codes "open" ∷ [])) (sym trace) (subst (λ (x : Option ℕ). Opens W Trace plan x (codes "open" ∷ [])) (sym none) (inl refl));
    lines = refl;
    is = is ∙ ap (λ (x : Option ℕ). with_feed (opening_line x) ++ rest) none ∙ ap (λ (l : List ℕ). l ++ rest) (sym (text_of-one (codes "open")));
    out = λ t alone. lacks;
  }

  listed_alone : (plan : Plan) (o : Option ℕ) (rest : List ℕ) → opening_lines W plan o ≡ codes "open" ∷ [] → LacksFirst W plan rest
  listed_alone plan None rest alone x os is b = nothing (ap (λ (ops : List Op). map (op_line W plan) ops) (sym is) ∙ ap (λ (ls : List (List ℕ)). tail_of ls) alone)
  listed_alone plan (Some k) rest alone x os is b = let head = ap (λ (ls : List (List ℕ)). head_of ls) alone in absurd (not_open k head)
    where
      not_open : (j : ℕ) → opening_line (Some j) ≡ codes "open" → ⊥
      not_open j e = cc

  pub opening_read : (form : Form) (plan : Plan) (o : Option ℕ) (text rest next : List ℕ) (done : List Op) → done ≡ opened o (W.opening_ops plan) → text ≡ with_feed (opening_line o) ++ rest
      → rest ≡ text_of (map (op_line W plan) done) ++ next → OpeningRead W form plan o text (1 + length done) next
  opening_read form plan o text rest next done all is goes =
      let ops = map (op_line W plan) done in
      let whole : opening_lines W plan o ≡ opening_line o ∷ ops = opening_is W plan o ∙ ap (λ (os : List Op). opening_line o ∷ map (op_line W plan) os) (sym all) in
      let size = length-map done (op_line W plan) in
      let lines : length (opening_lines W plan o) ≡ length (opening_line o ∷ ops) = ap (λ (ls : List (List ℕ)). length ls) whole in
      record {
        first = opening_lines W plan o;
        opens = opens_listed W form plan o;
        lines = omega arith;
        is = is ∙ ap (λ (l : List ℕ). with_feed (opening_line o) ++ l) goes ∙ sym (append_assoc (with_feed (opening_line o)) (text_of ops) next)
            ∙ ap (λ (ls : List (List ℕ)). text_of ls ++ next) (sym whole);
        out = λ t alone. listed_alone plan o next alone;
      }

-- # Lines behind a first one

how_many : (first : List ℕ) (ls : List (List ℕ)) (k : ℕ) → k < length ls → length (first ∷ take k ls) ≡ 1 + k
how_many first ls k lt = let b = length-take k ls in omega arith

module _ {Plan Request Reply Entry State : Type 0} (W : Wording Plan Request Reply Entry State) where
  -- a trace that opens behind the first operation has that line
  shown_later : (plan : Plan) (os : List Op) (rest later : List ℕ) (k : ℕ) → W.opening_ops plan ≡ os → k < length (map (op_line W plan) os) → HasFirst W plan rest
      → rest ≡ text_of (take k (map (op_line W plan) os)) ++ later
      → (Begins (with_feed (get_or (map (op_line W plan) os) k [])) later → ⊥) → 0 < k
  shown_later plan [] rest later k is lt has e other = absurd (omega arith)
  shown_later plan (o ∷ os) rest later zero is lt has e other = absurd (other (let b = has o os is in record { rest = b.rest; is = sym e ∙ b.is }))
  shown_later plan (o ∷ os) rest later (suc k) is lt has e other = omega arith

long_line : (l rest : List ℕ) → [] ≡ with_feed l ++ rest → ⊥
long_line [] rest e = cc
long_line (b ∷ l) rest e = cc

module _ {Plan Request Reply Entry State : Type 0} {W : Wording Plan Request Reply Entry State} {IsNarrow : Entry → Type 0} {IsNarrowRequest : Request → Type 0} where
  module _ (form : Form) (plan : Plan) (tell : TextsTell W plan IsNarrow IsNarrowRequest) (L : List Request) (are : CanBeAsked W IsNarrowRequest plan L) where
    narrow_within : (o : Option ℕ) → WithinOpening (length (W.opening_ops plan)) o → IsNarrowFault o
    narrow_within None w = tt
    narrow_within (Some k) w = opening-narrow tell.entries tell.numbers k w

    listed_or : (f : Form) (o : Option ℕ) (first : List (List ℕ)) → Opens W f plan o first → (first ≡ opening_lines W plan o) ⊎ ((f ≡ Trace) × (o ≡ None) × (first ≡ codes "open" ∷ []))
    listed_or History o first is = inl is
    listed_or Trace None first (inl is) = inr (refl, refl, is)
    listed_or Trace None first (inr is) = inl is
    listed_or Trace (Some k) first is = inl is

    shown_opening : (o : Option ℕ) → WithinOpening (length (W.opening_ops plan)) o → (k : ℕ) → Shown W form plan L (opening_line o ∷ take k (map (op_line W plan) (opened o (W.opening_ops plan))))
    shown_opening o w k =
        let ops = map (op_line W plan) (opened o (W.opening_ops plan)) in
        record {
          o = o;
          entries = [];
          starts = starts_opening W plan L o w;
          first = opening_lines W plan o;
          later = [];
          opens = opens_listed W form plan o;
          tells = refl;
          more = drop k ops;
          is = append-nil (opening_lines W plan o) ∙ opening_is W plan o ∙ ap (λ (l : List (List ℕ)). opening_line o ∷ l) (sym (take-append-drop k ops));
        }

    shown_nothing : Shown W form plan L []
    shown_nothing = record {
      o = None;
      entries = [];
      starts = start_none W plan L;
      first = opening_lines W plan None;
      later = [];
      opens = opens_listed W form plan None;
      tells = refl;
      more = opening_lines W plan None ++ [];
      is = refl;
    }

    -- the operations of the opening, where a whole text has its line
    module _ (o : Option ℕ) (w : WithinOpening (length (W.opening_ops plan)) o) (k : ℕ) (lt : k < length (map (op_line W plan) (opened o (W.opening_ops plan))))
        (later : form ≡ Trace → o ≡ None → 0 < k)
        (f : Option ℕ) (es : List Entry) (lawful : Lawful W plan L f es) (first Y : List (List ℕ)) (opens : Opens W form plan f first) (tells : Tells W form plan (W.kind.opening plan) 1 es Y) where
      same_here : (Z : List (List ℕ)) → first ++ Y ≡ opening_line o ∷ Z → o ≡ f
      same_here Z is =
          heads-tell W plan o f (narrow_within o w) (lawful-opening tell.entries tell.numbers L f es lawful)
          (ap (λ (ls : List (List ℕ)). head_of ls) (opening_is W plan o) ∙ ap (λ (ls : List (List ℕ)). head_of ls) (sym is) ∙ head_opens plan tell form f first opens Y)

      not_out : (os : List Op) → W.opening_ops plan ≡ os → o ≡ None → 0 < k → (Z : List (List ℕ)) → Y ≡ take k (map (op_line W plan) os) ++ Z → k < length (map (op_line W plan) os) → ⊥
      not_out [] is none some Z e within = absurd (omega arith)
      not_out (x ∷ os) is none some Z e within = first_told k some e
        where
          first_told : (j : ℕ) → 0 < j → Y ≡ take j (map (op_line W plan) (x ∷ os)) ++ Z → ⊥
          first_told zero gt same = absurd (omega arith)
          first_told (suc j) gt same = told_not_first plan tell form es (W.kind.opening plan) 1 Y tells x os (take j (map (op_line W plan) os) ++ Z) is same

      behind_first : (Z : List (List ℕ)) → first ++ Y ≡ opening_line o ∷ (take k (map (op_line W plan) (opened o (W.opening_ops plan))) ++ Z)
          → take k (map (op_line W plan) (opened o (W.opening_ops plan))) ++ Z ≡ map (op_line W plan) (opened o (W.opening_ops plan)) ++ Y
      behind_first Z is = step (listed_or form o first (subst (λ (x : Option ℕ). Opens W form plan x first) (sym same) opens))
        where
          ops : List (List ℕ)
          ops = map (op_line W plan) (opened o (W.opening_ops plan))

          same : o ≡ f
          same = same_here (take k (map (op_line W plan) (opened o (W.opening_ops plan))) ++ Z) is

          step : (first ≡ opening_lines W plan o) ⊎ ((form ≡ Trace) × (o ≡ None) × (first ≡ codes "open" ∷ []))
              → take k (map (op_line W plan) (opened o (W.opening_ops plan))) ++ Z ≡ map (op_line W plan) (opened o (W.opening_ops plan)) ++ Y
          step (inl listed) = ap (λ (ls : List (List ℕ)). tail_of ls) (sym is ∙ ap (λ (ls : List (List ℕ)). ls ++ Y) (listed ∙ opening_is W plan o))
          step (inr (trace, none, alone)) =
              let tails : Y ≡ take k (map (op_line W plan) (opened o (W.opening_ops plan))) ++ Z = ap (λ (ls : List (List ℕ)). tail_of ls) (ap (λ (ls : List (List ℕ)). ls ++ Y) (sym alone) ∙ is) in
              let all : opened o (W.opening_ops plan) ≡ W.opening_ops plan = ap (λ (x : Option ℕ). opened x (W.opening_ops plan)) none in
              absurd (not_out (W.opening_ops plan) refl none (later trace none) Z (tails ∙ ap (λ (os : List Op). take k (map (op_line W plan) os) ++ Z) all)
              (subst (λ (os : List Op). k < length (map (op_line W plan) os)) all lt))

    -- a text that stops in the operations of the opening
    stops_in_opening : (o : Option ℕ) → WithinOpening (length (W.opening_ops plan)) o → (text rest : List ℕ) (fault : AuditFault) → text ≡ with_feed (opening_line o) ++ rest
        → StopsIn (map (op_line W plan) (opened o (W.opening_ops plan))) 1 rest fault → (form ≡ Trace → o ≡ None → HasFirst W plan rest) → Refuses W form plan L text fault
    stops_in_opening o w text rest (TooLong bound) is stops has = absurd stops
    stops_in_opening o w text rest (Wrong line) is (k, breaks, at) has =
        let ops = map (op_line W plan) (opened o (W.opening_ops plan)) in
        let lt = breaks.within in
        let size = how_many (opening_line o) ops k lt in
        let number : length (opening_line o ∷ take k ops) + 1 ≡ line = omega arith in
        subst (IsWrongAs W form plan L text) number
        (wrong_here W form plan L tell are (opening_line o ∷ take k ops) (shown_opening o w k) text breaks.rest (within [] (opening_line o) (take k ops) text rest breaks.rest is breaks.is) breaks.some
        (λ l b h.
        let same = behind_first o w k lt later h.o h.entries h.lawful h.first h.later h.opens h.tells (l ∷ h.after) h.is in
        breaks.other (record { rest = b.rest; is = b.is ∙ ap (λ (x : List ℕ). with_feed x ++ b.rest) (taken k ops h.later l h.after lt same) })))
      where
        later : form ≡ Trace → o ≡ None → 0 < k
        later trace none = shown_later W plan (W.opening_ops plan) rest breaks.rest k refl
            (subst (λ (x : Option ℕ). k < length (map (op_line W plan) (opened x (W.opening_ops plan)))) none breaks.within) (has trace none)
            (breaks.is ∙ ap (λ (x : Option ℕ). text_of (take k (map (op_line W plan) (opened x (W.opening_ops plan)))) ++ breaks.rest) none)
            (subst (λ (x : Option ℕ). Begins (with_feed (get_or (map (op_line W plan) (opened x (W.opening_ops plan))) k [])) breaks.rest → ⊥) none breaks.other)
    stops_in_opening o w text rest (Unfinished lines) is (k, ends, at) has =
        let ops = map (op_line W plan) (opened o (W.opening_ops plan)) in
        let lt = ends.within in
        let size = how_many (opening_line o) ops k lt in
        let whole : text ≡ text_of (opening_line o ∷ take k ops) =
        within [] (opening_line o) (take k ops) text rest [] is (ends.is ∙ sym (append-nil (text_of (take k ops)))) ∙ append-nil (text_of (opening_line o ∷ take k ops)) in
        let h = ends_here W form plan L tell are (opening_line o ∷ take k ops) (shown_opening o w k) text whole lacks in
        let pieces = h.0 in
        (omega arith, h.1)
      where
        later : form ≡ Trace → o ≡ None → 0 < k
        later trace none = shown_later W plan (W.opening_ops plan) rest [] k refl (subst (λ (x : Option ℕ). k < length (map (op_line W plan) (opened x (W.opening_ops plan)))) none ends.within)
            (has trace none)
            (ends.is ∙ ap (λ (x : Option ℕ). text_of (take k (map (op_line W plan) (opened x (W.opening_ops plan))))) none
            ∙ sym (append-nil (text_of (take k (map (op_line W plan) (opened None (W.opening_ops plan)))))))
            (λ b. long_line (get_or (map (op_line W plan) (opened None (W.opening_ops plan))) k []) b.rest b.is)

        lacks : (v : IsWholeAs W form plan L text) → opening_line o ∷ take k (map (op_line W plan) (opened o (W.opening_ops plan))) ≡ v.is.first ++ v.is.later → ⊥
        lacks v e =
            let ops = map (op_line W plan) (opened o (W.opening_ops plan)) in
            let lt = ends.within in
            let same : take k ops ++ [] ≡ ops ++ v.is.later =
            behind_first o w k lt later v.o v.entries v.lawful v.is.first v.is.later v.is.opens v.is.tells []
            (sym e ∙ ap (λ (ls : List (List ℕ)). opening_line o ∷ ls) (sym (append-nil (take k ops)))) in
            let short = length-take k ops in
            let front : length (take k ops ++ []) ≡ length (take k ops) = ap (λ (ls : List (List ℕ)). length ls) (append-nil (take k ops)) in
            let long : length (take k ops ++ []) ≡ length ops + length v.is.later = ap (λ (ls : List (List ℕ)). length ls) same ∙ length-append ops v.is.later in
            absurd (omega arith)
    stops_in_opening o w text rest Memory is stops has = tt

    -- # The first line

    no_bytes : (text : List ℕ) → length text ≡ 0 → text ≡ []
    no_bytes [] e = refl
    no_bytes (b ∷ bs) e = absurd (omega arith)

    some_head : (o : Option ℕ) → [] ≡ opening_line o → ⊥
    some_head None e = cc
    some_head (Some k) e = cc

    empty_lacks : (text : List ℕ) (v : IsWholeAs W form plan L text) → [] ≡ v.is.first ++ v.is.later → ⊥
    empty_lacks text v e =
        some_head v.o
        (ap (λ (ls : List (List ℕ)). head_of ls) e ∙ head_opens plan tell form v.o v.is.first v.is.opens v.is.later ∙ ap (λ (ls : List (List ℕ)). head_of ls) (opening_is W plan v.o))

    within_lawful : (o : Option ℕ) (es : List Entry) → Lawful W plan L o es → WithinOpening (length (W.opening_ops plan)) o
    within_lawful None es lawful = tt
    within_lawful (Some k) es lawful = lawful.0

    first_next : (text : List ℕ) → NoOpening W plan text → (l : List ℕ) → Begins (with_feed l) text → WholeHas W form plan L tell [] l → ⊥
    first_next text none l b h =
        let line : l ≡ opening_line h.o =
        ap (λ (ls : List (List ℕ)). head_of ls) (sym h.is) ∙ head_opens plan tell form h.o h.first h.opens h.later ∙ ap (λ (ls : List (List ℕ)). head_of ls) (opening_is W plan h.o) in
        none h.o (within_lawful h.o h.entries h.lawful) (record { rest = b.rest; is = b.is ∙ ap (λ (x : List ℕ). with_feed x ++ b.rest) line })

    pub at_opening : (text : List ℕ) (fault : AuditFault) → StopsAtOpening W form plan text fault → Refuses W form plan L text fault
    at_opening text fault (inl memory) = subst (Refuses W form plan L text) (sym memory) tt
    at_opening text fault (inr (inl h)) =
        let ends = ends_here W form plan L tell are [] shown_nothing text (no_bytes text h.1) (empty_lacks text) in
        subst (Refuses W form plan L text) (sym h.0) ends
    at_opening text fault (inr (inr (inl h))) =
        subst (Refuses W form plan L text) (sym h.0) (wrong_here W form plan L tell are [] shown_nothing text text refl h.1 (first_next text h.2))
    at_opening text fault (inr (inr (inr s))) = stops_in_opening s.opening s.within text s.rest fault s.is s.stops s.has

    -- # Behind an opening that a fault ended

    pub behind_opening : (k : ℕ) (text left : List ℕ) (first : List (List ℕ)) → k < length (W.opening_ops plan) → Opens W form plan (Some k) first → text ≡ text_of first ++ left → 0 < length left
        → IsWrongAs W form plan L text (length first + 1)
    behind_opening k text left first lt opens is some =
        wrong_here W form plan L tell are first
        (record { o = Some k; entries = []; starts = (lt, refl); first = first; later = []; opens = opens; tells = refl; more = []; is = refl }) text left is some
        (λ l b h. none h.o h.entries h.lawful h.first h.later h.opens h.tells l h.after h.is)
      where
        listed : (f : Form) (ls : List (List ℕ)) → Opens W f plan (Some k) ls → ls ≡ opening_lines W plan (Some k)
        listed History ls e = e
        listed Trace ls e = e

        none : (f : Option ℕ) (es : List Entry) → Lawful W plan L f es → (other Y : List (List ℕ)) → Opens W form plan f other → Tells W form plan (W.kind.opening plan) 1 es Y
            → (l : List ℕ) (zs : List (List ℕ))
            → other ++ Y ≡ first ++ l ∷ zs → ⊥
        none f es lawful other Y opens_f tells l zs same =
            let is_f : Some k ≡ f =
            same_opening plan tell form (Some k) f first other opens opens_f (opening-narrow tell.entries tell.numbers k lt) (lawful-opening tell.entries tell.numbers L f es lawful) (l ∷ zs) Y same in
            let opens_k : Opens W form plan (Some k) other = subst (λ (x : Option ℕ). Opens W form plan x other) (sym is_f) opens_f in
            let no_entries : es ≡ [] = (subst (λ (x : Option ℕ). Lawful W plan L x es) (sym is_f) lawful).1 in
            let no_lines : Y ≡ [] = subst (λ (x : List Entry). Tells W form plan (W.kind.opening plan) 1 x Y) no_entries tells in
            let alike : other ≡ first = listed form other opens_k ∙ sym (listed form first opens) in
            nothing (sym (append_cancel_left first [] (l ∷ zs) (ap (λ (ls : List (List ℕ)). first ++ ls) (sym no_lines) ∙ ap (λ (ls : List (List ℕ)). ls ++ Y) (sym alike) ∙ same)))
