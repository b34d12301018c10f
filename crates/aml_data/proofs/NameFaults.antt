-- The first fault of a name, both ways.
use Rattle.std.proofs.Common.{◌≡◌, ℕ, zero, suc, Bool, eqb, ◌-◌, List, [], ◌∷◌, ◌++◌, length, Ok, Err, refl, sym, subst, arith, inl, inr}
use Rattle.std.proofs.lemmas.Bool.{eqb-true, eqb-false, ne_eqb}
use Rattle.aml_data.specs.declared.fault.DataFault.{DataFault}
use Rattle.aml_data.specs.declared.fault.DataFault.TheVariants.{Short, BadName}
use Rattle.aml_data.specs.Segment.{is_letter, is_word}
use Rattle.aml_data.specs.inner.Reading.{◌>>=◌, letter_at, segment_at, several_at, many_at, segments_at, prefix_at, name_at}
use Rattle.aml_data.specs.Faults.{LetterFails, fails_no_letter, fails_wrong_letter, SegmentFails, fails_at_first, fails_at_second, fails_at_third, fails_at_fourth}
use Rattle.aml_data.specs.Faults.{SeveralFail, fails_this_segment, fails_later_segment}
use Rattle.aml_data.specs.Faults.{SegmentsFail, fails_no_segments, fails_in_two, fails_no_count, fails_count_zero, fails_in_many, fails_in_one, NameFails, fails_in_segments}
use Rattle.aml_data.proofs.Steps.{bind_err, chosen, err_is, IsBytes}
use Rattle.aml_data.proofs.Names.{letter_takes, letter_again, segment_takes, segment_again, prefix_parts, prefix_again, path_of}

-- ---- one segment

letter_fails : (test : ℕ → Bool) (end : ℕ) (bytes : List ℕ) (fault : DataFault) → letter_at test end bytes ≡ Err fault → LetterFails test end bytes fault
letter_fails test end [] fault e = subst (λ (f : DataFault). LetterFails test end [] f) (err_is {A = ℕ × List ℕ} (Short end) fault e) fails_no_letter
letter_fails test end (b ∷ bytes) fault e =
    elim (chosen (test b) _ _ _ e) [
      | inl h ↦ absurd (let impossible = h.1 in cc)
      | inr h ↦ subst (λ (f : DataFault). LetterFails test end (b ∷ bytes) f) (err_is {A = ℕ × List ℕ} _ fault h.1) (fails_wrong_letter h.0)
    ]

letter_refused : (test : ℕ → Bool) (end : ℕ) (bytes : List ℕ) (fault : DataFault) → LetterFails test end bytes fault → letter_at test end bytes ≡ Err fault
letter_refused test end bytes fault fails_no_letter = refl
letter_refused test end bytes fault (fails_wrong_letter h) = rw h refl

fourth_fails : (end : ℕ) (bytes : List ℕ) (a b c : ℕ × List ℕ) (fault : DataFault) → letter_at is_letter end bytes ≡ Ok a → letter_at is_word end a.1 ≡ Ok b → letter_at is_word end b.1 ≡ Ok c
    → letter_at is_word end c.1 ≡ Err fault → SegmentFails end bytes fault
fourth_fails end bytes a b c fault ea eb ec e =
    let ta = letter_takes is_letter end bytes a ea in
    let tb = letter_takes is_word end a.1 b eb in
    let tc = letter_takes is_word end b.1 c ec in
    let whole : bytes ≡ a.0 ∷ b.0 ∷ c.0 ∷ c.1 = let pa = ta.parts in let pb = tb.parts in let pc = tc.parts in cc in
    subst (λ (t : List ℕ). SegmentFails end t fault) (sym whole) (fails_at_fourth ta.passes tb.passes tc.passes (letter_fails is_word end c.1 fault e))

third_fails : (end : ℕ) (bytes : List ℕ) (a b : ℕ × List ℕ) (fault : DataFault) → letter_at is_letter end bytes ≡ Ok a → letter_at is_word end a.1 ≡ Ok b
    → letter_at is_word end b.1 ≡ Err fault → SegmentFails end bytes fault
third_fails end bytes a b fault ea eb e =
    let ta = letter_takes is_letter end bytes a ea in
    let tb = letter_takes is_word end a.1 b eb in
    let whole : bytes ≡ a.0 ∷ b.0 ∷ b.1 = let pa = ta.parts in let pb = tb.parts in cc in
    subst (λ (t : List ℕ). SegmentFails end t fault) (sym whole) (fails_at_third ta.passes tb.passes (letter_fails is_word end b.1 fault e))

second_fails : (end : ℕ) (bytes : List ℕ) (a : ℕ × List ℕ) (fault : DataFault) → letter_at is_letter end bytes ≡ Ok a → letter_at is_word end a.1 ≡ Err fault → SegmentFails end bytes fault
second_fails end bytes a fault ea e =
    let ta = letter_takes is_letter end bytes a ea in
    subst (λ (t : List ℕ). SegmentFails end t fault) (sym ta.parts) (fails_at_second ta.passes (letter_fails is_word end a.1 fault e))

pub segment_fails : (end : ℕ) (bytes : List ℕ) (fault : DataFault) → segment_at end bytes ≡ Err fault → SegmentFails end bytes fault
unfolding segment_at
segment_fails end bytes fault e =
    elim (bind_err _ _ fault e) [
      | inl h ↦ fails_at_first (letter_fails is_letter end bytes fault h)
      | inr a ↦
          elim (bind_err _ _ fault a.2) [
            | inl h ↦ second_fails end bytes a.0 fault a.1 h
            | inr b ↦
                elim (bind_err _ _ fault b.2) [
                  | inl h ↦ third_fails end bytes a.0 b.0 fault a.1 b.1 h
                  | inr c ↦
                      elim (bind_err _ _ fault c.2) [
                        | inl h ↦ fourth_fails end bytes a.0 b.0 c.0 fault a.1 b.1 c.1 h
                        | inr d ↦
                            absurd (let impossible = d.2 in cc)
                      ]
                ]
          ]
    ]

pub segment_refused : (end : ℕ) (bytes : List ℕ) (fault : DataFault) → SegmentFails end bytes fault → segment_at end bytes ≡ Err fault
unfolding segment_at
segment_refused end bytes fault (fails_at_first h) = rw (letter_refused is_letter end bytes fault h) refl
segment_refused end bytes fault (fails_at_second {a = a} {bytes = r} la h) = rw (letter_again is_letter end a r la, letter_refused is_word end r fault h) refl
segment_refused end bytes fault (fails_at_third {a = a} {b = b} {bytes = r} la lb h) =
    rw (letter_again is_letter end a (b ∷ r) la, letter_again is_word end b r lb, letter_refused is_word end r fault h) refl
segment_refused end bytes fault (fails_at_fourth {a = a} {b = b} {c = c} {bytes = r} la lb lc h) =
    rw (letter_again is_letter end a (b ∷ c ∷ r) la, letter_again is_word end b (c ∷ r) lb, letter_again is_word end c r lc, letter_refused is_word end r fault h) refl

-- ---- so many segments

pub several_fails : (n end : ℕ) (bytes : List ℕ) (fault : DataFault) → several_at n end bytes ≡ Err fault → SeveralFail n end bytes fault
several_fails zero end bytes fault e = absurd cc
several_fails (suc n) end bytes fault e =
    elim (bind_err (segment_at end bytes) (λ s. several_at n end s.1 >>= λ ss. Ok (s.0 ∷ ss.0, ss.1)) fault e) [
      | inl h ↦ fails_this_segment (segment_fails end bytes fault h)
      | inr a ↦
          elim (bind_err (several_at n end a.0.1) (λ ss. Ok (a.0.0 ∷ ss.0, ss.1)) fault a.2) [
            | inl h ↦
                let t = segment_takes end bytes a.0 a.1 in
                subst (λ (r : List ℕ). SeveralFail (suc n) end r fault) (sym t.parts) (fails_later_segment a.0.0 a.0.1 t.segment (several_fails n end a.0.1 fault h))
            | inr b ↦ absurd (let impossible = b.2 in cc)
          ]
    ]

pub several_refused : (n end : ℕ) (bytes : List ℕ) (fault : DataFault) → SeveralFail n end bytes fault → several_at n end bytes ≡ Err fault
several_refused zero end bytes fault h = elim h [ ]
several_refused (suc n) end bytes fault (fails_this_segment h) = rw (segment_refused end bytes fault h) refl
several_refused (suc n) end bytes fault (fails_later_segment s rest seg h) = rw (segment_again end s rest seg, several_refused n end rest fault h) refl

-- ---- the segments of a name

two_fails : (end b : ℕ) (rest : List ℕ) (fault : DataFault) → b ≡ 46 → several_at 2 end rest ≡ Err fault → SegmentsFail end (b ∷ rest) fault
two_fails end b rest fault is e = subst (λ (c : ℕ). SegmentsFail end (c ∷ rest) fault) (sym is) (fails_in_two (several_fails 2 end rest fault e))

zero_fails : (end n : ℕ) (rest : List ℕ) (fault : DataFault) → n ≡ 0 → BadName (end - length (n ∷ rest)) ≡ fault → SegmentsFail end (47 ∷ n ∷ rest) fault
zero_fails end n rest fault is e =
    let here : SegmentsFail end (47 ∷ n ∷ rest) (BadName (end - length (n ∷ rest))) =
    subst (λ (c : ℕ). SegmentsFail end (47 ∷ c ∷ rest) (BadName (end - length (n ∷ rest)))) (sym is) fails_count_zero in
    subst (λ (f : DataFault). SegmentsFail end (47 ∷ n ∷ rest) f) e here

many_fails : (end b : ℕ) (rest : List ℕ) (fault : DataFault) → b ≡ 47 → many_at end rest ≡ Err fault → SegmentsFail end (b ∷ rest) fault
many_fails end b [] fault is e =
    subst (λ (c : ℕ). SegmentsFail end (c ∷ []) fault) (sym is) (subst (λ (f : DataFault). SegmentsFail end (47 ∷ []) f) (err_is {A = List (List ℕ) × List ℕ} (Short end) fault e) fails_no_count)
many_fails end b (n ∷ rest) fault is e =
    subst (λ (c : ℕ). SegmentsFail end (c ∷ n ∷ rest) fault) (sym is) (elim (chosen (eqb n 0) _ _ _ e) [
      | inl h ↦ zero_fails end n rest fault (eqb-true _ _ h.0) (err_is {A = List (List ℕ) × List ℕ} _ fault h.1)
      | inr h ↦ let some = eqb-false _ _ h.0 in fails_in_many (omega arith) (several_fails n end rest fault h.1)
    ])

pub segments_fails : (end : ℕ) (bytes : List ℕ) (fault : DataFault) → segments_at end bytes ≡ Err fault → SegmentsFail end bytes fault
unfolding segments_at
segments_fails end [] fault e = subst (λ (f : DataFault). SegmentsFail end [] f) (err_is {A = List (List ℕ) × List ℕ} (Short end) fault e) fails_no_segments
segments_fails end (b ∷ rest) fault e =
    elim (chosen (eqb b 0) _ _ _ e) [
      | inl h ↦ absurd (let impossible = h.1 in cc)
      | inr h0 ↦
          elim (chosen (eqb b 46) _ _ _ h0.1) [
            | inl h ↦ two_fails end b rest fault (eqb-true _ _ h.0) h.1
            | inr h1 ↦
                elim (chosen (eqb b 47) _ _ _ h1.1) [
                  | inl h ↦ many_fails end b rest fault (eqb-true _ _ h.0) h.1
                  | inr h2 ↦
                      fails_in_one (eqb-false _ _ h0.0) (eqb-false _ _ h1.0) (eqb-false _ _ h2.0) (several_fails 1 end (b ∷ rest) fault h2.1)
                ]
          ]
    ]

pub segments_refused : (end : ℕ) (bytes : List ℕ) (fault : DataFault) → SegmentsFail end bytes fault → segments_at end bytes ≡ Err fault
unfolding segments_at
segments_refused end bytes fault fails_no_segments = refl
segments_refused end bytes fault (fails_in_two {bytes = r} h) = several_refused 2 end r fault h
segments_refused end bytes fault fails_no_count = refl
segments_refused end bytes fault fails_count_zero = refl
segments_refused end bytes fault (fails_in_many {n = n} {bytes = r} some h) = rw (ne_eqb n 0 (λ none. absurd (omega arith))) (several_refused n end r fault h)
segments_refused end bytes fault (fails_in_one {b = b} {rest = r} not_none not_two not_many h) =
    rw (ne_eqb b 0 not_none, ne_eqb b 46 not_two, ne_eqb b 47 not_many) (several_refused 1 end (b ∷ r) fault h)

-- ---- names

pub name_fails : (end : ℕ) (bytes : List ℕ) (fault : DataFault) → IsBytes bytes → name_at end bytes ≡ Err fault → NameFails end bytes fault
unfolding name_at
name_fails end bytes fault fits e =
    let p = prefix_parts bytes in
    elim (bind_err (segments_at end (prefix_at bytes).2) (λ s. Ok (path_of (prefix_at bytes) s.0, s.1)) fault e) [
      | inl h ↦ subst (λ (r : List ℕ). NameFails end r fault) (sym p.parts) (fails_in_segments p.front (prefix_at bytes).2 p.spelled p.ends (segments_fails end (prefix_at bytes).2 fault h))
      | inr a ↦ absurd (let impossible = a.2 in cc)
    ]

refused_by : (end : ℕ) (bytes : List ℕ) (x : Bool × ℕ × List ℕ) (fault : DataFault) → prefix_at bytes ≡ x → segments_at end x.2 ≡ Err fault → name_at end bytes ≡ Err fault
unfolding name_at
refused_by end bytes x fault is read = rw (is, read) refl

pub name_refused : (end : ℕ) (bytes : List ℕ) (fault : DataFault) → NameFails end bytes fault → name_at end bytes ≡ Err fault
name_refused end bytes fault (fails_in_segments {ups = ups} {root = root} p rest prefix ends h) =
    refused_by end (p ++ rest) (root, ups, rest) fault (prefix_again root ups p rest prefix ends) (segments_refused end rest fault h)
