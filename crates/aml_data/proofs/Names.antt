-- Names: what is read is spelled so, and what is spelled so is read.
use Rattle.std.proofs.Common.{◌≡◌, ◌≢◌, ◌<◌, ◌+◌, ℕ, zero, suc, Bool, true, false, eqb, IsTrue, List, [], ◌∷◌, ◌++◌, length, replicate, Ok}
use Rattle.std.proofs.Common.{refl, ap, sym, subst, ◌∙◌, append_assoc, arith, inl, inr}
use Rattle.std.specs.List.{AllByRecursion}
use Rattle.std.proofs.lemmas.Bool.{eqb-true, eqb-false, ne_eqb}
use Rattle.aml_data.specs.declared.path.Path.{Path}
use Rattle.aml_data.specs.Segment.{is_letter, is_word, IsSegment, joined}
use Rattle.aml_data.specs.Grammar.{Prefix, spells_root, spells_ups, Segments, spells_no_segment, spells_one_segment, spells_two_segments, spells_many_segments, NameOf, spells_name}
use Rattle.aml_data.specs.inner.Reading.{◌>>=◌, letter_at, segment_at, several_at, many_at, segments_at, ups_at, prefix_at, name_at}
use Rattle.aml_data.specs.Faults.{EndsPrefix, ends_root, ends_bytes, ends_ups}
use Rattle.aml_data.proofs.Steps.{done, bind_ok, chosen, ok_is, IsBytes, IsBytes-rest, IsBytes-after, Takes}
use Rattle.pw_base.proofs.Facts.{choice}

-- ---- one segment

pub record TakesLetter (test : ℕ → Bool) (bytes : List ℕ) (x : ℕ × List ℕ) : Type 0 where
  pub parts : bytes ≡ x.0 ∷ x.1
  pub passes : IsTrue (test x.0)

pub letter_takes : (test : ℕ → Bool) (end : ℕ) (bytes : List ℕ) (x : ℕ × List ℕ) → letter_at test end bytes ≡ Ok x → TakesLetter test bytes x
letter_takes test end [] x e = absurd cc
letter_takes test end (b ∷ bytes) x e =
    elim (chosen (test b) _ _ _ e) [
      | inl h ↦ subst (λ (y : ℕ × List ℕ). TakesLetter test (b ∷ bytes) y) (ok_is (b, bytes) x h.1) (record { parts = refl; passes = h.0 })
      | inr h ↦ absurd (let impossible = h.1 in cc)
    ]

pub letter_again : (test : ℕ → Bool) (end b : ℕ) (rest : List ℕ) → IsTrue (test b) → letter_at test end (b ∷ rest) ≡ Ok (b, rest)
letter_again test end b rest h = rw h refl

-- What was read from bytes: a segment, and the rest.
pub record TakesSegment (bytes : List ℕ) (x : List ℕ × List ℕ) : Type 0 where
  pub parts : bytes ≡ x.0 ++ x.1
  pub segment : IsSegment x.0

pub segment_takes : (end : ℕ) (bytes : List ℕ) (x : List ℕ × List ℕ) → segment_at end bytes ≡ Ok x → TakesSegment bytes x
unfolding segment_at
segment_takes end bytes x e =
    let a = bind_ok _ _ x e in
    let b = bind_ok _ _ x a.2 in
    let c = bind_ok _ _ x b.2 in
    let d = bind_ok _ _ x c.2 in
    let ta = letter_takes is_letter end bytes a.0 a.1 in
    let tb = letter_takes is_word end a.0.1 b.0 b.1 in
    let tc = letter_takes is_word end b.0.1 c.0 c.1 in
    let td = letter_takes is_word end c.0.1 d.0 d.1 in
    subst (λ (y : List ℕ × List ℕ). TakesSegment bytes y) (ok_is (a.0.0 ∷ b.0.0 ∷ c.0.0 ∷ d.0.0 ∷ [], d.0.1) x d.2) (record {
      parts = let pa = ta.parts in let pb = tb.parts in let pc = tc.parts in let pd = td.parts in cc;
      segment = (ta.passes, tb.passes, tc.passes, td.passes);
    })

pub segment_again : (end : ℕ) (s rest : List ℕ) → IsSegment s → segment_at end (s ++ rest) ≡ Ok (s, rest)
unfolding segment_at
segment_again end [] rest h = absurd h
segment_again end (a ∷ []) rest h = absurd h
segment_again end (a ∷ b ∷ []) rest h = absurd h
segment_again end (a ∷ b ∷ c ∷ []) rest h = absurd h
segment_again end (a ∷ b ∷ c ∷ d ∷ []) rest h =
    rw (letter_again is_letter end a (b ∷ c ∷ d ∷ rest) h.0, letter_again is_word end b (c ∷ d ∷ rest) h.1, letter_again is_word end c (d ∷ rest) h.2, letter_again is_word end d rest h.3) refl
segment_again end (a ∷ b ∷ c ∷ d ∷ e ∷ s) rest h = absurd h

-- ---- so many segments

-- What was read from bytes: n segments, and the rest.
pub record TakesSeveral (n : ℕ) (bytes : List ℕ) (x : List (List ℕ) × List ℕ) : Type 0 where
  pub parts : bytes ≡ joined x.0 ++ x.1
  pub count : length x.0 ≡ n
  pub segments : AllByRecursion IsSegment x.0

pub several_takes : (n end : ℕ) (bytes : List ℕ) (x : List (List ℕ) × List ℕ) → several_at n end bytes ≡ Ok x → TakesSeveral n bytes x
several_takes zero end bytes x e =
    subst (λ (y : List (List ℕ) × List ℕ). TakesSeveral 0 bytes y) (ok_is ([], bytes) x e) (record { parts = refl; count = refl; segments = tt })
several_takes (suc n) end bytes x e =
    let a = bind_ok (segment_at end bytes) (λ s. several_at n end s.1 >>= λ ss. Ok (s.0 ∷ ss.0, ss.1)) x e in
    let b = bind_ok (several_at n end a.0.1) (λ ss. Ok (a.0.0 ∷ ss.0, ss.1)) x a.2 in
    let first = segment_takes end bytes a.0 a.1 in
    let others = several_takes n end a.0.1 b.0 b.1 in
    subst (λ (y : List (List ℕ) × List ℕ). TakesSeveral (suc n) bytes y) (ok_is (a.0.0 ∷ b.0.0, b.0.1) x b.2) (record {
      parts = first.parts ∙ ap (λ (t : List ℕ). a.0.0 ++ t) others.parts ∙ sym (append_assoc a.0.0 (joined b.0.0) b.0.1);
      count = ap suc others.count;
      segments = (first.segment, others.segments);
    })

pub several_again : (end : ℕ) (ss : List (List ℕ)) (rest : List ℕ) → AllByRecursion IsSegment ss → several_at (length ss) end (joined ss ++ rest) ≡ Ok (ss, rest)
several_again end [] rest all = refl
several_again end (s ∷ ss) rest all =
    ap (several_at (suc (length ss)) end) (append_assoc s (joined ss) rest) ∙ rw (segment_again end s (joined ss ++ rest) all.0, several_again end ss rest all.1) refl

several_again_by : (end n : ℕ) (ss : List (List ℕ)) (rest : List ℕ) → length ss ≡ n → AllByRecursion IsSegment ss → several_at n end (joined ss ++ rest) ≡ Ok (ss, rest)
several_again_by end n ss rest count all = subst (λ (k : ℕ). several_at k end (joined ss ++ rest) ≡ Ok (ss, rest)) count (several_again end ss rest all)

-- ---- the segments of a name

none_takes : (b : ℕ) (rest : List ℕ) (x : List (List ℕ) × List ℕ) → IsBytes (b ∷ rest) → b ≡ 0 → done ([], rest) ≡ done x → Takes Segments (b ∷ rest) x
none_takes b rest x fits is e =
    subst (λ (y : List (List ℕ) × List ℕ). Takes Segments (b ∷ rest) y) (ok_is ([], rest) x e) (record {
      front = 0 ∷ [];
      parts = ap (λ (c : ℕ). c ∷ rest) is;
      spelled = spells_no_segment;
      rest_fits = IsBytes-rest b rest fits;
    })

one_takes : (end : ℕ) (bytes : List ℕ) (x : List (List ℕ) × List ℕ) → IsBytes bytes → several_at 1 end bytes ≡ Ok x → Takes Segments bytes x
one_takes end bytes x fits e =
    let t = several_takes 1 end bytes x e in
    record { front = joined x.0; parts = t.parts; spelled = spells_one_segment x.0 t.count t.segments; rest_fits = IsBytes-after (joined x.0) x.1 (subst IsBytes t.parts fits) }

two_takes : (end b : ℕ) (rest : List ℕ) (x : List (List ℕ) × List ℕ) → IsBytes (b ∷ rest) → b ≡ 46 → several_at 2 end rest ≡ Ok x → Takes Segments (b ∷ rest) x
two_takes end b rest x fits is e =
    let t = several_takes 2 end rest x e in
    record {
      front = 46 ∷ joined x.0;
      parts = ap (λ (c : ℕ). c ∷ rest) is ∙ ap (λ (r : List ℕ). 46 ∷ r) t.parts;
      spelled = spells_two_segments x.0 t.count t.segments;
      rest_fits = IsBytes-after (joined x.0) x.1 (subst IsBytes t.parts (IsBytes-rest b rest fits));
    }

counted_takes : (end b n : ℕ) (rest : List ℕ) (x : List (List ℕ) × List ℕ) → IsBytes (b ∷ n ∷ rest) → b ≡ 47 → n ≢ 0 → several_at n end rest ≡ Ok x → Takes Segments (b ∷ n ∷ rest) x
counted_takes end b n rest x fits is some e =
    let t = several_takes n end rest x e in
    let count = t.count in
    let below = fits 1 in
    record {
      front = 47 ∷ length x.0 ∷ joined x.0;
      parts = ap (λ (c : ℕ). c ∷ n ∷ rest) is ∙ ap (λ (k : ℕ). 47 ∷ k ∷ rest) (sym count) ∙ ap (λ (r : List ℕ). 47 ∷ length x.0 ∷ r) t.parts;
      spelled = spells_many_segments x.0 (omega arith) (omega arith) t.segments;
      rest_fits = IsBytes-after (joined x.0) x.1 (subst IsBytes t.parts (IsBytes-rest n rest (IsBytes-rest b (n ∷ rest) fits)));
    }

many_takes : (end b : ℕ) (rest : List ℕ) (x : List (List ℕ) × List ℕ) → IsBytes (b ∷ rest) → b ≡ 47 → many_at end rest ≡ Ok x → Takes Segments (b ∷ rest) x
many_takes end b [] x fits is e = absurd cc
many_takes end b (n ∷ rest) x fits is e =
    elim (chosen (eqb n 0) _ _ _ e) [
      | inl h ↦ absurd (let impossible = h.1 in cc)
      | inr h ↦ counted_takes end b n rest x fits is (eqb-false _ _ h.0) h.1
    ]

pub segments_takes : (end : ℕ) (bytes : List ℕ) (x : List (List ℕ) × List ℕ) → IsBytes bytes → segments_at end bytes ≡ Ok x → Takes Segments bytes x
unfolding segments_at
segments_takes end [] x fits e = absurd cc
segments_takes end (b ∷ rest) x fits e =
    elim (chosen (eqb b 0) _ _ _ e) [
      | inl h ↦ none_takes b rest x fits (eqb-true _ _ h.0) h.1
      | inr h0 ↦
          elim (chosen (eqb b 46) _ _ _ h0.1) [
            | inl h ↦ two_takes end b rest x fits (eqb-true _ _ h.0) h.1
            | inr h1 ↦
                elim (chosen (eqb b 47) _ _ _ h1.1) [
                  | inl h ↦ many_takes end b rest x fits (eqb-true _ _ h.0) h.1
                  | inr h2 ↦
                      one_takes end (b ∷ rest) x fits h2.1
                ]
          ]
    ]

-- no letter of a segment is one of the bytes that begin a name otherwise
letter_ne : (a k : ℕ) → IsTrue (is_letter a) → is_letter k ≡ false → a ≢ k
letter_ne a k h fails is = let impossible : false ≡ true = sym fails ∙ sym (ap is_letter is) ∙ h in cc

-- a segment begins with a letter
pub first_letter : (a : ℕ) (s : List ℕ) → IsSegment (a ∷ s) → IsTrue (is_letter a)
first_letter a [] h = absurd h
first_letter a (b ∷ []) h = absurd h
first_letter a (b ∷ c ∷ []) h = absurd h
first_letter a (b ∷ c ∷ d ∷ []) h = h.0
first_letter a (b ∷ c ∷ d ∷ e ∷ s) h = absurd h

one_again : (end : ℕ) (ss : List (List ℕ)) (rest : List ℕ) → length ss ≡ 1 → AllByRecursion IsSegment ss → segments_at end (joined ss ++ rest) ≡ Ok (ss, rest)
unfolding segments_at
one_again end [] rest count all = absurd (omega arith)
one_again end ([] ∷ ss) rest count all = absurd all.0
one_again end ((a ∷ s) ∷ ss) rest count all =
    let first = first_letter a s all.0 in
    rw (ne_eqb a 0 (letter_ne a 0 first refl), ne_eqb a 46 (letter_ne a 46 first refl), ne_eqb a 47 (letter_ne a 47 first refl)) (several_again_by end 1 ((a ∷ s) ∷ ss) rest count all)

many_again : (end : ℕ) (ss : List (List ℕ)) (rest : List ℕ) → 0 < length ss → AllByRecursion IsSegment ss → many_at end (length ss ∷ joined ss ++ rest) ≡ Ok (ss, rest)
many_again end ss rest some all = rw (ne_eqb (length ss) 0 (λ none. omega arith)) (several_again end ss rest all)

pub segments_again : (end : ℕ) (ss : List (List ℕ)) (c rest : List ℕ) → Segments ss c → segments_at end (c ++ rest) ≡ Ok (ss, rest)
unfolding segments_at
segments_again end ss c rest spells_no_segment = refl
segments_again end ss c rest (spells_one_segment ts count all) = one_again end ts rest count all
segments_again end ss c rest (spells_two_segments ts count all) = several_again_by end 2 ts rest count all
segments_again end ss c rest (spells_many_segments ts some few all) = many_again end ts rest some all

-- ---- the prefix

ups_more : (b : ℕ) (bytes : List ℕ) → eqb b 94 ≡ true → ups_at (b ∷ bytes) ≡ (suc (ups_at bytes).0, (ups_at bytes).1)
ups_more b bytes h = rw h refl

ups_none : (b : ℕ) (bytes : List ℕ) → eqb b 94 ≡ false → ups_at (b ∷ bytes) ≡ (0, b ∷ bytes)
ups_none b bytes h = rw h refl

ups_parts : (bytes : List ℕ) → bytes ≡ replicate (ups_at bytes).0 94 ++ (ups_at bytes).1
ups_parts [] = refl
ups_parts (b ∷ bytes) =
    elim (choice (eqb b 94)) [
      | inl h ↦
          let same : b ≡ 94 = eqb-true b 94 h in
          let whole : b ∷ bytes ≡ 94 ∷ (replicate (ups_at bytes).0 94 ++ (ups_at bytes).1) = ap (λ (c : ℕ). c ∷ bytes) same ∙ ap (λ (r : List ℕ). 94 ∷ r) (ups_parts bytes) in
          subst (λ (u : ℕ × List ℕ). b ∷ bytes ≡ replicate u.0 94 ++ u.1) (sym (ups_more b bytes h)) whole
      | inr h ↦ subst (λ (u : ℕ × List ℕ). b ∷ bytes ≡ replicate u.0 94 ++ u.1) (sym (ups_none b bytes h)) refl
    ]

-- bytes that don't begin with the root, where so many steps up stand before them
abbrev BeginsOther : ℕ → List ℕ → Type 0
BeginsOther ups [] = Unit {0}
BeginsOther ups (b ∷ rest) = ups ≡ 0 → b ≢ 92

later : (n b : ℕ) (bytes : List ℕ) → BeginsOther (n + 1) bytes
later n b [] = tt
later n b (c ∷ bytes) = λ none. absurd (omega arith)

ups_end : (n : ℕ) (bytes : List ℕ) → BeginsOther n bytes → EndsPrefix false (n + (ups_at bytes).0) (ups_at bytes).1
ups_end n [] other = ends_bytes
ups_end n (b ∷ bytes) other =
    elim (choice (eqb b 94)) [
      | inl h ↦
          let inner = ups_end (n + 1) bytes (later n b bytes) in
          let count : n + 1 + (ups_at bytes).0 ≡ n + suc (ups_at bytes).0 = omega arith in
          subst (λ (u : ℕ × List ℕ). EndsPrefix false (n + u.0) u.1) (sym (ups_more b bytes h)) (subst (λ (k : ℕ). EndsPrefix false k (ups_at bytes).1) count inner)
      | inr h ↦ subst (λ (u : ℕ × List ℕ). EndsPrefix false (n + u.0) u.1) (sym (ups_none b bytes h)) (ends_ups (eqb-false _ _ h) (λ none. other (omega arith)))
    ]

-- How bytes part into the longest prefix and the rest.
pub record PrefixParts (bytes : List ℕ) (x : Bool × ℕ × List ℕ) : Type 0 where
  pub front : List ℕ
  pub parts : bytes ≡ front ++ x.2
  pub spelled : Prefix x.0 x.1 front
  pub ends : EndsPrefix x.0 x.1 x.2

root_parts : (b : ℕ) (bytes : List ℕ) → b ≡ 92 → PrefixParts (b ∷ bytes) (true, 0, bytes)
root_parts b bytes is = record { front = 92 ∷ []; parts = ap (λ (c : ℕ). c ∷ bytes) is; spelled = spells_root; ends = ends_root }

here_parts : (bytes : List ℕ) → BeginsOther 0 bytes → PrefixParts bytes (false, (ups_at bytes).0, (ups_at bytes).1)
here_parts bytes other = record {
  front = replicate (ups_at bytes).0 94;
  parts = ups_parts bytes;
  spelled = spells_ups (ups_at bytes).0;
  ends = subst (λ (k : ℕ). EndsPrefix false k (ups_at bytes).1) (omega arith) (ups_end 0 bytes other);
}

root_prefix : (b : ℕ) (bytes : List ℕ) → eqb b 92 ≡ true → prefix_at (b ∷ bytes) ≡ (true, 0, bytes)
unfolding prefix_at
root_prefix b bytes h = rw h refl

here_prefix : (b : ℕ) (bytes : List ℕ) → eqb b 92 ≡ false → prefix_at (b ∷ bytes) ≡ (false, (ups_at (b ∷ bytes)).0, (ups_at (b ∷ bytes)).1)
unfolding prefix_at
here_prefix b bytes h = rw h refl

no_prefix : prefix_at [] ≡ (false, 0, [])
unfolding prefix_at
no_prefix = refl

pub prefix_parts : (bytes : List ℕ) → PrefixParts bytes (prefix_at bytes)
prefix_parts [] = subst (λ (x : Bool × ℕ × List ℕ). PrefixParts [] x) (sym no_prefix) (here_parts [] tt)
prefix_parts (b ∷ bytes) =
    elim (choice (eqb b 92)) [
      | inl h ↦ subst (λ (x : Bool × ℕ × List ℕ). PrefixParts (b ∷ bytes) x) (sym (root_prefix b bytes h)) (root_parts b bytes (eqb-true _ _ h))
      | inr h ↦ subst (λ (x : Bool × ℕ × List ℕ). PrefixParts (b ∷ bytes) x) (sym (here_prefix b bytes h)) (here_parts (b ∷ bytes) (λ _. eqb-false _ _ h))
    ]

-- bytes that don't begin with a step up
abbrev BeginsNoUp : List ℕ → Type 0
BeginsNoUp [] = Unit {0}
BeginsNoUp (b ∷ rest) = b ≢ 94

ups_again : (ups : ℕ) (rest : List ℕ) → BeginsNoUp rest → ups_at (replicate ups 94 ++ rest) ≡ (ups, rest)
ups_again zero [] not_up = refl
ups_again zero (b ∷ rest) not_up = ups_none b rest (ne_eqb b 94 not_up)
ups_again (suc ups) rest not_up = ap (λ (u : ℕ × List ℕ). (suc u.0, u.1)) (ups_again ups rest not_up)

here_again : (ups : ℕ) (rest : List ℕ) → BeginsNoUp rest → BeginsOther ups rest → prefix_at (replicate ups 94 ++ rest) ≡ (false, ups, rest)
here_again zero [] not_up other = no_prefix
here_again zero (b ∷ rest) not_up other = here_prefix b rest (ne_eqb b 92 (other refl)) ∙ ap (λ (u : ℕ × List ℕ). (false, u.0, u.1)) (ups_none b rest (ne_eqb b 94 not_up))
here_again (suc ups) rest not_up other = here_prefix 94 (replicate ups 94 ++ rest) refl ∙ ap (λ (u : ℕ × List ℕ). (false, u.0, u.1)) (ups_again (suc ups) rest not_up)

root_again : (rest : List ℕ) → prefix_at (92 ∷ rest) ≡ (true, 0, rest)
root_again rest = root_prefix 92 rest refl

ends_again : (ups : ℕ) (rest : List ℕ) → EndsPrefix false ups rest → prefix_at (replicate ups 94 ++ rest) ≡ (false, ups, rest)
ends_again ups rest ends_bytes = here_again ups [] tt tt
ends_again ups rest (ends_ups not_up other) = here_again ups rest not_up other

pub prefix_again : (root : Bool) (ups : ℕ) (p rest : List ℕ) → Prefix root ups p → EndsPrefix root ups rest → prefix_at (p ++ rest) ≡ (root, ups, rest)
prefix_again root ups p rest spells_root ends = root_again rest
prefix_again root ups p rest (spells_ups n) ends = ends_again n rest ends

-- ---- names

letter_ends : (ups a : ℕ) (rest : List ℕ) → IsTrue (is_letter a) → EndsPrefix false ups (a ∷ rest)
letter_ends ups a rest h = ends_ups (letter_ne a 94 h refl) (λ _. letter_ne a 92 h refl)

one_ends : (ups : ℕ) (ss : List (List ℕ)) (rest : List ℕ) → length ss ≡ 1 → AllByRecursion IsSegment ss → EndsPrefix false ups (joined ss ++ rest)
one_ends ups [] rest count all = absurd (omega arith)
one_ends ups ([] ∷ ss) rest count all = absurd all.0
one_ends ups ((a ∷ s) ∷ ss) rest count all = letter_ends ups a _ (first_letter a s all.0)

segments_end_ups : (ups : ℕ) (ss : List (List ℕ)) (c rest : List ℕ) → Segments ss c → EndsPrefix false ups (c ++ rest)
segments_end_ups ups ss c rest spells_no_segment = ends_ups (λ e. absurd (omega arith)) (λ _ e. absurd (omega arith))
segments_end_ups ups ss c rest (spells_one_segment ts count all) = one_ends ups ts rest count all
segments_end_ups ups ss c rest (spells_two_segments ts count all) = ends_ups (λ e. absurd (omega arith)) (λ _ e. absurd (omega arith))
segments_end_ups ups ss c rest (spells_many_segments ts some few all) = ends_ups (λ e. absurd (omega arith)) (λ _ e. absurd (omega arith))

-- what spells segments ends a prefix
pub segments_end_prefix : (root : Bool) (ups : ℕ) (p : List ℕ) (ss : List (List ℕ)) (c rest : List ℕ) → Prefix root ups p → Segments ss c → EndsPrefix root ups (c ++ rest)
segments_end_prefix root ups p ss c rest spells_root spelled = ends_root
segments_end_prefix root ups p ss c rest (spells_ups n) spelled = segments_end_ups n ss c rest spelled

-- the path of a prefix and segments
abbrev pub path_of : Bool × ℕ × List ℕ → List (List ℕ) → Path
path_of x ss = record { root = x.0; ups = x.1; segs = ss }

pub name_takes : (end : ℕ) (bytes : List ℕ) (x : Path × List ℕ) → IsBytes bytes → name_at end bytes ≡ Ok x → Takes NameOf bytes x
unfolding name_at
name_takes end bytes x fits e =
    let p = prefix_parts bytes in
    let a = bind_ok (segments_at end (prefix_at bytes).2) (λ s. Ok (path_of (prefix_at bytes) s.0, s.1)) x e in
    let t = segments_takes end (prefix_at bytes).2 a.0 (IsBytes-after p.front (prefix_at bytes).2 (subst IsBytes p.parts fits)) a.1 in
    subst (λ (y : Path × List ℕ). Takes NameOf bytes y) (ok_is (path_of (prefix_at bytes) a.0.0, a.0.1) x a.2) (record {
      front = p.front ++ t.front;
      parts = p.parts ∙ ap (λ (r : List ℕ). p.front ++ r) t.parts ∙ sym (append_assoc p.front t.front a.0.1);
      spelled = spells_name p.spelled t.spelled;
      rest_fits = t.rest_fits;
    })

name_by : (end : ℕ) (bytes : List ℕ) (x : Bool × ℕ × List ℕ) (ss : List (List ℕ)) (rest : List ℕ) → prefix_at bytes ≡ x → segments_at end x.2 ≡ Ok (ss, rest)
    → name_at end bytes ≡ Ok (path_of x ss, rest)
unfolding name_at
name_by end bytes x ss rest is read = rw (is, read) refl

pub name_again : (end : ℕ) (path : Path) (c rest : List ℕ) → NameOf path c → name_at end (c ++ rest) ≡ Ok (path, rest)
name_again end path c rest (spells_name {p = p} {s = s} prefix segments) =
    ap (name_at end) (append_assoc p s rest) ∙ name_by end (p ++ (s ++ rest)) (path.root, path.ups, s ++ rest) path.segs rest
    (prefix_again path.root path.ups p (s ++ rest) prefix (segments_end_prefix path.root path.ups p path.segs s rest prefix segments)) (segments_again end path.segs s rest segments)
