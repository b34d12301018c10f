-- The name that the body of a method begins with.
use Rattle.std.proofs.Common.{◌≡◌, ◌<◌, ◌≤◌, ◌-◌, ◌==◌, if◌then◌else◌, ℕ, zero, suc, Bool, true, false, List, [], ◌∷◌, ◌++◌, length, take, drop, replicate}
use Rattle.std.proofs.Common.{refl, sym, ap, subst, ◌∙◌, arith, inl, inr, append_assoc, Option, Some, None}
use Rattle.std.specs.Prelude.{Ok, Err, MatchOption}
use Rattle.std.specs.List.{AllByRecursion}
use Rattle.std.proofs.lemmas.Bool.{false≢true}
use Rattle.std.proofs.lemmas.Bool.Decides.{eqb_tells}
use Rattle.std.proofs.lemmas.List.{take-append-drop}
use Rattle.aml_data.specs.declared.fault.DataFault.{DataFault}
use Rattle.aml_data.specs.declared.path.Path.{Path}
use Rattle.aml_data.specs.Segment.{IsSegment, joined, is_letter}
use Rattle.aml_data.specs.Grammar.{NameOf, spells_name, Prefix, spells_root, spells_ups, Segments, spells_no_segment, spells_one_segment, spells_two_segments, spells_many_segments}
use Rattle.aml_data.specs.inner.Reading.{Read, name_at}
use Rattle.aml_data.proofs.Names.{name_takes, name_again}
use Rattle.aml_data.proofs.Steps.{IsBytes, IsBytes-after, IsBytes-take}
use Rattle.acpi_space.proofs.Trees.{same_some}
use Rattle.acpi_space.specs.MethodNames.{IsMethodName}
use Rattle.aml_data.specs.declared.data.Width.{Width}
use Rattle.acpi_space.specs.declared.terms.MethodName.{MethodName}
use Rattle.acpi_space.specs.Things.Thing.{method}
use Rattle.acpi_space.specs.Places.{Place, up}
use Rattle.acpi_space.specs.Steps.{gives, method_steps}
use Rattle.acpi_space.specs.inner.Naming.{named_by, path_of, with_a_segment}
use Rattle.aml_data.proofs.WrittenLengths.{length-joined_segments}

-- the bytes don't begin with this one
abbrev pub NotStart : ℕ → List ℕ → Type 0
NotStart b bytes = (rest : List ℕ) → bytes ≡ b ∷ rest → ⊥

heads : {X : Type 0} {a b : X} {us vs : List X} → a ∷ us ≡ b ∷ vs → (a ≡ b) × (us ≡ vs)
heads e = (cc, cc)

-- ---- segments

segments_size : (ss : List (List ℕ)) (s : List ℕ) → Segments ss s → length s ≤ 1022
segments_size ss s spells_no_segment = omega arith
segments_size ss s (spells_one_segment ts count all) = let size = length-joined_segments ts all in omega (arith, size, count)
segments_size ss s (spells_two_segments ts count all) = let size = length-joined_segments ts all in omega (arith, size, count)
segments_size ss s (spells_many_segments ts some few all) = let size = length-joined_segments ts all in omega (arith, size, few)

first_letter : (a : ℕ) (s : List ℕ) → IsSegment (a ∷ s) → is_letter a ≡ true
first_letter a (b ∷ c ∷ d ∷ []) is = is.0
first_letter a [] is = absurd is
first_letter a (b ∷ []) is = absurd is
first_letter a (b ∷ c ∷ []) is = absurd is
first_letter a (b ∷ c ∷ d ∷ e ∷ s) is = absurd is

one_starts : (x : ℕ) (ss : List (List ℕ)) (rest : List ℕ) → is_letter x ≡ false → length ss ≡ 1 → AllByRecursion IsSegment ss → NotStart x (joined ss ++ rest)
one_starts x [] rest other count all = absurd (let impossible = count in omega arith)
one_starts x ([] ∷ ss) rest other count all = absurd all.0
one_starts x ((a ∷ s) ∷ ss) rest other count all = λ r e. false≢true (sym other ∙ ap is_letter (sym (heads e).0) ∙ first_letter a s all.0)

-- segments don't begin with a step up
segments_start : (ss : List (List ℕ)) (s rest : List ℕ) → Segments ss s → NotStart 94 (s ++ rest)
segments_start ss s rest spells_no_segment = λ r e. (let same = (heads e).0 in omega (arith, same))
segments_start ss s rest (spells_one_segment ts count all) = one_starts 94 ts rest refl count all
segments_start ss s rest (spells_two_segments ts count all) = λ r e. (let same = (heads e).0 in omega (arith, same))
segments_start ss s rest (spells_many_segments ts some few all) = λ r e. (let same = (heads e).0 in omega (arith, same))

-- ---- a name behind steps up

-- a name without steps up, behind so many of them
with_steps : (root : Bool) (inner ups : ℕ) (p : List ℕ) (ss : List (List ℕ)) (s rest : List ℕ) → Prefix root inner p → Segments ss s → NotStart 94 ((p ++ s) ++ rest)
    → (0 < ups → NotStart 92 ((p ++ s) ++ rest)) → NameOf (record { root = root; ups = ups; segs = ss }) (replicate ups 94 ++ (p ++ s))
with_steps root inner zero p ss s rest spells_root spelled bare free = spells_name {path = record { root = true; ups = 0; segs = ss }} spells_root spelled
with_steps root inner (suc ups) p ss s rest spells_root spelled bare free = absurd (free (omega arith) (s ++ rest) refl)
with_steps root inner ups p ss s rest (spells_ups zero) spelled bare free = spells_name {path = record { root = false; ups = ups; segs = ss }} (spells_ups ups) spelled
with_steps root inner ups p ss s rest (spells_ups (suc n)) spelled bare free = absurd (bare _ refl)

-- what stands behind the steps up of a name
record Behind (root : Bool) (ups n : ℕ) (ss : List (List ℕ)) (rest after : List ℕ) : Type 0 where
  front : List ℕ
  parts : rest ≡ front ++ after
  spelled : NameOf (record { root = root; ups = 0; segs = ss }) front
  small : length front ≤ 1023
  same : ups ≡ n
  free : 0 < n → NotStart 92 rest

same_steps : (n ups : ℕ) (ss : List (List ℕ)) (s rest after : List ℕ) → Segments ss s → NotStart 94 rest → replicate n 94 ++ rest ≡ (replicate ups 94 ++ s) ++ after
    → (ups ≡ n) × (rest ≡ s ++ after)
same_steps zero zero ss s rest after spelled bare e = (refl, e)
same_steps (suc n) (suc ups) ss s rest after spelled bare e = let r = same_steps n ups ss s rest after spelled bare (heads e).1 in (ap suc r.0, r.1)
same_steps zero (suc ups) ss s rest after spelled bare e = absurd (bare _ e)
same_steps (suc n) zero ss s rest after spelled bare e = absurd (segments_start ss s after spelled _ (sym e))

segments_not_root : (ss : List (List ℕ)) (s rest : List ℕ) → Segments ss s → NotStart 92 (s ++ rest)
segments_not_root ss s rest spells_no_segment = λ r e. (let same = (heads e).0 in omega (arith, same))
segments_not_root ss s rest (spells_one_segment ts count all) = one_starts 92 ts rest refl count all
segments_not_root ss s rest (spells_two_segments ts count all) = λ r e. (let same = (heads e).0 in omega (arith, same))
segments_not_root ss s rest (spells_many_segments ts some few all) = λ r e. (let same = (heads e).0 in omega (arith, same))

without_steps : (root : Bool) (ups n : ℕ) (p : List ℕ) (ss : List (List ℕ)) (s rest after : List ℕ) → Prefix root ups p → Segments ss s → NotStart 94 rest
    → replicate n 94 ++ rest ≡ (p ++ s) ++ after → Behind root ups n ss rest after
without_steps root ups zero p ss s rest after spells_root spelled bare e = record {
  front = 92 ∷ s;
  parts = e;
  spelled = spells_name {path = record { root = true; ups = 0; segs = ss }} spells_root spelled;
  small = (let size = segments_size ss s spelled in omega (arith, size));
  same = refl;
  free = λ some. absurd (omega (arith, some));
}
without_steps root ups (suc n) p ss s rest after spells_root spelled bare e = absurd (let same = (heads e).0 in omega (arith, same))
without_steps root ups n p ss s rest after (spells_ups m) spelled bare e =
    let r = same_steps n m ss s rest after spelled bare e in
    record {
      front = s;
      parts = r.1;
      spelled = spells_name {path = record { root = false; ups = 0; segs = ss }} (spells_ups 0) spelled;
      small = (let size = segments_size ss s spelled in omega (arith, size));
      same = r.0;
      free = λ some. subst (NotStart 92) (sym r.1) (segments_not_root ss s after spelled);
    }

-- ---- what was read

-- the name of a body whose beginning was read
behind_steps : (path : Path) (ups : ℕ) (c rest : List ℕ) → NameOf path c → NotStart 94 (c ++ rest) → (0 < ups → NotStart 92 (c ++ rest))
    → NameOf (record { root = path.root; ups = ups; segs = path.segs }) (replicate ups 94 ++ c)
behind_steps path ups c rest (spells_name {p = p} {s = s} prefix segments) bare free = with_steps path.root path.ups ups p path.segs s rest prefix segments bare free

pub read_there : (body rest : List ℕ) (ups end : ℕ) (x : Path × List ℕ) → IsBytes rest → body ≡ replicate ups 94 ++ rest → NotStart 94 rest → (0 < ups → NotStart 92 rest)
    → name_at end (take 1023 rest) ≡ Ok x → 0 < length x.0.segs → IsMethodName body (record { root = x.0.root; ups = ups; segs = x.0.segs })
read_there body rest ups end x fits parts bare free e some =
    let t = name_takes end (take 1023 rest) x (IsBytes-take 1023 rest fits) e in
    let whole : rest ≡ t.front ++ (x.1 ++ drop 1023 rest) =
    sym (take-append-drop 1023 rest) ∙ ap (λ (l : List ℕ). l ++ drop 1023 rest) t.parts ∙ append_assoc t.front x.1 (drop 1023 rest) in
    record {
      front = replicate ups 94 ++ t.front;
      rest = x.1 ++ drop 1023 rest;
      parts = parts ∙ ap (λ (l : List ℕ). replicate ups 94 ++ l) whole ∙ sym (append_assoc (replicate ups 94) t.front (x.1 ++ drop 1023 rest));
      spelled = behind_steps x.0 ups t.front (x.1 ++ drop 1023 rest) t.spelled (subst (NotStart 94) whole bare) (λ more. subst (NotStart 92) whole (free more));
      some = some;
    }

take_onto : (front rest : List ℕ) (n : ℕ) → length front ≤ n → take n (front ++ rest) ≡ front ++ take (n - length front) rest
take_onto [] rest n le = ap (λ k. take k rest) (omega arith)
take_onto (b ∷ bs) rest zero le = absurd (omega (arith, le))
take_onto (b ∷ bs) rest (suc n) le =
    let count : n - length bs ≡ suc n - suc (length bs) = omega arith in
    ap (λ (l : List ℕ). b ∷ l) (take_onto bs rest n (omega (arith, le))) ∙ ap (λ k. (b ∷ bs) ++ take k rest) count

-- what stands behind the steps up of a body that has a name
split : (path : Path) (ups : ℕ) (rest c after : List ℕ) → NameOf path c → NotStart 94 rest → replicate ups 94 ++ rest ≡ c ++ after → Behind path.root path.ups ups path.segs rest after
split path ups rest c after (spells_name {p = p} {s = s} prefix segments) bare e = without_steps path.root path.ups ups p path.segs s rest after prefix segments bare e

behind : (body rest : List ℕ) (ups : ℕ) (path : Path) → body ≡ replicate ups 94 ++ rest → NotStart 94 rest → (name : IsMethodName body path)
    → Behind path.root path.ups ups path.segs rest name.rest
behind body rest ups path parts bare name = split path ups rest name.front name.rest name.spelled bare (sym parts ∙ name.parts)

-- the beginning of a body that has a name is read
read_again : (body rest : List ℕ) (ups end : ℕ) (path : Path) → body ≡ replicate ups 94 ++ rest → NotStart 94 rest → IsMethodName body path
    → (after : List ℕ) × (name_at end (take 1023 rest) ≡ Ok (record { root = path.root; ups = 0; segs = path.segs }, after))
read_again body rest ups end path parts bare name =
    let b = behind body rest ups path parts bare name in
    let after = take (1023 - length b.front) name.rest in (
      after,
      ap (λ (l : List ℕ). name_at end (take 1023 l)) b.parts ∙ ap (name_at end) (take_onto b.front name.rest 1023 b.small)
          ∙ name_again end (record { root = path.root; ups = 0; segs = path.segs }) b.front after b.spelled,
    )

abbrev read_ok : Path × List ℕ → Read Path
read_ok x = Ok x

ok_same : (x y : Path × List ℕ) → read_ok x ≡ read_ok y → x ≡ y
ok_same x y e = cc

pub not_after_root : (body rest : List ℕ) (ups : ℕ) (path : Path) → body ≡ replicate ups 94 ++ rest → NotStart 94 rest → 0 < ups → (more : List ℕ) → rest ≡ 92 ∷ more
    → IsMethodName body path → ⊥
not_after_root body rest ups path parts bare some more e name = (behind body rest ups path parts bare name).free some more e

pub not_read : (body rest : List ℕ) (ups end : ℕ) (path : Path) (f : DataFault) → body ≡ replicate ups 94 ++ rest → NotStart 94 rest → name_at end (take 1023 rest) ≡ Err f
    → IsMethodName body path → ⊥
not_read body rest ups end path f parts bare e name = let again = (read_again body rest ups end path parts bare name).1 in absurd (let g = sym again ∙ e in cc)

pub not_some : (body rest : List ℕ) (ups end : ℕ) (path : Path) (x : Path × List ℕ) → body ≡ replicate ups 94 ++ rest → NotStart 94 rest → name_at end (take 1023 rest) ≡ Ok x
    → length x.0.segs ≡ 0 → IsMethodName body path → ⊥
not_some body rest ups end path x parts bare e none name =
    let again = (read_again body rest ups end path parts bare name).1 in
    let same : path.segs ≡ x.0.segs = ap (λ (y : Path × List ℕ). y.0.segs) (ok_same _ x (sym again ∙ e)) in
    let size = ap length same in
    let some = name.some in
    omega (arith, none, size, some)

-- ---- the name in words

has_some : (path : Path) → 0 < length path.segs → (if length path.segs == 0 then None else Some path) ≡ Some path
has_some path some = elim (eqb_tells (length path.segs) 0) [
  | inl same ↦ let e = same.1 in absurd (omega (arith, some, e))
  | inr apart ↦ rw apart.0 refl
]

pub named_from : (body : List ℕ) (path : Path) → IsMethodName body path → named_by body ≡ Some path
unfolding named_by
named_from body path name =
    let again : name_at (length body) body ≡ Ok (path, name.rest) = ap (name_at (length body)) name.parts ∙ name_again (length body) path name.front name.rest name.spelled in
    ap with_a_segment again ∙ has_some path name.some

not_zero : (n : ℕ) → (n ≡ 0 → ⊥) → 0 < n
not_zero zero other = absurd (other refl)
not_zero (suc n) other = omega arith

not_both : (b : Bool) (p q : Path) → b ≡ true → (if b then None else Some p) ≡ Some q → ⊥
not_both true p q is e = absurd (let g = e in cc)
not_both false p q is e = false≢true is

the_same : (b : Bool) (p q : Path) → b ≡ false → (if b then None else Some p) ≡ Some q → p ≡ q
the_same true p q is e = absurd (false≢true (sym is))
the_same false p q is e = same_some e

by_count : (body : List ℕ) (path : Path) (x : Path × List ℕ) → IsBytes body → name_at (length body) body ≡ Ok x
    → (if length x.0.segs == 0 then None else Some x.0) ≡ Some path → IsMethodName body path
by_count body path x fits is e = elim (eqb_tells (length x.0.segs) 0) [
  | inl same ↦ absurd (not_both (length x.0.segs == 0) x.0 path same.0 e)
  | inr apart ↦
      let t = name_takes (length body) body x fits is in
      subst (IsMethodName body) (the_same (length x.0.segs == 0) x.0 path apart.0 e)
      (record { front = t.front; rest = x.1; parts = t.parts; spelled = t.spelled; some = not_zero (length x.0.segs) apart.1 })
]

by_read : (body : List ℕ) (path : Path) (r : Read Path) → IsBytes body → name_at (length body) body ≡ r → with_a_segment r ≡ Some path → IsMethodName body path
by_read body path (Err f) fits is e = absurd (let g = e in cc)
by_read body path (Ok x) fits is e = by_count body path x fits is e

pub named_to : (body : List ℕ) (path : Path) → IsBytes body → named_by body ≡ Some path → IsMethodName body path
unfolding named_by
named_to body path fits e = by_read body path (name_at (length body) body) fits refl e

by_option : (o : Option Path) → ((path : Path) → o ≡ Some path → ⊥) → o ≡ None
by_option None never = refl
by_option (Some path) never = absurd (never path refl)

pub unnamed : (body : List ℕ) → IsBytes body → ((path : Path) → IsMethodName body path → ⊥) → named_by body ≡ None
unnamed body fits none = by_option (named_by body) (λ path e. none path (named_to body path fits e))

pub one_name : (body : List ℕ) (a b : Path) → IsMethodName body a → IsMethodName body b → a ≡ b
one_name body a b p q = same_some (sym (named_from body a p) ∙ named_from body b q)

-- what a method does in a scope, where its body has this name
pub method_placed : (width : Width) (scope from segs : Place) (body : List ℕ) (name : MethodName) → IsMethodName body (path_of name)
    → from ≡ (if name.root then [] else up name.ups scope) → segs ≡ name.segs → method_steps width scope (named_by body) ≡ gives width (from ++ segs) method ∷ []
method_placed width scope from segs body name is start same = rw (named_from body (path_of name) is, start, same) refl

pub not_placed : (width : Width) (scope : Place) (body : List ℕ) → IsBytes body → ((path : Path) → IsMethodName body path → ⊥) → method_steps width scope (named_by body) ≡ []
not_placed width scope body fits none = rw (unnamed body fits none) refl

pub some_name : (body : List ℕ) (o : Option MethodName) (name : MethodName) → o ≡ Some name
    → MatchOption o ((path : Path) → IsMethodName body path → ⊥) (λ m. IsMethodName body (path_of m)) → IsMethodName body (path_of name)
some_name body o name is told = subst (λ r. MatchOption r ((path : Path) → IsMethodName body path → ⊥) (λ m. IsMethodName body (path_of m))) is told

pub no_name_told : (body : List ℕ) (o : Option MethodName) → o ≡ None
    → MatchOption o ((path : Path) → IsMethodName body path → ⊥) (λ m. IsMethodName body (path_of m)) → (path : Path) → IsMethodName body path → ⊥
no_name_told body o is told = subst (λ r. MatchOption r ((path : Path) → IsMethodName body path → ⊥) (λ m. IsMethodName body (path_of m))) is told

pub bytes_behind : (body rest : List ℕ) (ups : ℕ) → IsBytes body → body ≡ replicate ups 94 ++ rest → IsBytes rest
bytes_behind body rest ups fits parts = IsBytes-after (replicate ups 94) rest (subst IsBytes parts fits)

pub empty_is : {X : Type 0} (xs : List X) (b : Bool) → b ≡ (length xs == 0) → b ≡ true → length xs ≡ 0
empty_is xs b is bare = elim (eqb_tells (length xs) 0) [
  | inl same ↦ same.1
  | inr apart ↦ absurd (false≢true (sym apart.0 ∙ sym is ∙ bare))
]

pub some_is : {X : Type 0} (xs : List X) (b : Bool) → b ≡ (length xs == 0) → b ≡ false → 0 < length xs
some_is xs b is other = elim (eqb_tells (length xs) 0) [
  | inl same ↦ absurd (false≢true (sym other ∙ is ∙ same.0))
  | inr apart ↦ not_zero (length xs) apart.1
]
