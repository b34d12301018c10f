-- The entries of `_CSD` that are kept, one after the other.
use Rattle.std.proofs.Common.{◌≡◌, ℕ, ◌+◌, ◌<◌, ◌≤◌, List, [], ◌∷◌, ◌++◌, length, drop, get_or, Err, Bool, true, false, refl, sym, ap, ◌∙◌, inl, inr, arith}
use Rattle.std.specs.Prelude.{nat_lt, ◌==◌, ◌&&◌, ◌||◌, cond, not}
use Rattle.std.specs.List.{list_any}
use Rattle.std.specs.declared.cmp.Ordering.{Ordering}
use Rattle.std.specs.declared.cmp.Ordering.TheVariants.{Less, Equal, Greater}
use Rattle.std.specs.Ordering.{nat_cmp, ordering_then, is_eq}
use Rattle.std.specs.Cmp.{unsigned_tied}
use Rattle.std.specs.BTreeMap.{is_at}
use Rattle.std.specs.BTreeSet.{BTreeSet, contains, Updates}
use Rattle.std.proofs.lemmas.List.Folds.{list_any-append}
use Rattle.acpi_values.specs.declared.fault.Why.TheVariants.{Range}
use Rattle.acpi_fields.specs.Reading.{place, shape}
use Rattle.std.proofs.lemmas.Bool.{cases_lt}
use Rattle.std.proofs.lemmas.Bool.Decides.{nat_tests}
use Rattle.std.proofs.lemmas.List.{get_or_append_left, length_push}
use Rattle.std.proofs.Math.Seq.{get_or-append_seam}
use Rattle.acpi_values.specs.declared.dependency.CDependency.{CDependency}
use Rattle.acpi_space.specs.Places.{Place}
use Rattle.pw_plan.specs.Parts.{entry_in, is_entry, no_entry}
use Rattle.pw_plan.proofs.Lists.{any_false}
use Rattle.acpi_build.specs.declared.note.NoteKind.TheVariants.{NoSuchState}
use Rattle.acpi_build.specs.Building.{Remarks, built, noted}
use Rattle.acpi_build.specs.inner.Fitting.{FitEntries}
use Rattle.acpi_build.specs.Machine.{dropped, kept_from}
use Rattle.acpi_build.proofs.Each.{rest_from}

-- an entry is kept
pub kept_more : (states k i : ℕ) (kept new entries : List CDependency) (e : CDependency) → new ≡ kept ++ e ∷ [] → i < length entries → e ≡ get_or entries i e
    → e.index < states → list_any (is_entry e.domain e.index) kept ≡ false
    → kept_from states (k + 1) new (drop (i + 1) entries) ≡ kept_from states k kept (drop i entries)
kept_more states k i kept new entries e more l is small other =
    let there : nat_lt e.index states ≡ true = grind (arith, nat_tests) in
    rw (rest_from entries i e l is, there, other, more) refl

-- an entry is dropped
pub kept_without : (states k i : ℕ) (kept entries : List CDependency) (e : CDependency) → i < length entries → e ≡ get_or entries i e → states ≤ e.index
    → kept_from states (k + 1) kept (drop (i + 1) entries) ≡ kept_from states k kept (drop i entries)
kept_without states k i kept entries e l is large =
    let none : nat_lt e.index states ≡ false = grind (arith, nat_tests) in
    rw (rest_from entries i e l is, none) refl

-- an entry that repeats a pair means nothing
pub refused_there : (states k i : ℕ) (kept entries : List CDependency) (e : CDependency) → i < length entries → e ≡ get_or entries i e
    → e.index < states → list_any (is_entry e.domain e.index) kept ≡ true → kept_from states k kept (drop i entries) ≡ Err (shape (place k 3) Range)
refused_there states k i kept entries e l is small there =
    let t : nat_lt e.index states ≡ true = grind (arith, nat_tests) in
    rw (rest_from entries i e l is, t, there) refl

-- an entry that is dropped is noted
pub dropped_more : (path : Place) (states i : ℕ) (entries : List CDependency) (e : CDependency) (old new : Remarks) → i < length entries → e ≡ get_or entries i e → states ≤ e.index
    → noted path NoSuchState (tt {0}) old ≡ built (tt {0}) new → dropped path states (drop (i + 1) entries) new ≡ dropped path states (drop i entries) old
dropped_more path states i entries e old new l is large made =
    let none : nat_lt e.index states ≡ false = grind (arith, nat_tests) in
    rw (rest_from entries i e l is, none, made) refl

-- and no other is
pub dropped_past : (path : Place) (states i : ℕ) (entries : List CDependency) (e : CDependency) (old : Remarks) → i < length entries → e ≡ get_or entries i e → e.index < states
    → dropped path states (drop (i + 1) entries) old ≡ dropped path states (drop i entries) old
dropped_past path states i entries e old l is small =
    let there : nat_lt e.index states ≡ true = grind (arith, nat_tests) in
    rw (rest_from entries i e l is, there) refl

flipped : (a b : CDependency) → is_entry a.domain a.index b ≡ false → is_entry b.domain b.index a ≡ false
flipped a b e = grind (arith, nat_tests)

pub fit_more : (states : ℕ) (kept new : List CDependency) (e : CDependency) → new ≡ kept ++ e ∷ [] → FitEntries states kept → e.index < states
    → list_any (is_entry e.domain e.index) kept ≡ false → FitEntries states new
fit_more states kept new e more fit small other =
    let size = length_push kept e in
    let last : entry_in (kept ++ e ∷ []) (length kept) ≡ e = get_or-append_seam kept e [] no_entry in
    rw more (record {
      state = λ k l. elim (cases_lt k (length kept)) [
        | inl below ↦ rw (get_or_append_left kept (e ∷ []) no_entry k below) (fit.state k below)
        | inr past ↦ let at : k ≡ length kept = omega arith in rw (at, last) small
      ];
      once = λ j k less l. elim (cases_lt k (length kept)) [
        | inl below ↦ let first : j < length kept = omega arith in rw (get_or_append_left kept (e ∷ []) no_entry k below, get_or_append_left kept (e ∷ []) no_entry j first) (fit.once j k less below)
        | inr past ↦
            let at : k ≡ length kept = omega arith in
            let first : j < length kept = omega arith in
            rw (at, last, get_or_append_left kept (e ∷ []) no_entry j first) (flipped e (entry_in kept j) (any_false (is_entry e.domain e.index) kept j no_entry other first))
      ];
    })

-- # Pairs of a domain and a state that are seen

abbrev pub pair_cmp : ℕ × ℕ → ℕ × ℕ → Ordering
pair_cmp a b = ordering_then (nat_cmp a.0 b.0) (nat_cmp a.1 b.1)

then_is : (o p : Ordering) → is_eq (ordering_then o p) ≡ (is_eq o && is_eq p)
then_is Less p = refl
then_is Equal p = refl
then_is Greater p = refl

pair_is : (a b d i : ℕ) → is_at (pair_cmp (a, b)) (d, i) ≡ ((a == d) && (b == i))
pair_is a b d i = then_is (nat_cmp a d) (nat_cmp b i) ∙ ap (λ t. t && is_eq (nat_cmp b i)) (unsigned_tied a d) ∙ ap (λ t. (a == d) && t) (unsigned_tied b i)

or_cond : (t r : Bool) → cond t true r ≡ (r || (t || false))
or_cond true true = refl
or_cond true false = refl
or_cond false true = refl
or_cond false false = refl

-- one pair more is seen
pub seen_more : (old new : BTreeSet (ℕ × ℕ)) (kept more : List CDependency) (e : CDependency) → more ≡ kept ++ e ∷ []
    → ((d i : ℕ) → contains pair_cmp old (d, i) ≡ list_any (is_entry d i) kept) → Updates pair_cmp old new (e.domain, e.index) true
    → (d i : ℕ) → contains pair_cmp new (d, i) ≡ list_any (is_entry d i) more
seen_more old new kept more e is each updates d i =
    updates.0 (d, i) ∙ ap (λ r. cond (is_at (pair_cmp (e.domain, e.index)) (d, i)) true r) (each d i) ∙ ap (λ t. cond t true (list_any (is_entry d i) kept)) (pair_is e.domain e.index d i)
    ∙ or_cond (is_entry d i e) (list_any (is_entry d i) kept) ∙ sym (list_any-append (is_entry d i) kept (e ∷ [])) ∙ ap (list_any (is_entry d i)) (sym is)

-- a pair is new where it wasn't seen
pub is_fresh : (seen : BTreeSet (ℕ × ℕ)) (kept more : List CDependency) (e : CDependency) (fresh : Bool) → more ≡ kept ++ e ∷ []
    → ((d i : ℕ) → contains pair_cmp seen (d, i) ≡ list_any (is_entry d i) kept)
    → fresh ≡ not (contains pair_cmp seen (e.domain, e.index)) → list_any (is_entry e.domain e.index) kept ≡ not fresh
is_fresh seen kept more e fresh _ each is = sym (each e.domain e.index) ∙ sym (twice (contains pair_cmp seen (e.domain, e.index))) ∙ ap not (sym is)
  where
    twice : (b : Bool) → not (not b) ≡ b
    twice true = refl
    twice false = refl
