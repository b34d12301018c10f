-- Moving the flags of plain words loses no word, and adds none.
use Rattle.std.proofs.Common.{◌≡◌, ◌∙◌, ◌∷◌, ◌++◌, ◌&&◌, ◌||◌, Bool, cond, true, false, not, refl, sym, ap, ap₂, subst, List, [], codes}
use Rattle.std.proofs.Common.{true≢false, IsPermutation}
use Rattle.std.specs.List.{filter}
use Rattle.std.specs.Str.{bytes_eq}
use Rattle.std.proofs.lemmas.Slice.Eq.{bytes_eq-Decides}
use Rattle.std.proofs.lemmas.List.Sorted.{IsPermutation-append_comm, IsPermutation-append_left, IsPermutation-append_right}
use Rattle.std.proofs.lemmas.List.Sorted.{IsPermutation-filter_both, IsPermutation-refl, IsPermutation-trans}
use Rattle.clap.specs.Walk.{Text}
use Rattle.clap.proofs.WalkLemmas.{both}
use Rattle.clap.proofs.SimpleLemmas.{is_false}
use Rattle.pw_words.specs.Words.{are_flags_of, flags_of, in_table_order, is_among, is_bare, is_dashed, is_plain, moved}

-- ---- the known flags that are among these

abbrev picked : List Text → List Text → List Text
picked flags known = filter (is_among flags) known

none_picked : (known : List Text) → picked [] known ≡ []
none_picked [] = refl
none_picked (k ∷ ks) = none_picked ks

other_way : (a b : Text) → bytes_eq a b ≡ false → bytes_eq b a ≡ false
other_way a b e = go (bytes_eq b a) refl
  where
    go : (r : Bool) → bytes_eq b a ≡ r → r ≡ false
    go true same = absurd (true≢false (sym ((bytes_eq-Decides a b).1 (sym ((bytes_eq-Decides b a).0 same))) ∙ e))
    go false same = refl

neither : (a b : Bool) → (a || b) ≡ false → (a ≡ false) × (b ≡ false)
neither true b e = absurd (true≢false e)
neither false b e = (refl, e)

-- one that isn't known picks nothing
unknown : (flag : Text) (flags known : List Text) → is_among known flag ≡ false → picked (flag ∷ flags) known ≡ picked flags known
unknown flag flags [] e = refl
unknown flag flags (k ∷ ks) e =
    let parts = neither (bytes_eq k flag) (is_among ks flag) e in
    ap₂ (λ b xs. cond (b || is_among flags k) (k ∷ xs) xs) (other_way k flag parts.0) (unknown flag flags ks parts.1)

-- ---- one flag more

module _ (flag : Text) (flags : List Text) (new : is_among flags flag ≡ false) where
  -- where it is the first of the known ones
  here : (ks : List Text) → is_among ks flag ≡ false → flag ∷ picked flags (flag ∷ ks) ≡ picked (flag ∷ flags) (flag ∷ ks)
  here ks once =
      ap (λ b. flag ∷ cond b (flag ∷ picked flags ks) (picked flags ks)) new
      ∙ ap (λ xs. flag ∷ xs) (sym (unknown flag flags ks once))
      ∙ ap (λ b. cond (b || is_among flags flag) (flag ∷ picked (flag ∷ flags) ks) (picked (flag ∷ flags) ks))
      (sym ((bytes_eq-Decides flag flag).1 refl))

  -- where it is a later one
  later : (k : Text) (before after : List Text) (t : Bool) → IsPermutation (flag ∷ before) after
      → IsPermutation (flag ∷ cond t (k ∷ before) before) (cond t (k ∷ after) after)
  later k before after false p = p
  later k before after true p = IsPermutation-trans (flag ∷ k ∷ before) (k ∷ flag ∷ before) (k ∷ after)
      (IsPermutation-append_left before (flag ∷ k ∷ []) (k ∷ flag ∷ []) (IsPermutation-append_comm (flag ∷ []) (k ∷ [])))
      (IsPermutation-append_right (k ∷ []) (flag ∷ before) after p)

abbrev are_distinct : List Text → Bool
are_distinct [] = true
are_distinct (k ∷ ks) = not (is_among ks k) && are_distinct ks

one_more : (flag : Text) (flags known : List Text) → is_among flags flag ≡ false → are_distinct known ≡ true → is_among known flag ≡ true
    → IsPermutation (flag ∷ picked flags known) (picked (flag ∷ flags) known)
one_more flag flags [] new distinct there = absurd (true≢false (sym there))
one_more flag flags (k ∷ ks) new distinct there =
    let parts = both (not (is_among ks k)) (are_distinct ks) distinct in
    go (bytes_eq k flag) refl (is_false (is_among ks k) parts.0) (one_more flag flags ks new parts.1) there
  where
    At : Text → Type 0
    At k = IsPermutation (flag ∷ picked flags (k ∷ ks)) (picked (flag ∷ flags) (k ∷ ks))

    go : (b : Bool) → bytes_eq k flag ≡ b → is_among ks k ≡ false
        → (is_among ks flag ≡ true → IsPermutation (flag ∷ picked flags ks) (picked (flag ∷ flags) ks))
        → (b || is_among ks flag) ≡ true → At k
    go true e once more there =
        let same = (bytes_eq-Decides k flag).0 e in
        subst At (sym same) (subst (IsPermutation (flag ∷ picked flags (flag ∷ ks)))
        (here flag flags new ks (ap (is_among ks) (sym same) ∙ once)) (IsPermutation-refl (flag ∷ picked flags (flag ∷ ks))))
    go false e once more there =
        subst (λ b. IsPermutation (flag ∷ picked flags (k ∷ ks))
        (cond (b || is_among flags k) (k ∷ picked (flag ∷ flags) ks) (picked (flag ∷ flags) ks))) (sym (other_way k flag e))
        (later flag flags new k (picked flags ks) (picked (flag ∷ flags) ks) (is_among flags k) (more there))

known_distinct : (word : Text) → are_distinct (flags_of word) ≡ true
known_distinct word = go (bytes_eq word (codes "show")) (bytes_eq word (codes "drive")) (bytes_eq word (codes "audit")) (bytes_eq word (codes "cppc"))
  where
    go : (a b c d : Bool)
        → are_distinct (cond a (codes "--json" ∷ []) (cond b (codes "--serial" ∷ codes "--step" ∷ [])
        (cond c (codes "--step" ∷ codes "--trace" ∷ codes "--cppc" ∷ []) (cond d (codes "--serial" ∷ []) [])))) ≡ true
    go true b c d = refl
    go false true c d = refl
    go false false true d = refl
    go false false false true = refl
    go false false false false = refl

-- ---- all words

flags_kept : (word : Text) (flags : List Text) → are_flags_of word flags ≡ true → IsPermutation flags (in_table_order word flags)
flags_kept word [] ours = subst (IsPermutation []) (sym (none_picked (flags_of word))) (IsPermutation-refl [])
flags_kept word (f ∷ fs) ours =
    let known = flags_of word in
    let one = both (is_among known f) (not (is_among fs f) && are_flags_of word fs) ours in
    let rest = both (not (is_among fs f)) (are_flags_of word fs) one.1 in
    IsPermutation-trans (f ∷ fs) (f ∷ picked fs known) (picked (f ∷ fs) known)
    (IsPermutation-append_right (f ∷ []) fs (picked fs known) (flags_kept word fs rest.1))
    (one_more f fs known (is_false (is_among fs f) rest.0) (known_distinct word) one.0)

pub all_kept : (words : List Text) → is_plain words ≡ true → IsPermutation words (moved words)
all_kept [] plain = IsPermutation-refl []
all_kept (word ∷ rest) plain =
    let flags = filter is_dashed rest in
    let others = filter is_bare rest in
    let kept = flags_kept word flags (both (is_bare word) (are_flags_of word flags) plain).1 in
    IsPermutation-append_right (word ∷ []) rest (in_table_order word flags ++ others)
    (IsPermutation-trans rest (flags ++ others) (in_table_order word flags ++ others)
    (IsPermutation-filter_both is_dashed is_bare (λ x. refl) rest)
    (IsPermutation-append_left others flags (in_table_order word flags) kept))
