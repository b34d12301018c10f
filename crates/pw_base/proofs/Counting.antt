-- How counts of files in memory change.
use Rattle.std.proofs.Common.{◌≡◌, ◌≢◌, ◌≤◌, ◌<◌, ◌+◌, ◌++◌, ℕ, zero, suc, List, [], ◌∷◌, Option, Some, None, true, false, is_some, IsSome, length, take, drop, get_or, set, refl, sym, ap, subst, ◌∙◌, arith}
use native.Mathlib.Numerals.{unary_clauses}
use Rattle.std.specs.Str.{bytes_eq}
use Rattle.std.proofs.lemmas.Slice.Eq.{bytes_eq-Decides}
use Rattle.pw_base.specs.Outside.{Rose, KeepsFiles}
use Rattle.pw_base.specs.InMemory.{FileHeld, FilesHeld, next_count, content_of, count_of, counted, tells, holds_in, faults_of}

-- counting changes no content
pub content_counted : (name other : List ℕ) (files : List FileHeld) → content_of other (counted name files) ≡ content_of other files
content_counted name other [] = refl
content_counted name other (file ∷ files) = grind (arith, content_counted name other files)

-- counting raises the count of the file of the name
pub own_count : (name : List ℕ) (absent : ℕ) (files : List FileHeld) → is_some (content_of name files) ≡ true
    → count_of name absent (counted name files) ≡ next_count (count_of name absent files)
own_count name absent [] has = absurd cc
own_count name absent (file ∷ files) has = grind (arith, own_count name absent files)

-- a name without a file counts with all such names
pub no_count : (name : List ℕ) (absent : ℕ) (files : List FileHeld) → is_some (content_of name files) ≡ false → count_of name absent (counted name files) ≡ absent
no_count name absent [] has = refl
no_count name absent (file ∷ files) has = grind (arith, no_count name absent files)

-- without a file of the name, a greater count of such names is no less
absent_kept : (name : List ℕ) (before after : ℕ) (files : List FileHeld) → before ≤ after → count_of name before files ≤ count_of name after files
absent_kept name before after [] more = more
absent_kept name before after (file ∷ files) more = grind (arith, absent_kept name before after files more)

-- with one, it doesn't matter
absent_aside : (name : List ℕ) (before after : ℕ) (files : List FileHeld) → is_some (content_of name files) ≡ true → count_of name after files ≡ count_of name before files
absent_aside name before after [] has = absurd cc
absent_aside name before after (file ∷ files) has = grind (arith, absent_aside name before after files)

-- the count of a name without a file
unnamed : (name : List ℕ) (absent : ℕ) (files : List FileHeld) → is_some (content_of name files) ≡ false → count_of name absent files ≡ absent
unnamed name absent [] has = refl
unnamed name absent (file ∷ files) has = grind (arith, unnamed name absent files)

-- no count falls
pub count_kept : (name other : List ℕ) (before after : ℕ) (files : List FileHeld) → before ≤ after → (is_some (content_of name files) ≡ true → count_of name 0 files < 18446744073709551616)
    → count_of other before files ≤ count_of other after (counted name files)
count_kept name other before after [] more fits = more
count_kept name other before after (file ∷ files) more fits = grind (arith, count_kept name other before after files more, absent_kept other before after files more, fits)

-- a name is the name of one file
one_name : (file a b : List ℕ) → bytes_eq file a ≡ true → bytes_eq file b ≡ true → a ≡ b
one_name file a b p q = sym ((bytes_eq-Decides file a).0 p) ∙ (bytes_eq-Decides file b).0 q

-- the count of a file of another name stays
pub other_count : (name other : List ℕ) (before after : ℕ) (files : List FileHeld) → other ≢ name → is_some (content_of other files) ≡ true
    → count_of other after (counted name files) ≡ count_of other before files
other_count name other before after [] differs has = absurd cc
other_count name other before after (file ∷ files) differs has =
    grind (arith, other_count name other before after files differs, absent_aside other before after files, one_name file.name name other, differs)

-- # A failed read

-- what the state after a failed read of a name says of that before
pub record IsFailed (name : List ℕ) (s t : FilesHeld) : Type 0 where
  pub keeps : KeepsFiles tells holds_in faults_of s t
  pub failed : Rose (faults_of s name) (faults_of t name)
  pub others : (other : List ℕ) → other ≢ name → IsSome (holds_in s other) → faults_of t other ≡ faults_of s other

to_some : (o : Option (List ℕ)) → IsSome o → is_some o ≡ true
to_some None is = absurd cc
to_some (Some x) is = refl

-- a file has the name, and counts
pub failed_there : (name : List ℕ) (s t : FilesHeld) → t.files ≡ counted name s.files → t.absent ≡ s.absent → is_some (content_of name s.files) ≡ true
    → count_of name 0 s.files < 18446744073709551616 → IsFailed name s t
failed_there name s t files absent has fits =
    let own = own_count name t.absent s.files has in
    let same : count_of name t.absent s.files ≡ count_of name s.absent s.files = ap (λ n. count_of name n s.files) absent in
    record {
      keeps = record {
        same_told = refl;
        same_content = λ other. ap (content_of other) files ∙ content_counted name other s.files;
        count = λ other. subst (λ (l : List FileHeld). count_of other s.absent s.files ≤ count_of other t.absent l) (sym files)
            (count_kept name other s.absent t.absent s.files (omega (arith, absent)) (λ h. fits));
      };
      failed = subst (λ (l : List FileHeld). Rose (count_of name s.absent s.files) (count_of name t.absent l)) (sym files) (λ below. omega (arith, below, own, same));
      others = λ other differs is. ap (count_of other t.absent) files ∙ other_count name other s.absent t.absent s.files differs (to_some _ is);
    }

-- no file has the name, and all such names count
pub failed_nowhere : (name : List ℕ) (s t : FilesHeld) → t.files ≡ counted name s.files → t.absent ≡ next_count s.absent → is_some (content_of name s.files) ≡ false
    → s.absent < 18446744073709551616 → IsFailed name s t
failed_nowhere name s t files absent none fits =
    let after = no_count name t.absent s.files none in
    let before = unnamed name s.absent s.files none in
    record {
      keeps = record {
        same_told = refl;
        same_content = λ other. ap (content_of other) files ∙ content_counted name other s.files;
        count = λ other. subst (λ (l : List FileHeld). count_of other s.absent s.files ≤ count_of other t.absent l) (sym files)
            (count_kept name other s.absent t.absent s.files (omega (arith, absent, fits)) (λ h. absurd (cc)));
      };
      failed = subst (λ (l : List FileHeld). Rose (count_of name s.absent s.files) (count_of name t.absent l)) (sym files) (λ below. omega (arith, below, after, before, absent));
      others = λ other differs is. ap (count_of other t.absent) files ∙ other_count name other s.absent t.absent s.files differs (to_some _ is);
    }

-- # Going over the files

pub content_on : (name : List ℕ) (files : List FileHeld) (i : ℕ) (d : FileHeld) → i < length files → bytes_eq (get_or files i d).name name ≡ false
    → content_of name (drop i files) ≡ content_of name (drop (i + 1) files)
content_on name [] i d below other = absurd (omega (arith, below))
content_on name (file ∷ files) zero d below other = grind (arith, other)
content_on name (file ∷ files) (suc i) d below other = let h = content_on name files i d (omega (arith, below)) other in simp unary_clauses (simp unary_clauses at h)

pub content_at : (name : List ℕ) (files : List FileHeld) (i : ℕ) (d : FileHeld) → i < length files → bytes_eq (get_or files i d).name name ≡ true
    → content_of name (drop i files) ≡ Some (get_or files i d).bytes
content_at name [] i d below same = absurd (omega (arith, below))
content_at name (file ∷ files) zero d below same = grind (arith, same)
content_at name (file ∷ files) (suc i) d below same = content_at name files i d (omega (arith, below)) same

pub counted_on : (name : List ℕ) (files : List FileHeld) (i : ℕ) (d : FileHeld) → i < length files → bytes_eq (get_or files i d).name name ≡ false
    → take i files ++ counted name (drop i files) ≡ take (i + 1) files ++ counted name (drop (i + 1) files)
counted_on name [] i d below other = absurd (omega (arith, below))
counted_on name (file ∷ files) zero d below other = grind (arith, other)
counted_on name (file ∷ files) (suc i) d below other = let h = counted_on name files i d (omega (arith, below)) other in simp unary_clauses (ap (λ l. file ∷ l) (simp unary_clauses at h))

pub counted_at : (name : List ℕ) (files : List FileHeld) (i : ℕ) (d : FileHeld) → i < length files → bytes_eq (get_or files i d).name name ≡ true
    → take i files ++ counted name (drop i files) ≡ set files i (record (get_or files i d) { faults = next_count (get_or files i d).faults })
counted_at name [] i d below same = absurd (omega (arith, below))
counted_at name (file ∷ files) zero d below same = grind (arith, same)
counted_at name (file ∷ files) (suc i) d below same = ap (λ l. file ∷ l) (counted_at name files i d (omega (arith, below)) same)

-- the count of the file that is met
pub count_at : (name : List ℕ) (absent : ℕ) (files : List FileHeld) (i : ℕ) (d : FileHeld) → i < length files → bytes_eq (get_or files i d).name name ≡ true
    → count_of name absent (drop i files) ≡ (get_or files i d).faults
count_at name absent [] i d below same = absurd (omega (arith, below))
count_at name absent (file ∷ files) zero d below same = grind (arith, same)
count_at name absent (file ∷ files) (suc i) d below same = count_at name absent files i d (omega (arith, below)) same

count_on : (name : List ℕ) (absent : ℕ) (files : List FileHeld) (i : ℕ) (d : FileHeld) → i < length files → bytes_eq (get_or files i d).name name ≡ false
    → count_of name absent (drop i files) ≡ count_of name absent (drop (i + 1) files)
count_on name absent [] i d below other = absurd (omega (arith, below))
count_on name absent (file ∷ files) zero d below other = grind (arith, other)
count_on name absent (file ∷ files) (suc i) d below other =
    let h = count_on name absent files i d (omega (arith, below)) other in simp unary_clauses (simp unary_clauses at h)

-- no file before this place has this name
pub record GoneOver (name : List ℕ) (files : List FileHeld) (i : ℕ) : Type 0 where
  pub content : content_of name files ≡ content_of name (drop i files)
  pub counted : counted name files ≡ take i files ++ counted name (drop i files)
  pub count : count_of name 0 files ≡ count_of name 0 (drop i files)

pub goes_on : (name : List ℕ) (items files : List FileHeld) (i : ℕ) (file : FileHeld) → i < length items → items ≡ files → file ≡ get_or items i file
    → bytes_eq file.name name ≡ false → GoneOver name files i → GoneOver name files (i + 1)
goes_on name items files i file below same is other so_far =
    let here : file ≡ get_or files i file = is ∙ ap (λ l. get_or l i file) same in
    let inside = subst (λ (l : List FileHeld). i < length l) same below in
    let differs = subst (λ f. bytes_eq f.name name ≡ false) here other in
    record {
      content = so_far.content ∙ content_on name files i file inside differs;
      counted = so_far.counted ∙ counted_on name files i file inside differs;
      count = so_far.count ∙ count_on name 0 files i file inside differs;
    }

-- the count of the file of the name is that of this file
pub own : (name : List ℕ) (items files : List FileHeld) (i : ℕ) (file : FileHeld) → i < length items → items ≡ files → file ≡ get_or items i file
    → bytes_eq file.name name ≡ true → GoneOver name files i → (count_of name 0 files ≡ file.faults) × (is_some (content_of name files) ≡ true)
own name items files i file below same is named so_far =
    let here : file ≡ get_or files i file = is ∙ ap (λ l. get_or l i file) same in
    let inside = subst (λ (l : List FileHeld). i < length l) same below in
    let at = subst (λ f. bytes_eq f.name name ≡ true) here named in (
      so_far.count ∙ count_at name 0 files i file inside at ∙ ap (λ f. f.faults) (sym here),
      ap is_some (so_far.content ∙ content_at name files i file inside at),
    )

-- where one file is counted, the files are
pub is_counted : (name : List ℕ) (items files : List FileHeld) (i : ℕ) (file after : FileHeld) → i < length items → items ≡ files → file ≡ get_or items i file
    → bytes_eq file.name name ≡ true → after ≡ record file { faults = next_count file.faults } → GoneOver name files i
    → set items i after ≡ counted name files
is_counted name items files i file after below same is named now so_far =
    let here : file ≡ get_or files i file = is ∙ ap (λ l. get_or l i file) same in
    let at = counted_at name files i file (subst (λ (l : List FileHeld). i < length l) same below) (subst (λ f. bytes_eq f.name name ≡ true) here named) in
    let all = so_far.counted ∙ at ∙ ap (λ f. set files i (record f { faults = next_count f.faults })) (sym here) in
    rw (now, same) (sym all)
