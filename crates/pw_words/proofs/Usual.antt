-- A line of the table asks for itself, and so does one whose flags stand among the names.
use Rattle.std.proofs.Common.{◌≡◌, ◌∙◌, ◌∷◌, ◌++◌, ◌&&◌, ◌⊎◌, ◌≤◌, inl, inr, ℕ, Bool, true, false, refl, sym, ap, ap₂, subst}
use Rattle.std.proofs.Common.{List, [], codes, decimal}
use Rattle.std.specs.Prelude.{reverse}
use Rattle.std.specs.List.{filter}
use Rattle.clap.specs.Walk.{Text}
use Rattle.pw_words.specs.declared.command.Review.{Review}
use Rattle.pw_words.specs.declared.command.Task.{Task}
use Rattle.pw_words.specs.declared.command.Task.TheVariants.{Show, ShowAsJson, Rewrite, Check, Lint}
use Rattle.pw_words.specs.declared.command.Way.{Way}
use Rattle.pw_words.specs.Words.{AreFiles, AskFor, Asked, IsCount, IsLine, are_bare, are_flags_of, flag_words, in_table_order, is_bare}
use Rattle.pw_words.specs.Words.{is_dashed, review_flags, task_flags, task_name, way_flags}
use Rattle.pw_words.specs.Words.Asked.{audit, cppc, drive, generate, on_blocks}
use Rattle.pw_words.proofs.Asking.{plain_asks}
use Rattle.pw_words.proofs.Auditing.{flags_by as review_by}
use Rattle.pw_words.proofs.Counts.{bare_count}
use Rattle.pw_words.proofs.Driving.{flags_by}
use Rattle.pw_words.proofs.Lines.{bare_filtered, bare_names}
use Rattle.pw_words.proofs.Requesting.{serial_words}
use Rattle.pw_words.proofs.Walked.{bare_parts}

-- names of files are none of the words that begin with a hyphen, and all of the others
none_dashed : (files : List Text) → are_bare files ≡ true → filter is_dashed files ≡ []
none_dashed [] bare = refl
none_dashed (f ∷ fs) bare = let parts = bare_parts f fs bare in rw parts.0 (none_dashed fs parts.1)

all_bare : (files : List Text) → are_bare files ≡ true → filter is_bare files ≡ files
all_bare [] bare = refl
all_bare (f ∷ fs) bare = let parts = bare_parts f fs bare in rw parts.0 (ap (λ xs. f ∷ xs) (all_bare fs parts.1))

-- words, by those behind the first that begin with a hyphen, and by the others
parted_asks : (word : Text) (rest flags names : List Text) (asked : Asked) → is_bare word ≡ true
    → filter is_dashed rest ≡ flags → filter is_bare rest ≡ names → are_flags_of word flags ≡ true
    → IsLine (word ∷ in_table_order word flags ++ names) asked → AskFor (word ∷ rest) asked
parted_asks word rest flags names asked bare dashed others ours line = plain_asks (word ∷ rest) asked
    (ap₂ (λ x y. x && y) bare (ap (are_flags_of word) dashed ∙ ours))
    (subst (λ (w : List Text). IsLine w asked) (sym (ap₂ (λ xs ys. word ∷ in_table_order word xs ++ ys) dashed others)) line)

-- ---- a task on blocks

-- the flag among the files is moved before them
flag_moved : (before after : List Text) → are_bare (before ++ after) ≡ true
    → (filter is_dashed (before ++ codes "--json" ∷ after) ≡ codes "--json" ∷ [])
    × (filter is_bare (before ++ codes "--json" ∷ after) ≡ before ++ after)
flag_moved [] after bare = (ap (λ xs. codes "--json" ∷ xs) (none_dashed after bare), all_bare after bare)
flag_moved (f ∷ fs) after bare =
    let parts = bare_parts f (fs ++ after) bare in
    let rest = flag_moved fs after parts.1 in
    (rw parts.0 rest.0, rw parts.0 (ap (λ xs. f ∷ xs) rest.1))

task_asks : (task : Task) (rest blocks : List Text) → filter is_dashed rest ≡ task_flags task → filter is_bare rest ≡ blocks
    → AreFiles blocks → AskFor (task_name task ∷ rest) (on_blocks task blocks)
task_asks Show rest bs flags files are = parted_asks (codes "show") rest [] bs (on_blocks Show bs) refl flags files refl (refl, are)
task_asks ShowAsJson rest bs flags files are =
    parted_asks (codes "show") rest (codes "--json" ∷ []) bs (on_blocks ShowAsJson bs) refl flags files refl (refl, are)
task_asks Rewrite rest bs flags files are = parted_asks (codes "rewrite") rest [] bs (on_blocks Rewrite bs) refl flags files refl (refl, are)
task_asks Check rest bs flags files are = parted_asks (codes "check") rest [] bs (on_blocks Check bs) refl flags files refl (refl, are)
task_asks Lint rest bs flags files are = parted_asks (codes "lint") rest [] bs (on_blocks Lint bs) refl flags files refl (refl, are)

pub usual_asks : (task : Task) (blocks : List Text) → AreFiles blocks
    → AskFor (task_name task ∷ task_flags task ++ blocks) (on_blocks task blocks)
usual_asks Show blocks are = task_asks Show blocks blocks (none_dashed blocks are.bare) (all_bare blocks are.bare) are
usual_asks ShowAsJson blocks are =
    let parts = flag_moved [] blocks are.bare in task_asks ShowAsJson (codes "--json" ∷ blocks) blocks parts.0 parts.1 are
usual_asks Rewrite blocks are = task_asks Rewrite blocks blocks (none_dashed blocks are.bare) (all_bare blocks are.bare) are
usual_asks Check blocks are = task_asks Check blocks blocks (none_dashed blocks are.bare) (all_bare blocks are.bare) are
usual_asks Lint blocks are = task_asks Lint blocks blocks (none_dashed blocks are.bare) (all_bare blocks are.bare) are

pub flag_asks : (before after : List Text) → AreFiles (before ++ after)
    → AskFor (codes "show" ∷ before ++ codes "--json" ∷ after) (on_blocks ShowAsJson (before ++ after))
flag_asks before after are =
    let parts = flag_moved before after are.bare in
    task_asks ShowAsJson (before ++ codes "--json" ∷ after) (before ++ after) parts.0 parts.1 are

-- ---- `generate`

pub generate_asks : (count : ℕ) → 1 ≤ count → count ≤ 32 → AskFor (codes "generate" ∷ decimal count ∷ []) (generate count)
generate_asks count some few =
    let is : IsCount (decimal count) count = record { digits = inl refl; some = some; few = few } in
    let bare = bare_names (decimal count) [] (bare_count (decimal count) count is) refl in
    parted_asks (codes "generate") (decimal count ∷ []) [] (decimal count ∷ []) (generate count) refl
    (none_dashed (decimal count ∷ []) bare) (all_bare (decimal count ∷ []) bare) refl (decimal count, refl, is)

-- ---- flags in front of the names, or anywhere among them

-- one flag in front, or none
flag_front : (flag : Text) → is_dashed flag ≡ true → (given : Bool) (names : List Text) → are_bare names ≡ true
    → (filter is_dashed (flag_words flag given ++ names) ≡ flag_words flag given) × (filter is_bare (flag_words flag given ++ names) ≡ names)
flag_front flag dash true names bare = (rw dash (ap (λ xs. flag ∷ xs) (none_dashed names bare)), rw dash (all_bare names bare))
flag_front flag dash false names bare = (none_dashed names bare, all_bare names bare)

-- two of them, one, or none
abbrev pair_words : Text → Bool → Text → Bool → List Text
pair_words one first other second = flag_words one first ++ flag_words other second

two_front : (one other : Text) → is_dashed one ≡ true → is_dashed other ≡ true → (first second : Bool) (names : List Text)
    → are_bare names ≡ true → (filter is_dashed (pair_words one first other second ++ names) ≡ pair_words one first other second)
    × (filter is_bare (pair_words one first other second ++ names) ≡ names)
two_front one other dash also true second names bare =
    let rest = flag_front other also second names bare in
    (rw dash (ap (λ xs. one ∷ xs) rest.0), rw dash rest.1)
two_front one other dash also false second names bare = flag_front other also second names bare

-- three of them, or fewer
abbrev three_words : Text → Bool → Text → Bool → Text → Bool → List Text
three_words one first other second last third = flag_words one first ++ flag_words other second ++ flag_words last third

three_front : (one other last : Text) → is_dashed one ≡ true → is_dashed other ≡ true → is_dashed last ≡ true → (first second third : Bool)
    → (names : List Text) → are_bare names ≡ true
    → (filter is_dashed (three_words one first other second last third ++ names) ≡ three_words one first other second last third)
    × (filter is_bare (three_words one first other second last third ++ names) ≡ names)
three_front one other last dash also too true second third names bare =
    let rest = two_front other last also too second third names bare in
    (rw dash (ap (λ xs. one ∷ xs) rest.0), rw dash rest.1)
three_front one other last dash also too false second third names bare = two_front other last also too second third names bare

-- the command has these flags, all of them in the table's order
abbrev Ordered : Text → List Text → List Text → Type 0
Ordered word all flags = (are_flags_of word flags ≡ true) × (in_table_order word flags ≡ all)

-- so they are as the table has them, and turned
abbrev BothWays : Text → List Text → Type 0
BothWays word flags = Ordered word flags flags × Ordered word flags (reverse flags)

-- ---- `drive`

way_ordered : (serial step : Bool) → BothWays (codes "drive") (flags_by serial step)
way_ordered true true = ((refl, refl), (refl, refl))
way_ordered true false = ((refl, refl), (refl, refl))
way_ordered false true = ((refl, refl), (refl, refl))
way_ordered false false = ((refl, refl), (refl, refl))

module _ (way : Way) (script : Text) (blocks : List Text) (are : AreFiles blocks) where
  way_asks : (rest flags : List Text) → Ordered (codes "drive") (way_flags way) flags → filter is_dashed rest ≡ flags
      → filter is_bare rest ≡ script ∷ blocks → is_dashed script ≡ false → AskFor (codes "drive" ∷ rest) (drive way script blocks)
  way_asks rest flags order dashed others bare =
      parted_asks (codes "drive") rest flags (script ∷ blocks) (drive way script blocks) refl dashed others order.0
      (ap (λ xs. codes "drive" ∷ xs ++ script ∷ blocks) order.1, bare, are)

  pub drive_asks : is_dashed script ≡ false → AskFor (codes "drive" ∷ way_flags way ++ script ∷ blocks) (drive way script blocks)
  drive_asks bare =
      let parts = two_front (codes "--serial") (codes "--step") refl refl way.serial way.step (script ∷ blocks)
      (bare_names script blocks bare are.bare) in
      way_asks (way_flags way ++ script ∷ blocks) (way_flags way) (way_ordered way.serial way.step).0 parts.0 parts.1 bare

  pub flags_ask : (rest : List Text) → filter is_bare rest ≡ script ∷ blocks
      → (filter is_dashed rest ≡ way_flags way) ⊎ (filter is_dashed rest ≡ reverse (way_flags way))
      → AskFor (codes "drive" ∷ rest) (drive way script blocks)
  flags_ask rest others dashed =
      let bare = (bare_parts script blocks (ap are_bare (sym others) ∙ bare_filtered rest)).0 in
      let ordered = way_ordered way.serial way.step in
      elim dashed [
        | inl e ↦ way_asks rest (way_flags way) ordered.0 e others bare
        | inr e ↦ way_asks rest (reverse (way_flags way)) ordered.1 e others bare
      ]

-- ---- `audit`

review_ordered : (step trace cppc : Bool) → BothWays (codes "audit") (review_by step trace cppc)
review_ordered true true true = ((refl, refl), (refl, refl))
review_ordered true false true = ((refl, refl), (refl, refl))
review_ordered false true true = ((refl, refl), (refl, refl))
review_ordered false false true = ((refl, refl), (refl, refl))
review_ordered _ _ _ = ((refl, refl), (refl, refl))

module _ (review : Review) (script history : Text) (blocks : List Text) (are : AreFiles blocks) where
  review_asks : (rest flags : List Text) → Ordered (codes "audit") (review_flags review) flags → filter is_dashed rest ≡ flags
      → filter is_bare rest ≡ script ∷ history ∷ blocks → is_dashed script ≡ false → is_dashed history ≡ false
      → AskFor (codes "audit" ∷ rest) (audit review script history blocks)
  review_asks rest flags order dashed others first second =
      parted_asks (codes "audit") rest flags (script ∷ history ∷ blocks) (audit review script history blocks) refl dashed others order.0
      (ap (λ xs. codes "audit" ∷ xs ++ script ∷ history ∷ blocks) order.1, first, second, are)

  pub audit_asks : is_dashed script ≡ false → is_dashed history ≡ false
      → AskFor (codes "audit" ∷ review_flags review ++ script ∷ history ∷ blocks) (audit review script history blocks)
  audit_asks first second =
      let bare = bare_names script (history ∷ blocks) first (bare_names history blocks second are.bare) in
      let ordered = review_ordered review.step review.trace review.cppc in
      let parts = three_front (codes "--step") (codes "--trace") (codes "--cppc") refl refl refl review.step review.trace review.cppc
      (script ∷ history ∷ blocks) bare in
      review_asks (review_flags review ++ script ∷ history ∷ blocks) (review_flags review) ordered.0 parts.0 parts.1 first second

  pub reviews_ask : (rest : List Text) → filter is_bare rest ≡ script ∷ history ∷ blocks
      → (filter is_dashed rest ≡ review_flags review) ⊎ (filter is_dashed rest ≡ reverse (review_flags review))
      → AskFor (codes "audit" ∷ rest) (audit review script history blocks)
  reviews_ask rest others dashed =
      let one = bare_parts script (history ∷ blocks) (ap are_bare (sym others) ∙ bare_filtered rest) in
      let two = bare_parts history blocks one.1 in
      let ordered = review_ordered review.step review.trace review.cppc in
      elim dashed [
        | inl e ↦ review_asks rest (review_flags review) ordered.0 e others one.0 two.0
        | inr e ↦ review_asks rest (reverse (review_flags review)) ordered.1 e others one.0 two.0
      ]

-- ---- `cppc`

serial_ordered : (serial : Bool) → (are_flags_of (codes "cppc") (serial_words serial) ≡ true)
    × (in_table_order (codes "cppc") (serial_words serial) ≡ serial_words serial)
serial_ordered true = (refl, refl)
serial_ordered false = (refl, refl)

module _ (serial : Bool) (script : Text) (blocks : List Text) (are : AreFiles blocks) where
  pub serial_asks : (rest : List Text) → filter is_bare rest ≡ script ∷ blocks → filter is_dashed rest ≡ serial_words serial
      → AskFor (codes "cppc" ∷ rest) (cppc serial script blocks)
  serial_asks rest others dashed =
      let bare = (bare_parts script blocks (ap are_bare (sym others) ∙ bare_filtered rest)).0 in
      parted_asks (codes "cppc") rest (serial_words serial) (script ∷ blocks) (cppc serial script blocks) refl dashed others
      (serial_ordered serial).0 (ap (λ xs. codes "cppc" ∷ xs ++ script ∷ blocks) (serial_ordered serial).1, bare, are)

  pub cppc_asks : is_dashed script ≡ false → AskFor (codes "cppc" ∷ serial_words serial ++ script ∷ blocks) (cppc serial script blocks)
  cppc_asks bare =
      let parts = flag_front (codes "--serial") refl serial (script ∷ blocks) (bare_names script blocks bare are.bare) in
      serial_asks (serial_words serial ++ script ∷ blocks) parts.1 parts.0
