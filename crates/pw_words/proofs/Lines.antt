-- The lines of the table are the words that `clap` takes, where the flags stand behind the first word and no file's name begins
-- with a hyphen.
use Rattle.std.proofs.Common.{◌≡◌, ◌∙◌, ◌∷◌, ◌++◌, ◌≤◌, ◌⊎◌, ◌==◌, inl, inr, arith, ℕ, Bool, cond, true, false, not, is_some, refl, sym, ap}
use Rattle.std.proofs.Common.{ap₂, subst, List, [], length, codes, Some, None, le-ltb, ne_eqb, nat_lt}
use Rattle.std.specs.Prelude.{fold}
use Rattle.std.specs.List.{filter}
use Rattle.std.specs.Str.{bytes_eq}
use Rattle.std.proofs.lemmas.Bool.{cases_lt}
use Rattle.std.proofs.lemmas.Slice.Eq.{bytes_eq-Decides}
use Rattle.clap.specs.Walk.{Held, Names, Step, Text, Walk, finished, idle, nothing_held, rows_after, settled, subcommand_met}
use Rattle.clap.specs.Walk.{walk, walk_from, walked}
use Rattle.clap.specs.Simple.{Shape, built, entered, names_of, subcommand_of}
use Rattle.clap.specs.Kinds.{Kinds, or_else, range_kinds}
use Rattle.clap.specs.Faults.{check_fault, defaults_fault, entered_fault, fault_of, level_fault, settle_fault, step_fault, turn_fault}
use Rattle.clap.specs.Faults.{walk_fault}
use Rattle.clap.specs.declared.error.kind.ErrorKind.TheVariants as kind
use Rattle.clap.proofs.OnLiterals.{clap_on_literals}
use Rattle.clap.proofs.WalkLemmas.{both, walk_stopped}
use Rattle.clap.proofs.SimpleLemmas.{is_false}
use Rattle.clap.proofs.FaultLemmas.{stopped_fault}
use Rattle.pw_words.specs.declared.command.Review.{Review}
use Rattle.pw_words.specs.declared.command.Task.{Task}
use Rattle.pw_words.specs.declared.command.Task.TheVariants.{Show, ShowAsJson, Rewrite, Check, Lint}
use Rattle.pw_words.specs.declared.command.Way.{Way}
use Rattle.pw_words.specs.App.{line_app}
use Rattle.pw_words.specs.Stated.{IsTaken}
use Rattle.pw_words.specs.Words.{AreFiles, AreStated, Asked, IsLine, Say, are_bare, are_flags_of, in_table_order, is_among, is_bare}
use Rattle.pw_words.specs.Words.{is_dashed, is_plain, moved, review_flags, task_flags, task_name, way_flags}
use Rattle.pw_words.specs.Words.Asked.{audit, cppc, drive, generate, on_blocks}
use Rattle.pw_words.proofs.Auditing.{audit_leaf, audit_level, audit_rows, audit_said, audited_kinds}
use Rattle.pw_words.proofs.Bounds.{over}
use Rattle.pw_words.proofs.Counts.{bare_count}
use Rattle.pw_words.proofs.Driving.{drive_leaf, drive_level, drive_rows, drive_said, names_kinds}
use Rattle.pw_words.proofs.Generating.{count_kinds, generate_leaf, generate_level, generate_rows, generate_said}
use Rattle.pw_words.proofs.Kept.{none_of_both, some_kind}
use Rattle.pw_words.proofs.Levels.{files_kinds, or_none, task_leaf, task_level, task_rows, task_said}
use Rattle.pw_words.proofs.Requesting.{cppc_leaf, cppc_level, cppc_rows, cppc_said, serial_words}
use Rattle.pw_words.proofs.Walked.{bare_fault, bare_met, bare_parts}

-- ---- the first word

abbrev top : Shape
top = (built line_app).top

abbrev names : Names
names = names_of (built line_app)

-- the walk at a subcommand, with the words after it
abbrev stopped : Text → List Text → Walk
stopped name rest = record (walk_from nothing_held) { stopped = Some (name, rest) }

-- what the command's own level is refused for, after its words
abbrev top_end : Walk → Kinds
top_end w = or_else (entered_fault (built line_app) w.stopped) (or_else (settle_fault top.rules top.args_override_self w.held)
    (or_else (defaults_fault (settled top.rules w.held).rows top.rules)
    (check_fault top (finished top.rules w.held) (is_some (entered (built line_app) w.stopped)))))

module _ (name : Text) (rest : List Text) (step : walked top.rules names (walk_from nothing_held) name ≡ stopped name []) where
  whole : walk top.rules names nothing_held (name ∷ rest) ≡ stopped name rest
  whole = ap (λ w. fold (walked top.rules names) w rest) step ∙ sym (walk_stopped top.rules names (walk_from nothing_held) name [] rest)

  named_rows : subcommand_of line_app (name ∷ rest) ≡ entered (built line_app) (Some (name, rest))
  named_rows = ap (λ (w : Walk). entered (built line_app) w.stopped) whole

  named_fault : turn_fault top names (walk_from nothing_held) name ≡ [] → is_some (entered (built line_app) (Some (name, rest))) ≡ true
      → fault_of line_app (name ∷ rest) ≡ entered_fault (built line_app) (Some (name, rest))
  unfolding walk_fault clap_on_literals
  named_fault turn there =
      ap₂ (λ k (w : Walk). or_else (or_else k (walk_fault top names (walked top.rules names (walk_from nothing_held) name) rest))
      (top_end w)) turn whole
      ∙ ap (λ w. or_else (walk_fault top names w rest) (top_end (stopped name rest))) step
      ∙ ap (λ k. or_else k (top_end (stopped name rest))) (stopped_fault top names (walk_from nothing_held) (name, []) rest)
      ∙ ap (λ b. or_else (entered_fault (built line_app) (Some (name, rest))) (check_fault top [] b)) there ∙ or_none _

-- what `clap` makes of a task's words, by its name
fault_at : (task : Task) (rest : List Text)
    → fault_of line_app (task_name task ∷ rest) ≡ level_fault (task_leaf task) [] nothing_held rest false []
unfolding clap_on_literals
fault_at Show rest = named_fault (codes "show") rest refl refl refl
fault_at ShowAsJson rest = named_fault (codes "show") rest refl refl refl
fault_at Rewrite rest = named_fault (codes "rewrite") rest refl refl refl
fault_at Check rest = named_fault (codes "check") rest refl refl refl
fault_at Lint rest = named_fault (codes "lint") rest refl refl refl

rows_at : (task : Task) (rest : List Text)
    → subcommand_of line_app (task_name task ∷ rest) ≡ Some (task_name task, rows_after (task_leaf task).rules [] rest)
unfolding clap_on_literals
rows_at Show rest = named_rows (codes "show") rest refl
rows_at ShowAsJson rest = named_rows (codes "show") rest refl
rows_at Rewrite rest = named_rows (codes "rewrite") rest refl
rows_at Check rest = named_rows (codes "check") rest refl
rows_at Lint rest = named_rows (codes "lint") rest refl

-- and of those of `drive`
drive_fault_at : (rest : List Text) → fault_of line_app (codes "drive" ∷ rest) ≡ level_fault drive_leaf [] nothing_held rest false []
unfolding clap_on_literals
drive_fault_at rest = named_fault (codes "drive") rest refl refl refl

drive_rows_at : (rest : List Text)
    → subcommand_of line_app (codes "drive" ∷ rest) ≡ Some (codes "drive", rows_after drive_leaf.rules [] rest)
unfolding clap_on_literals
drive_rows_at rest = named_rows (codes "drive") rest refl

-- and of those of `audit`
audit_fault_at : (rest : List Text) → fault_of line_app (codes "audit" ∷ rest) ≡ level_fault audit_leaf [] nothing_held rest false []
unfolding clap_on_literals
audit_fault_at rest = named_fault (codes "audit") rest refl refl refl

audit_rows_at : (rest : List Text)
    → subcommand_of line_app (codes "audit" ∷ rest) ≡ Some (codes "audit", rows_after audit_leaf.rules [] rest)
unfolding clap_on_literals
audit_rows_at rest = named_rows (codes "audit") rest refl

-- and of those of `cppc`
cppc_fault_at : (rest : List Text) → fault_of line_app (codes "cppc" ∷ rest) ≡ level_fault cppc_leaf [] nothing_held rest false []
unfolding clap_on_literals
cppc_fault_at rest = named_fault (codes "cppc") rest refl refl refl

cppc_rows_at : (rest : List Text)
    → subcommand_of line_app (codes "cppc" ∷ rest) ≡ Some (codes "cppc", rows_after cppc_leaf.rules [] rest)
unfolding clap_on_literals
cppc_rows_at rest = named_rows (codes "cppc") rest refl

-- and of those of `generate`
generate_fault_at : (rest : List Text)
    → fault_of line_app (codes "generate" ∷ rest) ≡ level_fault generate_leaf [] nothing_held rest false []
unfolding clap_on_literals
generate_fault_at rest = named_fault (codes "generate") rest refl refl refl

pub generate_rows_at : (rest : List Text)
    → subcommand_of line_app (codes "generate" ∷ rest) ≡ Some (codes "generate", rows_after generate_leaf.rules [] rest)
unfolding clap_on_literals
generate_rows_at rest = named_rows (codes "generate") rest refl

-- a first word that names no subcommand
abbrev IsOther : Text → Type 0
IsOther word = (bytes_eq (codes "show") word ≡ false) × (bytes_eq (codes "rewrite") word ≡ false)
    × (bytes_eq (codes "check") word ≡ false) × (bytes_eq (codes "lint") word ≡ false) × (bytes_eq (codes "drive") word ≡ false)
    × (bytes_eq (codes "audit") word ≡ false) × (bytes_eq (codes "cppc") word ≡ false) × (bytes_eq (codes "generate") word ≡ false)

none_met : (word : Text) → IsOther word → subcommand_met names idle word ≡ None
none_met word other = rw (other.0, other.1, other.2, other.3, other.4, other.5, other.6, other.7) refl

other_refused : (word : Text) (rest : List Text) → is_dashed word ≡ false → IsOther word → fault_of line_app (word ∷ rest) ≡ [] → ⊥
unfolding walk_fault
other_refused word rest bare other free =
    let none = none_met word other in
    let turn : turn_fault top names (walk_from nothing_held) word ≡ kind.UnknownArgument ∷ kind.InvalidSubcommand ∷ [] =
    ap₂ (λ k (m : Held × Step). or_else k (step_fault top 1 m.0 m.1)) (bare_fault top names idle word nothing_held bare none)
    (bare_met top.rules names idle 1 word nothing_held bare none refl) in
    let walks = none_of_both (walk_fault top names (walk_from nothing_held) (word ∷ rest))
    (top_end (walk top.rules names nothing_held (word ∷ rest))) free in
    let first = none_of_both (turn_fault top names (walk_from nothing_held) word)
    (walk_fault top names (walked top.rules names (walk_from nothing_held) word) rest) walks.0 in
    some_kind (kind.InvalidSubcommand ∷ []) kind.UnknownArgument (sym turn ∙ first.0)

-- ---- the number of files

within : (n : ℕ) → 1 ≤ n → n ≤ 64 → range_kinds 1 64 n ≡ []
within n some few =
    let there : (n == 0) ≡ false = ne_eqb n 0 (λ e. omega arith) in
    let enough : nat_lt n 1 ≡ false = le-ltb n 1 some in
    let past : nat_lt 64 n ≡ false = le-ltb 64 n few in
    rw (there, enough, past) refl

files_taken : (files : List Text) → AreFiles files → files_kinds files ≡ []
files_taken [] h = let bad = h.some in absurd (omega arith)
files_taken (f ∷ fs) h = within (length (f ∷ fs)) (omega arith) h.few

-- what is said of files that are taken
are_files : (files : List Text) → are_bare files ≡ true → files_kinds files ≡ [] → AreFiles files
are_files [] bare e = absurd (some_kind [] kind.MissingRequiredArgument e)
are_files (f ∷ fs) bare e = elim (cases_lt 64 (length (f ∷ fs))) [
  | inl many ↦ absurd (over (length (f ∷ fs)) many e)
  | inr few ↦ record { bare = bare; some = omega arith; few = few }
]

-- ---- a line is taken, and asks for what `clap` states of it

task_fault : (task : Task) (files : List Text) → are_bare files ≡ true
    → fault_of line_app (task_name task ∷ task_flags task ++ files) ≡ files_kinds files
task_fault task files bare = fault_at task (task_flags task ++ files) ∙ task_level task files bare

said_of : (task : Task) (files : List Text) → AreFiles files → Say (task_rows task files) (on_blocks task files)
said_of task [] h = let bad = h.some in absurd (omega arith)
said_of task (f ∷ fs) h = task_said task f fs h.bare

drive_fault : (way : Way) (names : List Text) → are_bare names ≡ true
    → fault_of line_app (codes "drive" ∷ way_flags way ++ names) ≡ names_kinds names
drive_fault way names bare = drive_fault_at (way_flags way ++ names) ∙ drive_level way names bare

audit_fault : (review : Review) (names : List Text) → are_bare names ≡ true
    → fault_of line_app (codes "audit" ∷ review_flags review ++ names) ≡ audited_kinds names
audit_fault review names bare = audit_fault_at (review_flags review ++ names) ∙ audit_level review names bare

cppc_fault : (serial : Bool) (names : List Text) → are_bare names ≡ true
    → fault_of line_app (codes "cppc" ∷ serial_words serial ++ names) ≡ names_kinds names
cppc_fault serial names bare = cppc_fault_at (serial_words serial ++ names) ∙ cppc_level serial names bare

generate_fault : (words : List Text) → are_bare words ≡ true → fault_of line_app (codes "generate" ∷ words) ≡ count_kinds words
generate_fault words bare = generate_fault_at words ∙ generate_level words bare

-- names none of which begins with a hyphen
pub bare_names : (script : Text) (files : List Text) → is_dashed script ≡ false → are_bare files ≡ true → are_bare (script ∷ files) ≡ true
bare_names script files dash bare = ap (λ b. cond b false (are_bare files)) dash ∙ bare

drive_said_of : (way : Way) (script : Text) (files : List Text) → is_dashed script ≡ false → AreFiles files
    → Say (drive_rows way (script ∷ files)) (drive way script files)
drive_said_of way script [] dash h = let bad = h.some in absurd (omega arith)
drive_said_of way script (f ∷ fs) dash h = drive_said way script f fs (bare_names script (f ∷ fs) dash h.bare)

audit_said_of : (review : Review) (script history : Text) (files : List Text) → is_dashed script ≡ false → is_dashed history ≡ false
    → AreFiles files → Say (audit_rows review (script ∷ history ∷ files)) (audit review script history files)
audit_said_of review script history [] first second h = let bad = h.some in absurd (omega arith)
audit_said_of review script history (f ∷ fs) first second h =
    audit_said review script history f fs (bare_names script (history ∷ f ∷ fs) first (bare_names history (f ∷ fs) second h.bare))

cppc_said_of : (serial : Bool) (script : Text) (files : List Text) → is_dashed script ≡ false → AreFiles files
    → Say (cppc_rows serial (script ∷ files)) (cppc serial script files)
cppc_said_of serial script [] dash h = let bad = h.some in absurd (omega arith)
cppc_said_of serial script (f ∷ fs) dash h = cppc_said serial script f fs (bare_names script (f ∷ fs) dash h.bare)

pub line_stated : (words : List Text) (asked : Asked) → IsLine words asked → AreStated words asked
line_stated words (on_blocks task files) h = record {
  rows = task_rows task files;
  taken = ap (fault_of line_app) h.0 ∙ task_fault task files h.1.bare ∙ files_taken files h.1;
  command = ap (subcommand_of line_app) h.0 ∙ rows_at task (task_flags task ++ files);
  said = said_of task files h.1;
}
line_stated words (drive way script files) h = record {
  rows = drive_rows way (script ∷ files);
  taken = ap (fault_of line_app) h.0 ∙ drive_fault way (script ∷ files) (bare_names script files h.1 h.2.bare) ∙ files_taken files h.2;
  command = ap (subcommand_of line_app) h.0 ∙ drive_rows_at (way_flags way ++ script ∷ files);
  said = drive_said_of way script files h.1 h.2;
}
line_stated words (audit review script history files) h =
    let bare = bare_names script (history ∷ files) h.1 (bare_names history files h.2 h.3.bare) in
    record {
      rows = audit_rows review (script ∷ history ∷ files);
      taken = ap (fault_of line_app) h.0 ∙ audit_fault review (script ∷ history ∷ files) bare ∙ files_taken files h.3;
      command = ap (subcommand_of line_app) h.0 ∙ audit_rows_at (review_flags review ++ script ∷ history ∷ files);
      said = audit_said_of review script history files h.1 h.2 h.3;
    }
line_stated words (cppc serial script files) h = record {
  rows = cppc_rows serial (script ∷ files);
  taken = ap (fault_of line_app) h.0 ∙ cppc_fault serial (script ∷ files) (bare_names script files h.1 h.2.bare) ∙ files_taken files h.2;
  command = ap (subcommand_of line_app) h.0 ∙ cppc_rows_at (serial_words serial ++ script ∷ files);
  said = cppc_said_of serial script files h.1 h.2;
}
line_stated words (generate count) h =
    let bare = bare_count h.0 count h.2 in
    record {
      rows = generate_rows h.0;
      taken = ap (fault_of line_app) h.1 ∙ generate_fault (h.0 ∷ []) (bare_names h.0 [] bare refl);
      command = ap (subcommand_of line_app) h.1 ∙ generate_rows_at (h.0 ∷ []);
      said = (h.0, generate_said h.0 bare, h.2);
    }

-- ---- plain words that are taken are a line, or `generate` and a word

-- the word and the flags, in order, are those of a task, of `drive` in some way, of an `audit`, of `cppc`, or of `generate`
abbrev IsTask : Text → List Text → Type 0
IsTask word flags = (task : Task) × (word ≡ task_name task) × (in_table_order word flags ≡ task_flags task)

abbrev IsDrive : Text → List Text → Type 0
IsDrive word flags = (way : Way) × (word ≡ codes "drive") × (in_table_order word flags ≡ way_flags way)

abbrev IsAudit : Text → List Text → Type 0
IsAudit word flags = (review : Review) × (word ≡ codes "audit") × (in_table_order word flags ≡ review_flags review)

abbrev IsCppc : Text → List Text → Type 0
IsCppc word flags = (serial : Bool) × (word ≡ codes "cppc") × (in_table_order word flags ≡ serial_words serial)

abbrev IsGenerate : Text → List Text → Type 0
IsGenerate word flags = (word ≡ codes "generate") × (in_table_order word flags ≡ [])

abbrev Named : List Text → Text → Type 0
Named flags word = IsTask word flags
    ⊎ (IsDrive word flags ⊎ (IsAudit word flags ⊎ (IsCppc word flags ⊎ (IsGenerate word flags ⊎ IsOther word))))

show_flags : (flags : List Text) → IsTask (codes "show") flags
show_flags flags = go (is_among flags (codes "--json"))
  where
    go : (b : Bool) → (task : Task) × (codes "show" ≡ task_name task) × (cond b (codes "--json" ∷ []) [] ≡ task_flags task)
    go true = (ShowAsJson, refl, refl)
    go false = (Show, refl, refl)

-- those that are there of two flags
two_flags : (x y : Text) (a b : Bool) → cond a (x ∷ cond b (y ∷ []) []) (cond b (y ∷ []) []) ≡ cond a (x ∷ []) [] ++ cond b (y ∷ []) []
two_flags x y true b = refl
two_flags x y false b = refl

-- and of three
three_flags : (x y z : Text) (a b c : Bool)
    → cond a (x ∷ cond b (y ∷ cond c (z ∷ []) []) (cond c (z ∷ []) [])) (cond b (y ∷ cond c (z ∷ []) []) (cond c (z ∷ []) []))
    ≡ cond a (x ∷ []) [] ++ cond b (y ∷ []) [] ++ cond c (z ∷ []) []
three_flags x y z true true c = refl
three_flags x y z true false c = refl
three_flags x y z false true c = refl
three_flags x y z false false c = refl

drive_flags : (flags : List Text) → IsDrive (codes "drive") flags
drive_flags flags =
    let serial = is_among flags (codes "--serial") in
    let step = is_among flags (codes "--step") in
    (record { serial = serial; step = step }, refl, two_flags (codes "--serial") (codes "--step") serial step)

audit_flags : (flags : List Text) → IsAudit (codes "audit") flags
audit_flags flags =
    let step = is_among flags (codes "--step") in
    let trace = is_among flags (codes "--trace") in
    let cppc = is_among flags (codes "--cppc") in
    (record { step = step; trace = trace; cppc = cppc }, refl, three_flags (codes "--step") (codes "--trace") (codes "--cppc") step trace cppc)

cppc_flags : (flags : List Text) → IsCppc (codes "cppc") flags
cppc_flags flags = (is_among flags (codes "--serial"), refl, refl)

same_text : (a b : Text) → bytes_eq a b ≡ true → a ≡ b
same_text a b e = (bytes_eq-Decides a b).0 e

-- what a word names
named : (flags : List Text) (word : Text) → Named flags word
named flags word =
    go (bytes_eq (codes "show") word) (bytes_eq (codes "rewrite") word) (bytes_eq (codes "check") word) (bytes_eq (codes "lint") word)
    (bytes_eq (codes "drive") word) (bytes_eq (codes "audit") word) (bytes_eq (codes "cppc") word) (bytes_eq (codes "generate") word)
    refl refl refl refl refl refl refl refl
  where
    at : (name : Text) → bytes_eq name word ≡ true → Named flags name → Named flags word
    at name e = subst (Named flags) (same_text name word e)

    go : (a b c d e f g h : Bool) → bytes_eq (codes "show") word ≡ a → bytes_eq (codes "rewrite") word ≡ b → bytes_eq (codes "check") word ≡ c
        → bytes_eq (codes "lint") word ≡ d → bytes_eq (codes "drive") word ≡ e → bytes_eq (codes "audit") word ≡ f
        → bytes_eq (codes "cppc") word ≡ g → bytes_eq (codes "generate") word ≡ h → Named flags word
    go true b c d e f g h p q r s t u v w = at (codes "show") p (inl (show_flags flags))
    go false true c d e f g h p q r s t u v w = at (codes "rewrite") q (inl (Rewrite, refl, refl))
    go false false true d e f g h p q r s t u v w = at (codes "check") r (inl (Check, refl, refl))
    go false false false true e f g h p q r s t u v w = at (codes "lint") s (inl (Lint, refl, refl))
    go false false false false true f g h p q r s t u v w = at (codes "drive") t (inr (inl (drive_flags flags)))
    go false false false false false true g h p q r s t u v w = at (codes "audit") u (inr (inr (inl (audit_flags flags))))
    go false false false false false false true h p q r s t u v w = at (codes "cppc") v (inr (inr (inr (inl (cppc_flags flags)))))
    go false false false false false false false true p q r s t u v w = at (codes "generate") w (inr (inr (inr (inr (inl (refl, refl))))))
    go false false false false false false false false p q r s t u v w = inr (inr (inr (inr (inr (p, q, r, s, t, u, v, w)))))

pub bare_filtered : (words : List Text) → are_bare (filter is_bare words) ≡ true
bare_filtered [] = refl
bare_filtered (w ∷ ws) = go (is_dashed w) refl (bare_filtered ws)
  where
    go : (b : Bool) → is_dashed w ≡ b → are_bare (filter is_bare ws) ≡ true
        → are_bare (cond (not b) (w ∷ filter is_bare ws) (filter is_bare ws)) ≡ true
    go true e later = later
    go false e later = ap (λ x. cond x false (are_bare (filter is_bare ws))) e ∙ later

-- the words are `generate` and a word
abbrev pub AreToCount : List Text → Type 0
AreToCount words = (word : Text) × (words ≡ codes "generate" ∷ word ∷ []) × (is_dashed word ≡ false)

abbrev pub LineOrCount : List Text → Type 0
LineOrCount words = ((asked : Asked) × IsLine words asked) ⊎ AreToCount words

-- names that are taken are a script and files
drive_line : (words : List Text) (way : Way) (names : List Text) → words ≡ codes "drive" ∷ way_flags way ++ names → are_bare names ≡ true
    → names_kinds names ≡ [] → LineOrCount words
drive_line words way [] are bare kinds = absurd (some_kind [] kind.MissingRequiredArgument kinds)
drive_line words way (script ∷ files) are bare kinds =
    let parts = bare_parts script files bare in
    inl (drive way script files, (are, parts.0, are_files files parts.1 kinds))

-- or a script, a history and files
audit_line : (words : List Text) (review : Review) (names : List Text) → words ≡ codes "audit" ∷ review_flags review ++ names
    → are_bare names ≡ true → audited_kinds names ≡ [] → LineOrCount words
audit_line words review [] are bare kinds = absurd (some_kind [] kind.MissingRequiredArgument kinds)
audit_line words review (script ∷ []) are bare kinds = absurd (some_kind [] kind.MissingRequiredArgument kinds)
audit_line words review (script ∷ history ∷ files) are bare kinds =
    let one = bare_parts script (history ∷ files) bare in
    let two = bare_parts history files one.1 in
    inl (audit review script history files, (are, one.0, two.0, are_files files two.1 kinds))

-- or a script and files again
cppc_line : (words : List Text) (serial : Bool) (names : List Text) → words ≡ codes "cppc" ∷ serial_words serial ++ names
    → are_bare names ≡ true → names_kinds names ≡ [] → LineOrCount words
cppc_line words serial [] are bare kinds = absurd (some_kind [] kind.MissingRequiredArgument kinds)
cppc_line words serial (script ∷ files) are bare kinds =
    let parts = bare_parts script files bare in
    inl (cppc serial script files, (are, parts.0, are_files files parts.1 kinds))

-- words that are taken are one
generate_line : (words names : List Text) → words ≡ codes "generate" ∷ names → are_bare names ≡ true → count_kinds names ≡ []
    → LineOrCount words
generate_line words [] are bare kinds = absurd (some_kind [] kind.MissingRequiredArgument kinds)
generate_line words (word ∷ []) are bare kinds = inr (word, are, (bare_parts word [] bare).0)
generate_line words (word ∷ w ∷ ws) are bare kinds = absurd (some_kind [] kind.UnknownArgument kinds)

parted_line : (word : Text) (flags names : List Text) → is_dashed word ≡ false → are_bare names ≡ true
    → IsTaken (word ∷ in_table_order word flags ++ names) → LineOrCount (word ∷ in_table_order word flags ++ names)
parted_line word flags names dash bare taken = elim (named flags word) [
  | inl t ↦
      let are : word ∷ in_table_order word flags ++ names ≡ task_name t.0 ∷ task_flags t.0 ++ names = ap₂ (λ w xs. w ∷ xs ++ names) t.1 t.2 in
      let kinds = sym (task_fault t.0 names bare) ∙ ap (fault_of line_app) (sym are) ∙ taken in
      inl (on_blocks t.0 names, (are, are_files names bare kinds))
  | inr (inl t) ↦
      let are : word ∷ in_table_order word flags ++ names ≡ codes "drive" ∷ way_flags t.0 ++ names = ap₂ (λ w xs. w ∷ xs ++ names) t.1 t.2 in
      drive_line (word ∷ in_table_order word flags ++ names) t.0 names are bare
      (sym (drive_fault t.0 names bare) ∙ ap (fault_of line_app) (sym are) ∙ taken)
  | inr (inr (inl t)) ↦
      let are : word ∷ in_table_order word flags ++ names ≡ codes "audit" ∷ review_flags t.0 ++ names = ap₂ (λ w xs. w ∷ xs ++ names) t.1 t.2 in
      audit_line (word ∷ in_table_order word flags ++ names) t.0 names are bare
      (sym (audit_fault t.0 names bare) ∙ ap (fault_of line_app) (sym are) ∙ taken)
  | inr (inr (inr (inl t))) ↦
      let are : word ∷ in_table_order word flags ++ names ≡ codes "cppc" ∷ serial_words t.0 ++ names = ap₂ (λ w xs. w ∷ xs ++ names) t.1 t.2 in
      cppc_line (word ∷ in_table_order word flags ++ names) t.0 names are bare
      (sym (cppc_fault t.0 names bare) ∙ ap (fault_of line_app) (sym are) ∙ taken)
  | inr (inr (inr (inr (inl t)))) ↦
      let are : word ∷ in_table_order word flags ++ names ≡ codes "generate" ∷ names = ap₂ (λ w xs. w ∷ xs ++ names) t.0 t.1 in
      generate_line (word ∷ in_table_order word flags ++ names) names are bare
      (sym (generate_fault names bare) ∙ ap (fault_of line_app) (sym are) ∙ taken)
  | inr (inr (inr (inr (inr other)))) ↦ absurd (other_refused word (in_table_order word flags ++ names) dash other taken)
]

empty_refused : IsTaken [] → ⊥
unfolding clap_on_literals
empty_refused e = some_kind [] kind.MissingSubcommand e

pub plain_line : (words : List Text) → is_plain words ≡ true → IsTaken (moved words) → LineOrCount (moved words)
plain_line [] plain taken = absurd (empty_refused taken)
plain_line (word ∷ rest) plain taken =
    let parts = both (is_bare word) (are_flags_of word (filter is_dashed rest)) plain in
    parted_line word (filter is_dashed rest) (filter is_bare rest) (is_false (is_dashed word) parts.0) (bare_filtered rest) taken
