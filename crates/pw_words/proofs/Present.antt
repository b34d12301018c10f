-- What the matches have, where a parse doesn't fail, on any words.
use Rattle.std.proofs.Common.{◌≡◌, ◌∙◌, ◌∷◌, ◌⊎◌, ◌||◌, inl, inr, Bool, cond, true, false, not, is_some, refl, sym, ap, subst, List, []}
use Rattle.std.proofs.Common.{codes, Some, true≢false}
use Rattle.std.specs.Str.{bytes_eq}
use Rattle.clap.specs.Walk.{Row, Text, all_of, first_of, nothing_held, rows_after}
use Rattle.clap.specs.Simple.{Shape}
use Rattle.clap.specs.Takes.{is_given}
use Rattle.clap.specs.Faults.{check_fault, level_fault}
use Rattle.clap.specs.declared.error.kind.ErrorKind.TheVariants as kind
use Rattle.pw_words.specs.declared.command.Review.{Review}
use Rattle.pw_words.specs.declared.command.Task.{Task}
use Rattle.pw_words.specs.declared.command.Task.TheVariants.{Show, ShowAsJson, Rewrite, Check, Lint}
use Rattle.pw_words.specs.declared.command.Way.{Way}
use Rattle.pw_words.specs.Stated.{Enters, IsTaken, is_used}
use Rattle.pw_words.specs.Words.{AreMiscounted, AreStated, Asked, IsCount, Say, SayTask, command_name, task_name}
use Rattle.pw_words.specs.Words.Asked.{audit, cppc, drive, generate, on_blocks}
use Rattle.pw_words.specs.inner.Reading.{CanSay, IsOnBlocks, IsUncounted}
use Rattle.pw_words.proofs.Auditing.{audit_leaf}
use Rattle.pw_words.proofs.Bounds.{HasFew, audit_bound, audited_bound, count_bound, cppc_bound, drive_bound, history_bound}
use Rattle.pw_words.proofs.Bounds.{performed_bound, script_bound, stated_first, stated_values, task_bound}
use Rattle.pw_words.proofs.Counts.{counted}
use Rattle.pw_words.proofs.Driving.{drive_leaf}
use Rattle.pw_words.proofs.Generating.{generate_leaf}
use Rattle.pw_words.proofs.Getters.{inside}
use Rattle.pw_words.proofs.Kept.{level_parts, some_kind}
use Rattle.pw_words.proofs.Levels.{leaf_name, task_leaf}
use Rattle.pw_words.proofs.Requesting.{cppc_leaf}
use Rattle.pw_words.proofs.Subcommands.{IsLeaf, Met, met}

-- one argument is required, two, or three
one_required : (b : Bool) → cond (not b || false) (kind.MissingRequiredArgument ∷ []) [] ≡ [] → b ≡ true
one_required true e = refl
one_required false e = absurd (some_kind [] kind.MissingRequiredArgument e)

two_required : (a b : Bool) → cond (not a || (not b || false)) (kind.MissingRequiredArgument ∷ []) [] ≡ [] → (a ≡ true) × (b ≡ true)
two_required true b e = (refl, one_required b e)
two_required false b e = absurd (some_kind [] kind.MissingRequiredArgument e)

three_required : (a b c : Bool) → cond (not a || (not b || (not c || false))) (kind.MissingRequiredArgument ∷ []) [] ≡ []
    → (a ≡ true) × (b ≡ true) × (c ≡ true)
three_required true b c e = let others = two_required b c e in (refl, others.0, others.1)
three_required false b c e = absurd (some_kind [] kind.MissingRequiredArgument e)

files_required : (task : Task) (rows : List Row) → check_fault (task_leaf task) rows false ≡ [] → is_given (codes "blocks") rows ≡ true
files_required Show rows e = one_required (is_given (codes "blocks") rows) e
files_required ShowAsJson rows e = one_required (is_given (codes "blocks") rows) e
files_required Rewrite rows e = one_required (is_given (codes "blocks") rows) e
files_required Check rows e = one_required (is_given (codes "blocks") rows) e
files_required Lint rows e = one_required (is_given (codes "blocks") rows) e

-- 1 to 64 files
abbrev pub Files : List Row → Type 0
Files rows = (files : List Text) × (all_of (codes "blocks") rows ≡ Some files) × HasFew files

task_files : (task : Task) (rest : List Text) → level_fault (task_leaf task) [] nothing_held rest false [] ≡ []
    → Files (rows_after (task_leaf task).rules [] rest)
task_files task rest free =
    let rows = rows_after (task_leaf task).rules [] rest in
    stated_values (codes "blocks") HasFew rows (files_required task rows (level_parts (task_leaf task) rest free).2)
    (task_bound task rest free)

-- the name of a script
abbrev pub Script : List Row → Type 0
Script rows = (script : Text) × (first_of (codes "script") rows ≡ Some script)

drive_names : (rest : List Text) → level_fault drive_leaf [] nothing_held rest false [] ≡ []
    → Script (rows_after drive_leaf.rules [] rest) × Files (rows_after drive_leaf.rules [] rest)
drive_names rest free =
    let rows = rows_after drive_leaf.rules [] rest in
    let there = two_required (is_given (codes "script") rows) (is_given (codes "blocks") rows) (level_parts drive_leaf rest free).2 in (
      stated_first (codes "script") rows there.0 (script_bound rest free),
      stated_values (codes "blocks") HasFew rows there.1 (drive_bound rest free),
    )

-- the name of a history
abbrev pub History : List Row → Type 0
History rows = (history : Text) × (first_of (codes "history") rows ≡ Some history)

audit_names : (rest : List Text) → level_fault audit_leaf [] nothing_held rest false [] ≡ []
    → Script (rows_after audit_leaf.rules [] rest) × History (rows_after audit_leaf.rules [] rest)
    × Files (rows_after audit_leaf.rules [] rest)
audit_names rest free =
    let rows = rows_after audit_leaf.rules [] rest in
    let there = three_required (is_given (codes "script") rows) (is_given (codes "history") rows) (is_given (codes "blocks") rows)
    (level_parts audit_leaf rest free).2 in (
      stated_first (codes "script") rows there.0 (audited_bound rest free),
      stated_first (codes "history") rows there.1 (history_bound rest free),
      stated_values (codes "blocks") HasFew rows there.2 (audit_bound rest free),
    )

cppc_names : (rest : List Text) → level_fault cppc_leaf [] nothing_held rest false [] ≡ []
    → Script (rows_after cppc_leaf.rules [] rest) × Files (rows_after cppc_leaf.rules [] rest)
cppc_names rest free =
    let rows = rows_after cppc_leaf.rules [] rest in
    let there = two_required (is_given (codes "script") rows) (is_given (codes "blocks") rows) (level_parts cppc_leaf rest free).2 in (
      stated_first (codes "script") rows there.0 (performed_bound rest free),
      stated_values (codes "blocks") HasFew rows there.1 (cppc_bound rest free),
    )

-- the number of clusters, as it is written
abbrev pub Count : List Row → Type 0
Count rows = (word : Text) × (first_of (codes "count") rows ≡ Some word)

count_word : (rest : List Text) → level_fault generate_leaf [] nothing_held rest false [] ≡ []
    → Count (rows_after generate_leaf.rules [] rest)
count_word rest free =
    let rows = rows_after generate_leaf.rules [] rest in
    stated_first (codes "count") rows (one_required (is_given (codes "count") rows) (level_parts generate_leaf rest free).2)
    (count_bound rest free)

-- ---- the matches of a parse

abbrev pub rows_met : {words : List Text} → Met words → List Row
rows_met m = rows_after m.s.rules [] m.rest

-- those of a task, of `drive`, of `audit`, of `cppc`, and of `generate`
abbrev IsTask : List Row → Text → Type 0
IsTask rows name = (task : Task) × (name ≡ task_name task) × Files rows

abbrev IsDrive : List Row → Text → Type 0
IsDrive rows name = (name ≡ codes "drive") × Script rows × Files rows

abbrev IsAudit : List Row → Text → Type 0
IsAudit rows name = (name ≡ codes "audit") × Script rows × History rows × Files rows

abbrev IsCppc : List Row → Text → Type 0
IsCppc rows name = (name ≡ codes "cppc") × Script rows × Files rows

abbrev IsGenerate : List Row → Text → Type 0
IsGenerate rows name = (name ≡ codes "generate") × Count rows

abbrev Has : Text → List Row → Type 0
Has name rows = IsTask rows name ⊎ (IsDrive rows name ⊎ (IsAudit rows name ⊎ (IsCppc rows name ⊎ IsGenerate rows name)))

has_met : {words : List Text} (m : Met words) → Has m.s.name (rows_met m)
has_met m = go m.s m.leaf m.free
  where
    AtLeaf : Shape → Type 0
    AtLeaf s = level_fault s [] nothing_held m.rest false [] ≡ [] → Has s.name (rows_after s.rules [] m.rest)

    go : (s : Shape) → IsLeaf s → AtLeaf s
    go s (inl l) = subst AtLeaf (sym l.1) (λ free. inl (l.0, leaf_name l.0, task_files l.0 m.rest free))
    go s (inr (inl e)) = subst AtLeaf (sym e) (λ free. (let names = drive_names m.rest free in inr (inl (refl, names.0, names.1))))
    go s (inr (inr (inl e))) = subst AtLeaf (sym e) (λ free. (let names = audit_names m.rest free in
        inr (inr (inl (refl, names.0, names.1, names.2)))))
    go s (inr (inr (inr (inl e)))) = subst AtLeaf (sym e) (λ free. (let names = cppc_names m.rest free in
        inr (inr (inr (inl (refl, names.0, names.1))))))
    go s (inr (inr (inr (inr e)))) = subst AtLeaf (sym e) (λ free. inr (inr (inr (inr (refl, count_word m.rest free)))))

files_in : (name : Text) (rows : List Row) → (name ≡ codes "generate" → ⊥) → Has name rows → Files rows
files_in name rows other (inl h) = h.2
files_in name rows other (inr (inl h)) = h.2
files_in name rows other (inr (inr (inl h))) = h.3
files_in name rows other (inr (inr (inr (inl h)))) = h.2
files_in name rows other (inr (inr (inr (inr h)))) = absurd (other h.0)

pub files_met : {words : List Text} (m : Met words) → (m.s.name ≡ codes "generate" → ⊥) → Files (rows_met m)
files_met m other = files_in m.s.name (rows_met m) other (has_met m)

known_task : (task : Task) → IsOnBlocks (task_name task)
known_task Show = inl refl
known_task ShowAsJson = inl refl
known_task Rewrite = inr (inl refl)
known_task Check = inr (inr (inl refl))
known_task Lint = inr (inr (inr refl))

-- no task is asked for by `drive`
pub not_drive : (task : Task) → task_name task ≡ codes "drive" → ⊥
not_drive Show e = true≢false (sym (ap (λ n. bytes_eq n (codes "drive")) e))
not_drive ShowAsJson e = true≢false (sym (ap (λ n. bytes_eq n (codes "drive")) e))
not_drive Rewrite e = true≢false (sym (ap (λ n. bytes_eq n (codes "drive")) e))
not_drive Check e = true≢false (sym (ap (λ n. bytes_eq n (codes "drive")) e))
not_drive Lint e = true≢false (sym (ap (λ n. bytes_eq n (codes "drive")) e))

-- nor by `audit`
pub not_audit : (task : Task) → task_name task ≡ codes "audit" → ⊥
not_audit Show e = true≢false (sym (ap (λ n. bytes_eq n (codes "audit")) e))
not_audit ShowAsJson e = true≢false (sym (ap (λ n. bytes_eq n (codes "audit")) e))
not_audit Rewrite e = true≢false (sym (ap (λ n. bytes_eq n (codes "audit")) e))
not_audit Check e = true≢false (sym (ap (λ n. bytes_eq n (codes "audit")) e))
not_audit Lint e = true≢false (sym (ap (λ n. bytes_eq n (codes "audit")) e))

-- nor by `cppc`
pub not_cppc : (task : Task) → task_name task ≡ codes "cppc" → ⊥
not_cppc Show e = true≢false (sym (ap (λ n. bytes_eq n (codes "cppc")) e))
not_cppc ShowAsJson e = true≢false (sym (ap (λ n. bytes_eq n (codes "cppc")) e))
not_cppc Rewrite e = true≢false (sym (ap (λ n. bytes_eq n (codes "cppc")) e))
not_cppc Check e = true≢false (sym (ap (λ n. bytes_eq n (codes "cppc")) e))
not_cppc Lint e = true≢false (sym (ap (λ n. bytes_eq n (codes "cppc")) e))

-- nor by `generate`
pub not_generate : (task : Task) → task_name task ≡ codes "generate" → ⊥
not_generate Show e = true≢false (sym (ap (λ n. bytes_eq n (codes "generate")) e))
not_generate ShowAsJson e = true≢false (sym (ap (λ n. bytes_eq n (codes "generate")) e))
not_generate Rewrite e = true≢false (sym (ap (λ n. bytes_eq n (codes "generate")) e))
not_generate Check e = true≢false (sym (ap (λ n. bytes_eq n (codes "generate")) e))
not_generate Lint e = true≢false (sym (ap (λ n. bytes_eq n (codes "generate")) e))

pub drive_not_generate : codes "drive" ≡ codes "generate" → ⊥
drive_not_generate e = true≢false (sym (ap (λ n. bytes_eq n (codes "generate")) e))

pub drive_not_audit : codes "drive" ≡ codes "audit" → ⊥
drive_not_audit e = true≢false (sym (ap (λ n. bytes_eq n (codes "audit")) e))

pub drive_not_cppc : codes "drive" ≡ codes "cppc" → ⊥
drive_not_cppc e = true≢false (sym (ap (λ n. bytes_eq n (codes "cppc")) e))

pub audit_not_generate : codes "audit" ≡ codes "generate" → ⊥
audit_not_generate e = true≢false (sym (ap (λ n. bytes_eq n (codes "generate")) e))

pub audit_not_cppc : codes "audit" ≡ codes "cppc" → ⊥
audit_not_cppc e = true≢false (sym (ap (λ n. bytes_eq n (codes "cppc")) e))

pub cppc_not_generate : codes "cppc" ≡ codes "generate" → ⊥
cppc_not_generate e = true≢false (sym (ap (λ n. bytes_eq n (codes "generate")) e))

can_say_of : (name : Text) (rows : List Row) → Has name rows → CanSay name rows
can_say_of name rows (inl h) = record {
  known = inl (subst IsOnBlocks (sym h.1) (known_task h.0));
  blocks = λ _. ap is_some h.2.1;
  script = λ e. absurd (not_drive h.0 (sym h.1 ∙ e));
  audited = λ e. absurd (not_audit h.0 (sym h.1 ∙ e));
  history = λ e. absurd (not_audit h.0 (sym h.1 ∙ e));
  performed = λ e. absurd (not_cppc h.0 (sym h.1 ∙ e));
  count = λ e. absurd (not_generate h.0 (sym h.1 ∙ e));
}
can_say_of name rows (inr (inl h)) = record {
  known = inr (inl h.0);
  blocks = λ _. ap is_some h.2.1;
  script = λ _. ap is_some h.1.1;
  audited = λ e. absurd (drive_not_audit (sym h.0 ∙ e));
  history = λ e. absurd (drive_not_audit (sym h.0 ∙ e));
  performed = λ e. absurd (drive_not_cppc (sym h.0 ∙ e));
  count = λ e. absurd (drive_not_generate (sym h.0 ∙ e));
}
can_say_of name rows (inr (inr (inl h))) = record {
  known = inr (inr (inl h.0));
  blocks = λ _. ap is_some h.3.1;
  script = λ e. absurd (drive_not_audit (sym e ∙ h.0));
  audited = λ _. ap is_some h.1.1;
  history = λ _. ap is_some h.2.1;
  performed = λ e. absurd (audit_not_cppc (sym h.0 ∙ e));
  count = λ e. absurd (audit_not_generate (sym h.0 ∙ e));
}
can_say_of name rows (inr (inr (inr (inl h)))) = record {
  known = inr (inr (inr (inl h.0)));
  blocks = λ _. ap is_some h.2.1;
  script = λ e. absurd (drive_not_cppc (sym e ∙ h.0));
  audited = λ e. absurd (audit_not_cppc (sym e ∙ h.0));
  history = λ e. absurd (audit_not_cppc (sym e ∙ h.0));
  performed = λ _. ap is_some h.1.1;
  count = λ e. absurd (cppc_not_generate (sym h.0 ∙ e));
}
can_say_of name rows (inr (inr (inr (inr h)))) = record {
  known = inr (inr (inr (inr h.0)));
  blocks = λ other. absurd (other h.0);
  script = λ e. absurd (drive_not_generate (sym e ∙ h.0));
  audited = λ e. absurd (audit_not_generate (sym e ∙ h.0));
  history = λ e. absurd (audit_not_generate (sym e ∙ h.0));
  performed = λ e. absurd (cppc_not_generate (sym e ∙ h.0));
  count = λ _. ap is_some h.1.1;
}

pub can_say : {words : List Text} (m : Met words) → CanSay m.s.name (rows_met m)
can_say m = can_say_of m.s.name (rows_met m) (has_met m)

-- a task of `show`, by whether the flag was given
show_task : (rows : List Row) → (said : Task) × (task_name said ≡ codes "show") × SayTask rows said
show_task rows = go (is_used (codes "json") rows) refl
  where
    go : (b : Bool) → is_used (codes "json") rows ≡ b → (said : Task) × (task_name said ≡ codes "show") × SayTask rows said
    go true e = (ShowAsJson, refl, e)
    go false e = (Show, refl, e)

-- the task of the same subcommand of which the matches say that it is asked for
said_task : (task : Task) (rows : List Row) → (said : Task) × (task_name said ≡ task_name task) × SayTask rows said
said_task Show rows = show_task rows
said_task ShowAsJson rows = show_task rows
said_task Rewrite rows = (Rewrite, refl, tt)
said_task Check rows = (Check, refl, tt)
said_task Lint rows = (Lint, refl, tt)

-- what matches say is asked for, unless they are those of `generate` and say no number of clusters
abbrev Said : Text → List Row → Type 0
Said name rows = ((asked : Asked) × (command_name asked ≡ name) × Say rows asked) ⊎ IsUncounted name rows

said_count : (name : Text) (rows : List Row) → IsGenerate rows name → Said name rows
said_count name rows h = elim (counted h.1.0) [
  | inl is ↦ inl (generate is.0, sym h.0, (h.1.0, h.1.1, is.1))
  | inr none ↦ inr (record {
    generates = h.0;
    unsaid = λ n said. none n (subst (λ (w : Text). IsCount w n) (inside said.0 h.1.0 (sym said.1 ∙ h.1.1)) said.2);
  })
]

said_by : (name : Text) (rows : List Row) → Has name rows → Said name rows
said_by name rows (inl h) =
    let said = said_task h.0 rows in
    inl (on_blocks said.0 h.2.0, said.1 ∙ sym h.1, (said.2, h.2.1))
said_by name rows (inr (inl h)) =
    let way : Way = record { serial = is_used (codes "serial") rows; step = is_used (codes "step") rows } in
    inl (drive way h.1.0 h.2.0, sym h.0, ((refl, refl), h.1.1, h.2.1))
said_by name rows (inr (inr (inl h))) =
    let review : Review = record { step = is_used (codes "step") rows; trace = is_used (codes "trace") rows; cppc = is_used (codes "cppc") rows } in
    inl (audit review h.1.0 h.2.0 h.3.0, sym h.0, ((refl, refl, refl), h.1.1, h.2.1, h.3.1))
said_by name rows (inr (inr (inr (inl h)))) = inl (cppc (is_used (codes "serial") rows) h.1.0 h.2.0, sym h.0, (refl, h.1.1, h.2.1))
said_by name rows (inr (inr (inr (inr h)))) = said_count name rows h

-- words that are taken as those of `generate`, of no number of clusters
pub miscounted : {words : List Text} (name : Text) (rows : List Row) → IsTaken words → Enters words name rows → IsUncounted name rows
    → AreMiscounted words
miscounted name rows taken command none = record {
  rows = rows;
  taken = taken;
  command = command ∙ ap (λ n. Some (n, rows)) none.generates;
  unsaid = none.unsaid;
}

-- `clap` states something of words that it takes, unless they are those of `generate` and tell no number of clusters
pub stated_of : (words : List Text) → IsTaken words → ((asked : Asked) × AreStated words asked) ⊎ AreMiscounted words
stated_of words taken =
    let m = met words taken in
    elim (said_by m.s.name (rows_met m) (has_met m)) [
      | inl said ↦ inl (
        said.0,
        record {
          rows = rows_met m;
          taken = taken;
          command = m.command ∙ ap (λ n. Some (n, rows_met m)) (sym said.1);
          said = said.2;
        },
      )
      | inr none ↦ inr (miscounted m.s.name (rows_met m) taken m.command none)
    ]
