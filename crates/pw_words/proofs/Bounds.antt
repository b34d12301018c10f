-- How many values the matches of a simple command have for an argument, on any words.
use Rattle.std.proofs.Common.{◌≡◌, ◌∙◌, ◌∷◌, ◌++◌, ◌<◌, ◌≤◌, ◌&&◌, ◌||◌, inl, inr, arith, ℕ, Bool, cond, true, false, option_map}
use Rattle.std.proofs.Common.{refl, sym, ap, subst, List, [], length, codes, Option, Some, None, true≢false, append-nil, lt-ltb, le-ltb}
use Rattle.std.proofs.Common.{ne_eqb, ◌==◌, nat_lt}
use Rattle.std.specs.Prelude.{IfSome, find, option_and_then, slice_get}
use Rattle.std.specs.Str.{bytes_eq}
use Rattle.std.specs.Option.{option_map_or, option_or}
use Rattle.std.proofs.lemmas.Bool.{cases_lt}
use Rattle.std.proofs.lemmas.List.Folds.{find-append}
use Rattle.clap.specs.Facts.{explicit_source}
use Rattle.clap.specs.Walk.{Row, Rule, Text, all_of, at_row, default_rows, first_of, more_values, reading_by, has_row, nothing_held}
use Rattle.clap.specs.Walk.{rows_after, values_or_missing, with_values, without}
use Rattle.clap.specs.Simple.{filled, with_index}
use Rattle.clap.specs.Kinds.{or_else, range_kinds}
use Rattle.clap.specs.Takes.{is_given}
use Rattle.clap.specs.Faults.{level_fault, repeat_fault, set_fault, values_fault}
use Rattle.clap.specs.declared.builder.value_parser.Reading.{Reading}
use Rattle.clap.specs.declared.builder.value_parser.Reading.TheVariants as reading
use Rattle.clap.specs.declared.parser.matches.ValueSource.{ValueSource}
use Rattle.clap.specs.declared.parser.matches.ValueSource.TheVariants.{DefaultValue}
use Rattle.clap.specs.declared.error.kind.ErrorKind.TheVariants as kind
use Rattle.pw_words.specs.App.{flag_rule}
use Rattle.pw_words.proofs.Auditing.{audit_leaf}
use Rattle.pw_words.proofs.Driving.{drive_leaf}
use Rattle.pw_words.proofs.Generating.{generate_leaf}
use Rattle.pw_words.proofs.Requesting.{cppc_leaf}
use Rattle.pw_words.proofs.Kept.{Keeps, KeepsFilled, level_keeps, none_of_both, some_kind}
use Rattle.pw_words.proofs.Walked.{blocks_at, word_at}
use Rattle.pw_words.proofs.Levels.{blocks_leaf, show_leaf, task_leaf}
use Rattle.pw_words.specs.declared.command.Task.{Task}
use Rattle.pw_words.specs.declared.command.Task.TheVariants.{Show, ShowAsJson, Rewrite, Check, Lint}

-- ---- a row that joins

absent : (id : Text) (change : Row → List Row) (missing rows : List Row) → has_row id rows ≡ false
    → at_row id change missing rows ≡ rows ++ missing
absent id change missing [] none = refl
absent id change missing (r ∷ rs) none = go (bytes_eq r.id id) (absent id change missing rs) none
  where
    go : (b : Bool) → (has_row id rs ≡ false → at_row id change missing rs ≡ rs ++ missing) → (b || has_row id rs) ≡ false
        → cond b (change r ++ rs) (r ∷ at_row id change missing rs) ≡ r ∷ (rs ++ missing)
    go true later e = absurd (true≢false e)
    go false later e = ap (λ xs. r ∷ xs) (later e)

module _ (x : Text) (P : List Text → Type 0) where
  -- the values of the argument x, where it has an entry
  abbrev pub Has : List Row → Type 0
  Has rows = IfSome (find (λ r. bytes_eq r.id x) rows) (λ r. P r.values)

  joined : (new : Row) (rows : List Row) → (bytes_eq new.id x ≡ true → P new.values) → Has rows → Has (rows ++ new ∷ [])
  joined new rows fits has = subst (λ o. IfSome o (λ r. P r.values)) (sym (find-append (λ r. bytes_eq r.id x) rows (new ∷ [])))
      (go (find (λ r. bytes_eq r.id x) rows) has)
    where
      last : (b : Bool) → (b ≡ true → P new.values) → IfSome (cond b (Some new) None) (λ r. P r.values)
      last true f = f refl
      last false f = tt

      go : (o : Option Row) → IfSome o (λ r. P r.values) → IfSome (option_or o (find (λ r. bytes_eq r.id x) (new ∷ []))) (λ r. P r.values)
      go None h = last (bytes_eq new.id x) fits
      go (Some r) h = h

  added : (id : Text) (how : Reading) (source : ValueSource) (values : List Text) (rows : List Row) → has_row id rows ≡ false
      → (bytes_eq id x ≡ true → P values) → Has rows
      → Has (with_values id how source values rows)
  added id how source values rows none fits has =
      let new : Row = record { id = id; values = values; count = None; source = Some source; reading = how } in
      subst Has (sym (absent id (more_values source values) (new ∷ []) rows none)) (joined new rows fits has)

  replaced : (id : Text) (how : Reading) (source : ValueSource) (values : List Text) (rows : List Row) → has_row id rows ≡ false
      → (bytes_eq id x ≡ true → P values) → Has rows
      → Has (with_values id how source values (without id rows))
  replaced id how source values rows none fits has =
      let same : without id rows ≡ rows = absent id (λ _. []) [] rows none ∙ append-nil rows in
      subst (λ rs. Has (with_values id how source values rs)) (sym same) (added id how source values rows none fits has)

-- ---- a use that does not fail

set_parts : (a : Rule) (raw : List Text) (rows : List Row) (l h n : ℕ) → or_else (range_kinds l h n) (set_fault false a raw rows) ≡ []
    → (range_kinds l h n ≡ []) × (has_row a.id rows ≡ false)
set_parts a raw rows l h n free =
    let parts = none_of_both (range_kinds l h n) (set_fault false a raw rows) free in
    let more = none_of_both (repeat_fault false a.id rows) (values_fault a raw) parts.1 in
    (parts.0, go (has_row a.id rows) more.0)
  where
    go : (b : Bool) → cond (b && true) (kind.ArgumentConflict ∷ []) [] ≡ [] → b ≡ false
    go true e = absurd (some_kind [] kind.ArgumentConflict e)
    go false e = refl

module _ (x : Text) (P : List Text → Type 0) where
  flag_keeps : (name : Text) (p : ℕ) → bytes_eq name x ≡ false → Keeps (Has x P) false (with_index p (filled (flag_rule name)))
  flag_keeps name p other values rows free has =
      let a = with_index p (filled (flag_rule name)) in
      let parts = set_parts a (values_or_missing a values) rows 0 0 (length values) free in
      replaced x P name _ _ (values_or_missing a values) rows parts.1 (λ e. absurd (true≢false (sym e ∙ other))) has

  word_keeps : (id : Text) (p : ℕ)
      → (bytes_eq id x ≡ true → (values : List Text) → range_kinds 1 1 (length values) ≡ [] → P (values_or_missing (word_at id p) values))
      → Keeps (Has x P) false (word_at id p)
  word_keeps id p fits values rows free has =
      let a = word_at id p in
      let parts = set_parts a (values_or_missing a values) rows 1 1 (length values) free in
      replaced x P id _ _ (values_or_missing a values) rows parts.1 (λ e. fits e values parts.0) has

  blocks_keeps : (p : ℕ)
      → (bytes_eq (codes "blocks") x ≡ true → (values : List Text) → range_kinds 1 64 (length values) ≡ []
      → P (values_or_missing (blocks_at p) values)) → Keeps (Has x P) false (blocks_at p)
  blocks_keeps p fits values rows free has =
      let a = blocks_at p in
      let parts = set_parts a (values_or_missing a values) rows 1 64 (length values) free in
      replaced x P (codes "blocks") _ _ (values_or_missing a values) rows parts.1 (λ e. fits e values parts.0) has

  flag_filled : (name : Text) (p : ℕ) → bytes_eq name x ≡ false → KeepsFilled (Has x P) (with_index p (filled (flag_rule name)))
  flag_filled name p other rows has = go (has_row name rows) refl
    where
      go : (b : Bool) → has_row name rows ≡ b
          → Has x P (cond b rows (with_values name reading.AsWritten DefaultValue (codes "false" ∷ []) rows))
      go true e = has
      go false e = added x P name reading.AsWritten DefaultValue (codes "false" ∷ []) rows e (λ e. absurd (true≢false (sym e ∙ other))) has

  bare_filled : (a : Rule) → a.defaults ≡ [] → KeepsFilled (Has x P) a
  bare_filled a none rows has =
      subst (Has x P) (sym (ap (λ d. cond (has_row a.id rows) rows (default_rows a.id (reading_by a) d rows)) none))
      (go (has_row a.id rows))
    where
      go : (b : Bool) → Has x P (cond b rows rows)
      go true = has
      go false = has

-- ---- how many

abbrev pub HasFew : List Text → Type 0
HasFew values = (1 ≤ length values) × (length values ≤ 64)

abbrev HasSome : List Text → Type 0
HasSome values = 1 ≤ length values

some : (id : Text) (p : ℕ) (values : List Text) → range_kinds 1 1 (length values) ≡ [] → HasSome (values_or_missing (word_at id p) values)
some id p [] e = absurd (some_kind [] kind.InvalidValue e)
some id p (v ∷ vs) e = omega arith

pub over : (n : ℕ) → 64 < n → range_kinds 1 64 n ≡ [] → ⊥
over n many e =
    let some : (n == 0) ≡ false = ne_eqb n 0 (λ e. omega arith) in
    let enough : nat_lt n 1 ≡ false = le-ltb n 1 (omega arith) in
    let past : nat_lt 64 n ≡ true = lt-ltb 64 n many in
    let is : range_kinds 1 64 n ≡ kind.TooManyValues ∷ [] = rw (some, enough, past) refl in
    some_kind [] kind.TooManyValues (sym is ∙ e)

few : (p : ℕ) (values : List Text) → range_kinds 1 64 (length values) ≡ [] → HasFew (values_or_missing (blocks_at p) values)
few p [] e = absurd (some_kind [] kind.InvalidValue e)
few p (v ∷ vs) e = elim (cases_lt 64 (length (v ∷ vs))) [
  | inl many ↦ absurd (over (length (v ∷ vs)) many e)
  | inr within ↦ (omega arith, within)
]

-- ---- the commands

abbrev blocks_in : List Row → Type 0
blocks_in = Has (codes "blocks") HasFew

never : {A : Type 0} → false ≡ true → A
never e = absurd (true≢false (sym e))

show_bound : (words : List Text) → level_fault show_leaf [] nothing_held words false [] ≡ []
    → blocks_in (rows_after show_leaf.rules [] words)
show_bound words free =
    level_keeps blocks_in show_leaf words
    (blocks_keeps (codes "blocks") HasFew 1 (λ _. few 1), (flag_keeps (codes "blocks") HasFew (codes "json") 2 refl, tt))
    (bare_filled (codes "blocks") HasFew (blocks_at 1) refl, (flag_filled (codes "blocks") HasFew (codes "json") 2 refl, tt)) tt free

blocks_bound : (name : Text) (words : List Text) → level_fault (blocks_leaf name) [] nothing_held words false [] ≡ []
    → blocks_in (rows_after (blocks_leaf name).rules [] words)
blocks_bound name words free =
    level_keeps blocks_in (blocks_leaf name) words (blocks_keeps (codes "blocks") HasFew 1 (λ _. few 1), tt)
    (bare_filled (codes "blocks") HasFew (blocks_at 1) refl, tt) tt free

abbrev script_in : List Row → Type 0
script_in = Has (codes "script") HasSome

pub drive_bound : (words : List Text) → level_fault drive_leaf [] nothing_held words false [] ≡ []
    → blocks_in (rows_after drive_leaf.rules [] words)
drive_bound words free =
    let x = codes "blocks" in
    level_keeps blocks_in drive_leaf words (
      flag_keeps x HasFew (codes "serial") 1 refl,
      (
        flag_keeps x HasFew (codes "step") 1 refl,
        (word_keeps x HasFew (codes "script") 1 (λ e. never e), (blocks_keeps x HasFew 2 (λ _. few 2), tt)),
      ),
    ) (
      flag_filled x HasFew (codes "serial") 1 refl,
      (
        flag_filled x HasFew (codes "step") 1 refl,
        (bare_filled x HasFew (word_at (codes "script") 1) refl, (bare_filled x HasFew (blocks_at 2) refl, tt)),
      ),
    ) tt free

pub script_bound : (words : List Text) → level_fault drive_leaf [] nothing_held words false [] ≡ []
    → script_in (rows_after drive_leaf.rules [] words)
script_bound words free =
    let x = codes "script" in
    level_keeps script_in drive_leaf words (
      flag_keeps x HasSome (codes "serial") 1 refl,
      (
        flag_keeps x HasSome (codes "step") 1 refl,
        (word_keeps x HasSome (codes "script") 1 (λ _. some (codes "script") 1), (blocks_keeps x HasSome 2 (λ e. never e), tt)),
      ),
    ) (
      flag_filled x HasSome (codes "serial") 1 refl,
      (
        flag_filled x HasSome (codes "step") 1 refl,
        (bare_filled x HasSome (word_at (codes "script") 1) refl, (bare_filled x HasSome (blocks_at 2) refl, tt)),
      ),
    ) tt free

-- what one use gives to an argument
abbrev Gives : Text → (List Text → Type 0) → Text → Rule → ℕ → Type 0
Gives x P id a most =
    bytes_eq id x ≡ true → (values : List Text) → range_kinds 1 most (length values) ≡ [] → P (values_or_missing a values)

-- what `audit` keeps of an argument that is none of its flags
module _ (x : Text) (P : List Text → Type 0) (step : bytes_eq (codes "step") x ≡ false) (trace : bytes_eq (codes "trace") x ≡ false) (cppc : bytes_eq (codes "cppc") x ≡ false) where
  audit_keeps : Gives x P (codes "script") (word_at (codes "script") 1) 1
      → Gives x P (codes "history") (word_at (codes "history") 2) 1 → Gives x P (codes "blocks") (blocks_at 3) 64
      → (words : List Text) → level_fault audit_leaf [] nothing_held words false [] ≡ [] → Has x P (rows_after audit_leaf.rules [] words)
  audit_keeps script history blocks words free =
      level_keeps (Has x P) audit_leaf words (
        flag_keeps x P (codes "step") 1 step,
        (
          flag_keeps x P (codes "trace") 1 trace,
          (
            flag_keeps x P (codes "cppc") 1 cppc,
            (word_keeps x P (codes "script") 1 script, (word_keeps x P (codes "history") 2 history, (blocks_keeps x P 3 blocks, tt))),
          ),
        ),
      ) (
        flag_filled x P (codes "step") 1 step,
        (
          flag_filled x P (codes "trace") 1 trace,
          (
            flag_filled x P (codes "cppc") 1 cppc,
            (
              bare_filled x P (word_at (codes "script") 1) refl,
              (bare_filled x P (word_at (codes "history") 2) refl, (bare_filled x P (blocks_at 3) refl, tt)),
            ),
          ),
        ),
      ) tt free

pub audit_bound : (words : List Text) → level_fault audit_leaf [] nothing_held words false [] ≡ []
    → blocks_in (rows_after audit_leaf.rules [] words)
audit_bound words free = audit_keeps (codes "blocks") HasFew refl refl refl (λ e. never e) (λ e. never e) (λ _. few 3) words free

pub audited_bound : (words : List Text) → level_fault audit_leaf [] nothing_held words false [] ≡ []
    → script_in (rows_after audit_leaf.rules [] words)
audited_bound words free =
    audit_keeps (codes "script") HasSome refl refl refl (λ _. some (codes "script") 1) (λ e. never e) (λ e. never e) words free

pub history_bound : (words : List Text) → level_fault audit_leaf [] nothing_held words false [] ≡ []
    → Has (codes "history") HasSome (rows_after audit_leaf.rules [] words)
history_bound words free =
    audit_keeps (codes "history") HasSome refl refl refl (λ e. never e) (λ _. some (codes "history") 2) (λ e. never e) words free

-- what `cppc` keeps of one
module _ (x : Text) (P : List Text → Type 0) (other : bytes_eq (codes "serial") x ≡ false) where
  cppc_keeps : Gives x P (codes "script") (word_at (codes "script") 1) 1 → Gives x P (codes "blocks") (blocks_at 2) 64
      → (words : List Text) → level_fault cppc_leaf [] nothing_held words false [] ≡ [] → Has x P (rows_after cppc_leaf.rules [] words)
  cppc_keeps script blocks words free =
      level_keeps (Has x P) cppc_leaf words (
        flag_keeps x P (codes "serial") 1 other,
        (word_keeps x P (codes "script") 1 script, (blocks_keeps x P 2 blocks, tt)),
      ) (
        flag_filled x P (codes "serial") 1 other,
        (bare_filled x P (word_at (codes "script") 1) refl, (bare_filled x P (blocks_at 2) refl, tt)),
      ) tt free

pub cppc_bound : (words : List Text) → level_fault cppc_leaf [] nothing_held words false [] ≡ []
    → blocks_in (rows_after cppc_leaf.rules [] words)
cppc_bound words free = cppc_keeps (codes "blocks") HasFew refl (λ e. never e) (λ _. few 2) words free

pub performed_bound : (words : List Text) → level_fault cppc_leaf [] nothing_held words false [] ≡ []
    → script_in (rows_after cppc_leaf.rules [] words)
performed_bound words free = cppc_keeps (codes "script") HasSome refl (λ _. some (codes "script") 1) (λ e. never e) words free

pub count_bound : (words : List Text) → level_fault generate_leaf [] nothing_held words false [] ≡ []
    → Has (codes "count") HasSome (rows_after generate_leaf.rules [] words)
count_bound words free =
    let x = codes "count" in
    level_keeps (Has x HasSome) generate_leaf words (word_keeps x HasSome x 1 (λ _. some x 1), tt)
    (bare_filled x HasSome (word_at x 1) refl, tt) tt free

pub task_bound : (task : Task) (words : List Text) → level_fault (task_leaf task) [] nothing_held words false [] ≡ []
    → blocks_in (rows_after (task_leaf task).rules [] words)
task_bound Show words free = show_bound words free
task_bound ShowAsJson words free = show_bound words free
task_bound Rewrite words free = blocks_bound (codes "rewrite") words free
task_bound Check words free = blocks_bound (codes "check") words free
task_bound Lint words free = blocks_bound (codes "lint") words free

-- an entry that is there has its values
pub stated_values : (id : Text) (P : List Text → Type 0) (rows : List Row) → is_given id rows ≡ true → Has id P rows
    → (values : List Text) × (all_of id rows ≡ Some values) × (P values)
stated_values id P rows = go (find (λ r. bytes_eq r.id id) rows)
  where
    go : (o : Option Row) → option_map_or (λ r. explicit_source r.source) o false ≡ true → IfSome o (λ r. P r.values)
        → (values : List Text) × (option_map (λ r. r.values) o ≡ Some values) × (P values)
    go None e has = never e
    go (Some r) e has = (r.values, refl, has)

-- and its first one
pub stated_first : (id : Text) (rows : List Row) → is_given id rows ≡ true → Has id HasSome rows
    → (value : Text) × (first_of id rows ≡ Some value)
stated_first id rows = go (find (λ r. bytes_eq r.id id) rows)
  where
    first : (values : List Text) → HasSome values → (value : Text) × (slice_get values 0 ≡ Some value)
    first [] h = absurd (omega arith)
    first (v ∷ vs) h = (v, refl)

    go : (o : Option Row) → option_map_or (λ r. explicit_source r.source) o false ≡ true → IfSome o (λ r. HasSome r.values)
        → (value : Text) × (option_and_then (λ (r : Row). slice_get r.values 0) o ≡ Some value)
    go None e has = never e
    go (Some r) e has = first r.values has
