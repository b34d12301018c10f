-- Which subcommand a parse enters that doesn't fail, on any words.
use Rattle.std.proofs.Common.{◌≡◌, ◌∙◌, ◌⊎◌, inl, inr, Bool, cond, true, false, is_some, refl, sym, ap, List, [], option_map, Option}
use Rattle.std.proofs.Common.{Some, None, true≢false}
use Rattle.std.specs.Prelude.{find}
use Rattle.std.specs.Option.{option_map_or}
use Rattle.clap.specs.Walk.{Row, Text, answers_to, nothing_held, rows_after, stop_after}
use Rattle.clap.specs.Simple.{Shape, built, entered, label_of, names_of}
use Rattle.clap.specs.Faults.{check_fault, entered_fault, level_fault}
use Rattle.clap.specs.declared.error.kind.ErrorKind.TheVariants as kind
use Rattle.pw_words.specs.declared.command.Task.{Task}
use Rattle.pw_words.specs.declared.command.Task.TheVariants.{Show, Rewrite, Check, Lint}
use Rattle.pw_words.specs.App.{line_app}
use Rattle.pw_words.specs.Stated.{Enters, IsTaken}
use Rattle.pw_words.proofs.Auditing.{audit_leaf}
use Rattle.pw_words.proofs.Driving.{drive_leaf}
use Rattle.pw_words.proofs.Generating.{generate_leaf}
use Rattle.pw_words.proofs.Kept.{none_of_both, some_kind}
use Rattle.pw_words.proofs.Levels.{task_leaf}
use Rattle.pw_words.proofs.Requesting.{cppc_leaf}

-- a subcommand as building leaves it: that of a task, `drive`, `audit`, `cppc` or `generate`
abbrev pub IsLeaf : Shape → Type 0
IsLeaf s = ((task : Task) × (s ≡ task_leaf task)) ⊎ ((s ≡ drive_leaf) ⊎ ((s ≡ audit_leaf) ⊎ ((s ≡ cppc_leaf) ⊎ (s ≡ generate_leaf))))

-- the subcommand that a parse met, and the words after it
pub record Met (words : List Text) : Type 0 where
  pub s : Shape
  pub rest : List Text
  pub leaf : IsLeaf s
  pub command : Enters words s.name (rows_after s.rules [] rest)
  pub free : level_fault s [] nothing_held rest false [] ≡ []

abbrev stop_at : List Text → Option (Text × List Text)
stop_at words = stop_after (built line_app).top.rules (names_of (built line_app)) words

-- the subcommand that a search finds by its name
abbrev found_by : Text → Option Shape
found_by n = find (λ s. answers_to n (label_of s)) (built line_app).subs

finds : (n : Text) → (found_by n ≡ None) ⊎ ((s : Shape) × IsLeaf s × (found_by n ≡ Some s))
finds n = go (answers_to n (label_of (task_leaf Show))) (answers_to n (label_of (task_leaf Rewrite)))
    (answers_to n (label_of (task_leaf Check))) (answers_to n (label_of (task_leaf Lint))) (answers_to n (label_of drive_leaf))
    (answers_to n (label_of audit_leaf))
    (answers_to n (label_of cppc_leaf)) (answers_to n (label_of generate_leaf))
  where
    search_by : Bool → Bool → Bool → Bool → Bool → Bool → Bool → Bool → Option Shape
    search_by a b c d e f g h = cond a (Some (task_leaf Show))
        (cond b (Some (task_leaf Rewrite))
        (cond c (Some (task_leaf Check)) (cond d (Some (task_leaf Lint)) (cond e (Some drive_leaf) (cond f (Some audit_leaf)
        (cond g (Some cppc_leaf) (cond h (Some generate_leaf) None)))))))

    go : (a b c d e f g h : Bool) → (search_by a b c d e f g h ≡ None) ⊎ ((s : Shape) × IsLeaf s × (search_by a b c d e f g h ≡ Some s))
    go true b c d e f g h = inr (task_leaf Show, inl (Show, refl), refl)
    go false true c d e f g h = inr (task_leaf Rewrite, inl (Rewrite, refl), refl)
    go false false true d e f g h = inr (task_leaf Check, inl (Check, refl), refl)
    go false false false true e f g h = inr (task_leaf Lint, inl (Lint, refl), refl)
    go false false false false true f g h = inr (drive_leaf, inr (inl refl), refl)
    go false false false false false true g h = inr (audit_leaf, inr (inr (inl refl)), refl)
    go false false false false false false true h = inr (cppc_leaf, inr (inr (inr (inl refl))), refl)
    go false false false false false false false true = inr (generate_leaf, inr (inr (inr (inr refl))), refl)
    go false false false false false false false false = inl refl

-- a subcommand is wanted
wanted : (rows : List Row) (o : Option (Text × List Row)) → check_fault (built line_app).top rows (is_some o) ≡ [] → is_some o ≡ true
wanted rows None e = absurd (some_kind [] kind.MissingSubcommand e)
wanted rows (Some p) e = refl

abbrev rows_for : List Text → Shape → Text × List Row
rows_for rest s = (s.name, rows_after s.rules [] rest)

-- what holds of a subcommand that is met, once no kind of error is left
met_at : (words : List Text) (stop : Option (Text × List Text)) → stop_at words ≡ stop → entered_fault (built line_app) (stop_at words) ≡ []
    → is_some (entered (built line_app) (stop_at words)) ≡ true → Met words
met_at words None e below there = absurd (true≢false (sym there ∙ ap (λ o. is_some (entered (built line_app) o)) e))
met_at words (Some p) e below there = elim (finds p.0) [
  | inl none ↦ absurd (true≢false (sym there ∙ ap (λ o. is_some (entered (built line_app) o)) e
      ∙ ap (λ o. is_some (option_map (rows_for p.1) o)) none))
  | inr found ↦ record {
    s = found.0;
    rest = p.1;
    leaf = found.1;
    command = ap (entered (built line_app)) e ∙ ap (option_map (rows_for p.1)) found.2;
    free = sym (ap (entered_fault (built line_app)) e
        ∙ ap (λ o. option_map_or (λ s. level_fault s [] nothing_held p.1 false []) o []) found.2) ∙ below;
  }
]

pub met : (words : List Text) → IsTaken words → Met words
met words free =
    let parts = none_of_both _ _ (none_of_both _ _ free).1 in
    let checked = (none_of_both _ _ (none_of_both _ _ parts.1).1).1 in
    met_at words (stop_at words) refl parts.0
    (wanted (rows_after (built line_app).top.rules (names_of (built line_app)) words) (entered (built line_app) (stop_at words)) checked)
