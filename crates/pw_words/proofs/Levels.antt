-- What each subcommand makes of the words behind its name, where no file's name begins with a hyphen.
use Rattle.std.proofs.Common.{◌≡◌, ◌∙◌, ◌∷◌, ◌++◌, ℕ, Bool, true, false, refl, sym, subst, ap, ap₂, List, [], length, codes, Option, Some, None}
use Rattle.std.specs.Prelude.{fold, if◌then◌else◌}
use Rattle.clap.specs.Walk.{all_of, Row, Rule, Text, Walk, arg_by_index, is_pending, nothing_held, rows_after, finished, settled_rows}
use Rattle.clap.specs.Walk.{walk, walk_from, walked}
use Rattle.clap.specs.Simple.{Shape, filled_from, new_shape}
use Rattle.clap.specs.Kinds.{Kinds, or_else, range_kinds, values_kinds}
use Rattle.clap.specs.Faults.{level_fault, settle_fault, walk_fault}
use Rattle.clap.specs.declared.builder.value_parser.ValueParser.TheVariants as vp
use Rattle.clap.specs.declared.builder.value_parser.Reading.TheVariants as reading
use Rattle.clap.specs.declared.error.kind.ErrorKind.TheVariants as kind
use Rattle.clap.specs.declared.parser.matches.ValueSource.TheVariants.{CommandLine}
use Rattle.clap.proofs.OnLiterals.{clap_on_literals}
use Rattle.pw_words.specs.declared.command.Task.{Task}
use Rattle.pw_words.specs.declared.command.Task.TheVariants.{Show, ShowAsJson, Rewrite, Check, Lint}
use Rattle.pw_words.specs.App.{blocks_app, show_app}
use Rattle.pw_words.specs.Words.{SayTask, are_bare, task_flags, task_name}
use Rattle.pw_words.proofs.Kept.{level_end}
use Rattle.pw_words.proofs.Walked.{among_files, bare_parts, blocks_at, files_fault, files_held, files_walked, first_turn, first_walked}
use Rattle.pw_words.proofs.Walked.{held, idle_at}

-- ---- the subcommands

-- a subcommand as building leaves it
abbrev pub leaf : Text → List Rule → Shape
leaf name rules = record (new_shape name) {
  rules = filled_from 1 rules;
  no_binary_name = true;
  disable_help_flag = true;
  disable_help_subcommand = true;
  disable_version_flag = true;
  is_built = true;
}

abbrev pub show_leaf : Shape
show_leaf = leaf (codes "show") show_app.top.rules

abbrev pub blocks_leaf : Text → Shape
blocks_leaf name = leaf name (blocks_app name).top.rules

-- the one by which a task is asked for
abbrev pub task_leaf : Task → Shape
task_leaf Show = show_leaf
task_leaf ShowAsJson = show_leaf
task_leaf Rewrite = blocks_leaf (codes "rewrite")
task_leaf Check = blocks_leaf (codes "check")
task_leaf Lint = blocks_leaf (codes "lint")

pub leaf_name : (task : Task) → (task_leaf task).name ≡ task_name task
leaf_name Show = refl
leaf_name ShowAsJson = refl
leaf_name Rewrite = refl
leaf_name Check = refl
leaf_name Lint = refl

-- ---- files, from where the walk stands after the flags

pub or_none : (k : Kinds) → or_else k [] ≡ k
or_none [] = refl
or_none (x ∷ xs) = refl

pub values_none : (values : List Text) → values_kinds false vp.String values ≡ []
values_none [] = refl
values_none (v ∷ vs) = values_none vs

module _ (s : Shape) (p : ℕ) (here : arg_by_index s.rules p ≡ Some (blocks_at p)) (rows : List Row) (pending : Option (Text × List Text))
    (other : is_pending (blocks_at p) pending ≡ false) where
  pub all_walked : (f : Text) (fs : List Text) → are_bare (f ∷ fs) ≡ true
      → fold (walked s.rules []) (idle_at p (held rows pending)) (f ∷ fs) ≡ among_files p (settled_rows s.rules pending rows) (f ∷ fs)
  all_walked f fs bare =
      let parts = bare_parts f fs bare in
      ap (λ w. fold (walked s.rules []) w fs) (first_walked s p here rows pending f parts.0 other)
      ∙ files_walked s p here (settled_rows s.rules pending rows) (f ∷ []) fs parts.1

  pub all_fault : (f : Text) (fs : List Text) → are_bare (f ∷ fs) ≡ true
      → walk_fault s [] (idle_at p (held rows pending)) (f ∷ fs) ≡ settle_fault s.rules s.args_override_self (held rows pending)
  unfolding walk_fault
  all_fault f fs bare =
      let parts = bare_parts f fs bare in
      ap₂ (λ k w. or_else k (walk_fault s [] w fs)) (first_turn s p here rows pending f parts.0 other)
      (first_walked s p here rows pending f parts.0 other)
      ∙ ap (λ k. or_else (settle_fault s.rules s.args_override_self (held rows pending)) k)
      (files_fault s p here (settled_rows s.rules pending rows) (f ∷ []) fs parts.1)
      ∙ or_none _

-- what the number of files is refused for
abbrev pub files_kinds : List Text → Kinds
files_kinds [] = kind.MissingRequiredArgument ∷ []
files_kinds (f ∷ fs) = range_kinds 1 64 (length (f ∷ fs))

-- what a flag leaves
abbrev pub flag_row : Text → Row
flag_row name = record {
  id = name;
  values = codes "true" ∷ [];
  count = None;
  source = Some CommandLine;
  reading = reading.AsWritten;
}

-- and so does one only where it is given
abbrev pub given_rows : Text → Bool → List Row
given_rows name given = if given then flag_row name ∷ [] else []

-- ---- a task's flags and files

-- what its flags leave
abbrev flag_rows : Task → List Row
flag_rows ShowAsJson = flag_row (codes "json") ∷ []
flag_rows _ = []

files_here : (task : Task) → arg_by_index (task_leaf task).rules 1 ≡ Some (blocks_at 1)
files_here Show = refl
files_here ShowAsJson = refl
files_here Rewrite = refl
files_here Check = refl
files_here Lint = refl

flags_walked : (task : Task) (files : List Text) → walk (task_leaf task).rules [] nothing_held (task_flags task ++ files)
    ≡ fold (walked (task_leaf task).rules []) (idle_at 1 (held (flag_rows task) None)) files
unfolding clap_on_literals
flags_walked Show files = refl
flags_walked ShowAsJson files = refl
flags_walked Rewrite files = refl
flags_walked Check files = refl
flags_walked Lint files = refl

flags_fault : (task : Task) (files : List Text) → walk_fault (task_leaf task) [] (walk_from nothing_held) (task_flags task ++ files)
    ≡ walk_fault (task_leaf task) [] (idle_at 1 (held (flag_rows task) None)) files
unfolding clap_on_literals
flags_fault Show files = refl
flags_fault ShowAsJson files = refl
flags_fault Rewrite files = refl
flags_fault Check files = refl
flags_fault Lint files = refl

files_end : (task : Task) (f : Text) (fs : List Text) → level_end (task_leaf task) (files_held (flag_rows task) (f ∷ fs))
    ≡ or_else (or_else (range_kinds 1 64 (length (f ∷ fs))) (values_kinds false vp.String (f ∷ fs))) []
unfolding clap_on_literals
files_end Show f fs = refl
files_end ShowAsJson f fs = refl
files_end Rewrite f fs = refl
files_end Check f fs = refl
files_end Lint f fs = refl

no_files : (task : Task) → level_fault (task_leaf task) [] nothing_held (task_flags task ++ []) false [] ≡ files_kinds []
unfolding clap_on_literals
no_files Show = refl
no_files ShowAsJson = refl
no_files Rewrite = refl
no_files Check = refl
no_files Lint = refl

files_walk : (task : Task) (f : Text) (fs : List Text) → are_bare (f ∷ fs) ≡ true
    → walk (task_leaf task).rules [] nothing_held (task_flags task ++ f ∷ fs) ≡ among_files 1 (flag_rows task) (f ∷ fs)
files_walk task f fs bare =
    flags_walked task (f ∷ fs) ∙ all_walked (task_leaf task) 1 (files_here task) (flag_rows task) None refl f fs bare

pub task_level : (task : Task) (files : List Text) → are_bare files ≡ true
    → level_fault (task_leaf task) [] nothing_held (task_flags task ++ files) false [] ≡ files_kinds files
task_level task [] bare = no_files task
task_level task (f ∷ fs) bare =
    ap₂ (λ k (w : Walk). or_else k (level_end (task_leaf task) w.held))
    (flags_fault task (f ∷ fs) ∙ all_fault (task_leaf task) 1 (files_here task) (flag_rows task) None refl f fs bare)
    (files_walk task f fs bare)
    ∙ files_end task f fs
    ∙ ap (λ k. or_else (or_else (range_kinds 1 64 (length (f ∷ fs))) k) []) (values_none (f ∷ fs))
    ∙ or_none _ ∙ or_none _

-- the matches of the subcommand
abbrev pub task_rows : Task → List Text → List Row
task_rows task files = rows_after (task_leaf task).rules [] (task_flags task ++ files)

-- the matches say what is asked for
abbrev Tell : Task → List Text → List Row → Type 0
Tell task files rows = SayTask rows task × (all_of (codes "blocks") rows ≡ Some files)

files_said : (task : Task) (f : Text) (fs : List Text)
    → Tell task (f ∷ fs) (finished (task_leaf task).rules (files_held (flag_rows task) (f ∷ fs)))
files_said Show f fs = (refl, refl)
files_said ShowAsJson f fs = (refl, refl)
files_said Rewrite f fs = (tt, refl)
files_said Check f fs = (tt, refl)
files_said Lint f fs = (tt, refl)

pub task_said : (task : Task) (f : Text) (fs : List Text) → are_bare (f ∷ fs) ≡ true
    → Tell task (f ∷ fs) (task_rows task (f ∷ fs))
task_said task f fs bare =
    subst (λ (w : Walk). Tell task (f ∷ fs) (finished (task_leaf task).rules w.held)) (sym (files_walk task f fs bare))
    (files_said task f fs)
