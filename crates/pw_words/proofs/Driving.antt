-- What `drive` makes of the words behind it, where no name begins with a hyphen.
use Rattle.std.proofs.Common.{◌≡◌, ◌∙◌, ◌∷◌, ◌++◌, Bool, true, false, refl, sym, subst, ap, ap₂, List, [], length, codes, Some, None}
use Rattle.std.specs.Prelude.{fold}
use Rattle.clap.specs.Walk.{all_of, first_of, Held, Row, Text, Walk, nothing_held, rows_after, finished, settled_rows, walk, walk_from, walked}
use Rattle.clap.specs.Simple.{Shape}
use Rattle.clap.specs.Kinds.{Kinds, or_else, range_kinds, values_kinds}
use Rattle.clap.specs.Faults.{level_fault, settle_fault, walk_fault}
use Rattle.clap.specs.declared.builder.value_parser.ValueParser.TheVariants as vp
use Rattle.clap.proofs.OnLiterals.{clap_on_literals}
use Rattle.pw_words.specs.declared.command.Way.{Way}
use Rattle.pw_words.specs.App.{drive_app}
use Rattle.pw_words.specs.Stated.{is_used}
use Rattle.pw_words.specs.Words.{SayWay, are_bare, flag_words, is_dashed, way_flags}
use Rattle.pw_words.proofs.Kept.{level_end}
use Rattle.pw_words.proofs.Levels.{all_fault, all_walked, files_kinds, given_rows, leaf, or_none, values_none}
use Rattle.pw_words.proofs.Walked.{among_files, bare_parts, files_held, held, idle_at, word_turn, word_walked}

-- the subcommand as building leaves it
abbrev pub drive_leaf : Shape
drive_leaf = leaf (codes "drive") drive_app.top.rules

-- ---- the flags

-- those of a way, by whether each is given
abbrev pub flags_by : Bool → Bool → List Text
flags_by serial step = flag_words (codes "--serial") serial ++ flag_words (codes "--step") step

-- what they leave
abbrev rows_by : Bool → Bool → List Row
rows_by serial step = given_rows (codes "serial") serial ++ given_rows (codes "step") step

module _ (words : List Text) where
  flags_walked : (serial step : Bool) → walk drive_leaf.rules [] nothing_held (flags_by serial step ++ words)
      ≡ fold (walked drive_leaf.rules []) (idle_at 1 (held (rows_by serial step) None)) words
  unfolding clap_on_literals
  flags_walked true true = refl
  flags_walked true false = refl
  flags_walked false true = refl
  flags_walked false false = refl

  flags_fault : (serial step : Bool) → walk_fault drive_leaf [] (walk_from nothing_held) (flags_by serial step ++ words)
      ≡ walk_fault drive_leaf [] (idle_at 1 (held (rows_by serial step) None)) words
  unfolding clap_on_literals
  flags_fault true true = refl
  flags_fault true false = refl
  flags_fault false true = refl
  flags_fault false false = refl

no_names : (serial step : Bool) → level_fault drive_leaf [] nothing_held (flags_by serial step ++ []) false [] ≡ files_kinds []
unfolding clap_on_literals
no_names true true = refl
no_names true false = refl
no_names false true = refl
no_names false false = refl

-- ---- the script

-- what is held at its name
abbrev script_held : Bool → Bool → Text → Held
script_held serial step script = held (rows_by serial step) (Some (codes "script", script ∷ []))

-- what is held behind it
abbrev script_rows : Bool → Bool → Text → List Row
script_rows serial step script = settled_rows drive_leaf.rules (Some (codes "script", script ∷ [])) (rows_by serial step)

module _ (script : Text) (bare : is_dashed script ≡ false) where
  script_walked : (serial step : Bool)
      → walked drive_leaf.rules [] (idle_at 1 (held (rows_by serial step) None)) script ≡ idle_at 2 (script_held serial step script)
  script_walked serial step = word_walked drive_leaf 1 (codes "script") refl (held (rows_by serial step) None) script bare refl

  script_fault : (serial step : Bool) (words : List Text) → walk_fault drive_leaf [] (idle_at 1 (held (rows_by serial step) None)) (script ∷ words)
      ≡ walk_fault drive_leaf [] (idle_at 2 (script_held serial step script)) words
  unfolding walk_fault
  script_fault serial step words =
      ap₂ (λ k w. or_else k (walk_fault drive_leaf [] w words))
      (word_turn drive_leaf 1 (codes "script") refl (held (rows_by serial step) None) script bare refl) (script_walked serial step)

script_settles : (serial step : Bool) (script : Text) → settle_fault drive_leaf.rules false (script_held serial step script) ≡ []
script_settles true true script = refl
script_settles true false script = refl
script_settles false true script = refl
script_settles false false script = refl

script_alone : (serial step : Bool) (script : Text)
    → or_else (walk_fault drive_leaf [] (idle_at 2 (script_held serial step script)) []) (level_end drive_leaf (script_held serial step script))
    ≡ files_kinds []
unfolding clap_on_literals
script_alone true true script = refl
script_alone true false script = refl
script_alone false true script = refl
script_alone false false script = refl

-- ---- the files behind it

files_end : (serial step : Bool) (script f : Text) (fs : List Text)
    → level_end drive_leaf (files_held (script_rows serial step script) (f ∷ fs))
    ≡ or_else (or_else (range_kinds 1 64 (length (f ∷ fs))) (values_kinds false vp.String (f ∷ fs))) []
unfolding clap_on_literals
files_end true true script f fs = refl
files_end true false script f fs = refl
files_end false true script f fs = refl
files_end false false script f fs = refl

module _ (serial step : Bool) (script f : Text) (fs : List Text) (bare : are_bare (script ∷ f ∷ fs) ≡ true) where
  names_fault : walk_fault drive_leaf [] (walk_from nothing_held) (flags_by serial step ++ script ∷ f ∷ fs) ≡ []
  names_fault =
      let parts = bare_parts script (f ∷ fs) bare in
      flags_fault (script ∷ f ∷ fs) serial step ∙ script_fault script parts.0 serial step (f ∷ fs)
      ∙ all_fault drive_leaf 2 refl (rows_by serial step) (Some (codes "script", script ∷ [])) refl f fs parts.1
      ∙ script_settles serial step script

  names_walk : walk drive_leaf.rules [] nothing_held (flags_by serial step ++ script ∷ f ∷ fs)
      ≡ among_files 2 (script_rows serial step script) (f ∷ fs)
  names_walk =
      let parts = bare_parts script (f ∷ fs) bare in
      flags_walked (script ∷ f ∷ fs) serial step
      ∙ ap (λ w. fold (walked drive_leaf.rules []) w (f ∷ fs)) (script_walked script parts.0 serial step)
      ∙ all_walked drive_leaf 2 refl (rows_by serial step) (Some (codes "script", script ∷ [])) refl f fs parts.1

-- what the number of names is refused for
abbrev pub names_kinds : List Text → Kinds
names_kinds [] = files_kinds []
names_kinds (script ∷ files) = files_kinds files

level_by : (serial step : Bool) (names : List Text) → are_bare names ≡ true
    → level_fault drive_leaf [] nothing_held (flags_by serial step ++ names) false [] ≡ names_kinds names
level_by serial step [] bare = no_names serial step
level_by serial step (script ∷ []) bare =
    let parts = bare_parts script [] bare in
    ap₂ (λ k (w : Walk). or_else k (level_end drive_leaf w.held))
    (flags_fault (script ∷ []) serial step ∙ script_fault script parts.0 serial step [])
    (flags_walked (script ∷ []) serial step ∙ script_walked script parts.0 serial step)
    ∙ script_alone serial step script
level_by serial step (script ∷ f ∷ fs) bare =
    ap₂ (λ k (w : Walk). or_else k (level_end drive_leaf w.held)) (names_fault serial step script f fs bare)
    (names_walk serial step script f fs bare)
    ∙ files_end serial step script f fs
    ∙ ap (λ k. or_else (or_else (range_kinds 1 64 (length (f ∷ fs))) k) []) (values_none (f ∷ fs))
    ∙ or_none _ ∙ or_none _

pub drive_level : (way : Way) (names : List Text) → are_bare names ≡ true
    → level_fault drive_leaf [] nothing_held (way_flags way ++ names) false [] ≡ names_kinds names
drive_level way names bare = level_by way.serial way.step names bare

-- ---- the matches

abbrev pub drive_rows : Way → List Text → List Row
drive_rows way names = rows_after drive_leaf.rules [] (way_flags way ++ names)

-- they say what is asked for
abbrev Tell : Bool → Bool → Text → List Text → List Row → Type 0
Tell serial step script files rows =
    ((is_used (codes "serial") rows ≡ serial) × (is_used (codes "step") rows ≡ step))
    × (first_of (codes "script") rows ≡ Some script) × (all_of (codes "blocks") rows ≡ Some files)

said_by : (serial step : Bool) (script f : Text) (fs : List Text)
    → Tell serial step script (f ∷ fs) (finished drive_leaf.rules (files_held (script_rows serial step script) (f ∷ fs)))
said_by true true script f fs = ((refl, refl), refl, refl)
said_by true false script f fs = ((refl, refl), refl, refl)
said_by false true script f fs = ((refl, refl), refl, refl)
said_by false false script f fs = ((refl, refl), refl, refl)

pub drive_said : (way : Way) (script f : Text) (fs : List Text) → are_bare (script ∷ f ∷ fs) ≡ true
    → SayWay (drive_rows way (script ∷ f ∷ fs)) way × (first_of (codes "script") (drive_rows way (script ∷ f ∷ fs)) ≡ Some script)
    × (all_of (codes "blocks") (drive_rows way (script ∷ f ∷ fs)) ≡ Some (f ∷ fs))
drive_said way script f fs bare =
    subst (λ (w : Walk). Tell way.serial way.step script (f ∷ fs) (finished drive_leaf.rules w.held))
    (sym (names_walk way.serial way.step script f fs bare)) (said_by way.serial way.step script f fs)
