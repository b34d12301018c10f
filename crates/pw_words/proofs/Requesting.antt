-- What `cppc` makes of the words behind it, where no name begins with a hyphen.
use Rattle.std.proofs.Common.{◌≡◌, ◌∙◌, ◌∷◌, ◌++◌, Bool, true, false, refl, sym, subst, ap, ap₂, List, [], length, codes, Some, None}
use Rattle.std.specs.Prelude.{fold}
use Rattle.clap.specs.Walk.{all_of, first_of, Held, Row, Text, Walk, nothing_held, rows_after, finished, settled_rows, walk, walk_from, walked}
use Rattle.clap.specs.Simple.{Shape}
use Rattle.clap.specs.Kinds.{or_else, range_kinds, values_kinds}
use Rattle.clap.specs.Faults.{level_fault, settle_fault, walk_fault}
use Rattle.clap.specs.declared.builder.value_parser.ValueParser.TheVariants as vp
use Rattle.clap.proofs.OnLiterals.{clap_on_literals}
use Rattle.pw_words.specs.App.{cppc_app}
use Rattle.pw_words.specs.Stated.{is_used}
use Rattle.pw_words.specs.Words.{are_bare, flag_words, is_dashed}
use Rattle.pw_words.proofs.Driving.{names_kinds}
use Rattle.pw_words.proofs.Kept.{level_end}
use Rattle.pw_words.proofs.Levels.{all_fault, all_walked, files_kinds, given_rows, leaf, or_none, values_none}
use Rattle.pw_words.proofs.Walked.{among_files, bare_parts, files_held, held, idle_at, word_turn, word_walked}

-- the subcommand as building leaves it
abbrev pub cppc_leaf : Shape
cppc_leaf = leaf (codes "cppc") cppc_app.top.rules

-- ---- the flag

abbrev pub serial_words : Bool → List Text
serial_words serial = flag_words (codes "--serial") serial

-- what it leaves
abbrev serial_rows : Bool → List Row
serial_rows serial = given_rows (codes "serial") serial

module _ (words : List Text) where
  flag_walked : (serial : Bool) → walk cppc_leaf.rules [] nothing_held (serial_words serial ++ words)
      ≡ fold (walked cppc_leaf.rules []) (idle_at 1 (held (serial_rows serial) None)) words
  unfolding clap_on_literals
  flag_walked true = refl
  flag_walked false = refl

  flag_fault : (serial : Bool) → walk_fault cppc_leaf [] (walk_from nothing_held) (serial_words serial ++ words)
      ≡ walk_fault cppc_leaf [] (idle_at 1 (held (serial_rows serial) None)) words
  unfolding clap_on_literals
  flag_fault true = refl
  flag_fault false = refl

no_names : (serial : Bool) → level_fault cppc_leaf [] nothing_held (serial_words serial ++ []) false [] ≡ files_kinds []
unfolding clap_on_literals
no_names true = refl
no_names false = refl

-- ---- the script

-- what is held at its name
abbrev script_held : Bool → Text → Held
script_held serial script = held (serial_rows serial) (Some (codes "script", script ∷ []))

-- what is held behind it
abbrev script_rows : Bool → Text → List Row
script_rows serial script = settled_rows cppc_leaf.rules (Some (codes "script", script ∷ [])) (serial_rows serial)

module _ (script : Text) (bare : is_dashed script ≡ false) where
  script_walked : (serial : Bool)
      → walked cppc_leaf.rules [] (idle_at 1 (held (serial_rows serial) None)) script ≡ idle_at 2 (script_held serial script)
  script_walked serial = word_walked cppc_leaf 1 (codes "script") refl (held (serial_rows serial) None) script bare refl

  script_fault : (serial : Bool) (words : List Text) → walk_fault cppc_leaf [] (idle_at 1 (held (serial_rows serial) None)) (script ∷ words)
      ≡ walk_fault cppc_leaf [] (idle_at 2 (script_held serial script)) words
  unfolding walk_fault
  script_fault serial words =
      ap₂ (λ k w. or_else k (walk_fault cppc_leaf [] w words))
      (word_turn cppc_leaf 1 (codes "script") refl (held (serial_rows serial) None) script bare refl) (script_walked serial)

script_settles : (serial : Bool) (script : Text) → settle_fault cppc_leaf.rules false (script_held serial script) ≡ []
script_settles true script = refl
script_settles false script = refl

script_alone : (serial : Bool) (script : Text)
    → or_else (walk_fault cppc_leaf [] (idle_at 2 (script_held serial script)) []) (level_end cppc_leaf (script_held serial script))
    ≡ files_kinds []
unfolding clap_on_literals
script_alone true script = refl
script_alone false script = refl

-- ---- the files behind it

files_end : (serial : Bool) (script f : Text) (fs : List Text)
    → level_end cppc_leaf (files_held (script_rows serial script) (f ∷ fs))
    ≡ or_else (or_else (range_kinds 1 64 (length (f ∷ fs))) (values_kinds false vp.String (f ∷ fs))) []
unfolding clap_on_literals
files_end true script f fs = refl
files_end false script f fs = refl

module _ (serial : Bool) (script f : Text) (fs : List Text) (bare : are_bare (script ∷ f ∷ fs) ≡ true) where
  names_fault : walk_fault cppc_leaf [] (walk_from nothing_held) (serial_words serial ++ script ∷ f ∷ fs) ≡ []
  names_fault =
      let parts = bare_parts script (f ∷ fs) bare in
      flag_fault (script ∷ f ∷ fs) serial ∙ script_fault script parts.0 serial (f ∷ fs)
      ∙ all_fault cppc_leaf 2 refl (serial_rows serial) (Some (codes "script", script ∷ [])) refl f fs parts.1
      ∙ script_settles serial script

  names_walk : walk cppc_leaf.rules [] nothing_held (serial_words serial ++ script ∷ f ∷ fs)
      ≡ among_files 2 (script_rows serial script) (f ∷ fs)
  names_walk =
      let parts = bare_parts script (f ∷ fs) bare in
      flag_walked (script ∷ f ∷ fs) serial
      ∙ ap (λ w. fold (walked cppc_leaf.rules []) w (f ∷ fs)) (script_walked script parts.0 serial)
      ∙ all_walked cppc_leaf 2 refl (serial_rows serial) (Some (codes "script", script ∷ [])) refl f fs parts.1

pub cppc_level : (serial : Bool) (names : List Text) → are_bare names ≡ true
    → level_fault cppc_leaf [] nothing_held (serial_words serial ++ names) false [] ≡ names_kinds names
cppc_level serial [] bare = no_names serial
cppc_level serial (script ∷ []) bare =
    let parts = bare_parts script [] bare in
    ap₂ (λ k (w : Walk). or_else k (level_end cppc_leaf w.held))
    (flag_fault (script ∷ []) serial ∙ script_fault script parts.0 serial [])
    (flag_walked (script ∷ []) serial ∙ script_walked script parts.0 serial)
    ∙ script_alone serial script
cppc_level serial (script ∷ f ∷ fs) bare =
    ap₂ (λ k (w : Walk). or_else k (level_end cppc_leaf w.held)) (names_fault serial script f fs bare)
    (names_walk serial script f fs bare)
    ∙ files_end serial script f fs
    ∙ ap (λ k. or_else (or_else (range_kinds 1 64 (length (f ∷ fs))) k) []) (values_none (f ∷ fs))
    ∙ or_none _ ∙ or_none _

-- ---- the matches

abbrev pub cppc_rows : Bool → List Text → List Row
cppc_rows serial names = rows_after cppc_leaf.rules [] (serial_words serial ++ names)

-- they say what is asked for
abbrev Tell : Bool → Text → List Text → List Row → Type 0
Tell serial script files rows =
    (is_used (codes "serial") rows ≡ serial) × (first_of (codes "script") rows ≡ Some script)
    × (all_of (codes "blocks") rows ≡ Some files)

said_by : (serial : Bool) (script f : Text) (fs : List Text)
    → Tell serial script (f ∷ fs) (finished cppc_leaf.rules (files_held (script_rows serial script) (f ∷ fs)))
said_by true script f fs = (refl, refl, refl)
said_by false script f fs = (refl, refl, refl)

pub cppc_said : (serial : Bool) (script f : Text) (fs : List Text) → are_bare (script ∷ f ∷ fs) ≡ true
    → Tell serial script (f ∷ fs) (cppc_rows serial (script ∷ f ∷ fs))
cppc_said serial script f fs bare =
    subst (λ (w : Walk). Tell serial script (f ∷ fs) (finished cppc_leaf.rules w.held))
    (sym (names_walk serial script f fs bare)) (said_by serial script f fs)
