-- What `audit` makes of the words behind it, where no name begins with a hyphen.
use Rattle.std.proofs.Common.{◌≡◌, ◌∙◌, ◌∷◌, ◌++◌, Bool, true, false, refl, sym, subst, ap, ap₂, List, [], length, codes, Some, None}
use Rattle.std.specs.Prelude.{fold}
use Rattle.clap.specs.Walk.{all_of, first_of, Held, Row, Text, Walk, nothing_held, rows_after, finished, settled_rows, walk, walk_from, walked}
use Rattle.clap.specs.Simple.{Shape}
use Rattle.clap.specs.Kinds.{Kinds, or_else, range_kinds, values_kinds}
use Rattle.clap.specs.Faults.{level_fault, settle_fault, walk_fault}
use Rattle.clap.specs.declared.builder.value_parser.ValueParser.TheVariants as vp
use Rattle.clap.proofs.OnLiterals.{clap_on_literals}
use Rattle.pw_words.specs.declared.command.Review.{Review}
use Rattle.pw_words.specs.App.{audit_app}
use Rattle.pw_words.specs.Stated.{is_used}
use Rattle.pw_words.specs.Words.{are_bare, flag_words, is_dashed, review_flags}
use Rattle.pw_words.proofs.Kept.{level_end}
use Rattle.pw_words.proofs.Levels.{all_fault, all_walked, files_kinds, given_rows, leaf, or_none, values_none}
use Rattle.pw_words.proofs.Walked.{among_files, bare_parts, files_held, held, idle_at, word_turn, word_walked}

-- the subcommand as building leaves it
abbrev pub audit_leaf : Shape
audit_leaf = leaf (codes "audit") audit_app.top.rules

-- ---- the flags

-- those of a review, by whether each is given
abbrev pub flags_by : Bool → Bool → Bool → List Text
flags_by step trace cppc = flag_words (codes "--step") step ++ flag_words (codes "--trace") trace ++ flag_words (codes "--cppc") cppc

-- what they leave
abbrev rows_by : Bool → Bool → Bool → List Row
rows_by step trace cppc = given_rows (codes "step") step ++ given_rows (codes "trace") trace ++ given_rows (codes "cppc") cppc

module _ (words : List Text) where
  flags_walked : (step trace cppc : Bool) → walk audit_leaf.rules [] nothing_held (flags_by step trace cppc ++ words)
      ≡ fold (walked audit_leaf.rules []) (idle_at 1 (held (rows_by step trace cppc) None)) words
  unfolding clap_on_literals
  flags_walked true true true = refl
  flags_walked true false true = refl
  flags_walked false true true = refl
  flags_walked false false true = refl
  flags_walked _ _ _ = refl

  flags_fault : (step trace cppc : Bool) → walk_fault audit_leaf [] (walk_from nothing_held) (flags_by step trace cppc ++ words)
      ≡ walk_fault audit_leaf [] (idle_at 1 (held (rows_by step trace cppc) None)) words
  unfolding clap_on_literals
  flags_fault true true true = refl
  flags_fault true false true = refl
  flags_fault false true true = refl
  flags_fault false false true = refl
  flags_fault _ _ _ = refl

no_names : (step trace cppc : Bool) → level_fault audit_leaf [] nothing_held (flags_by step trace cppc ++ []) false [] ≡ files_kinds []
unfolding clap_on_literals
no_names true true true = refl
no_names true false true = refl
no_names false true true = refl
no_names false false true = refl
no_names _ _ _ = refl

-- ---- the script

-- what is held at its name
abbrev script_held : Bool → Bool → Bool → Text → Held
script_held step trace cppc script = held (rows_by step trace cppc) (Some (codes "script", script ∷ []))

-- what is held behind it
abbrev script_rows : Bool → Bool → Bool → Text → List Row
script_rows step trace cppc script = settled_rows audit_leaf.rules (Some (codes "script", script ∷ [])) (rows_by step trace cppc)

module _ (script : Text) (bare : is_dashed script ≡ false) where
  script_walked : (step trace cppc : Bool)
      → walked audit_leaf.rules [] (idle_at 1 (held (rows_by step trace cppc) None)) script ≡ idle_at 2 (script_held step trace cppc script)
  script_walked step trace cppc = word_walked audit_leaf 1 (codes "script") refl (held (rows_by step trace cppc) None) script bare refl

  script_fault : (step trace cppc : Bool) (words : List Text) → walk_fault audit_leaf [] (idle_at 1 (held (rows_by step trace cppc) None)) (script ∷ words)
      ≡ walk_fault audit_leaf [] (idle_at 2 (script_held step trace cppc script)) words
  unfolding walk_fault
  script_fault step trace cppc words =
      ap₂ (λ k w. or_else k (walk_fault audit_leaf [] w words))
      (word_turn audit_leaf 1 (codes "script") refl (held (rows_by step trace cppc) None) script bare refl) (script_walked step trace cppc)

script_settles : (step trace cppc : Bool) (script : Text) → settle_fault audit_leaf.rules false (script_held step trace cppc script) ≡ []
script_settles true true true script = refl
script_settles true false true script = refl
script_settles false true true script = refl
script_settles false false true script = refl
script_settles _ _ _ script = refl

script_alone : (step trace cppc : Bool) (script : Text)
    → or_else (walk_fault audit_leaf [] (idle_at 2 (script_held step trace cppc script)) []) (level_end audit_leaf (script_held step trace cppc script))
    ≡ files_kinds []
unfolding clap_on_literals
script_alone true true true script = refl
script_alone true false true script = refl
script_alone false true true script = refl
script_alone false false true script = refl
script_alone _ _ _ script = refl

-- ---- the history

-- what is held at its name
abbrev history_held : Bool → Bool → Bool → Text → Text → Held
history_held step trace cppc script history = held (script_rows step trace cppc script) (Some (codes "history", history ∷ []))

-- what is held behind it
abbrev history_rows : Bool → Bool → Bool → Text → Text → List Row
history_rows step trace cppc script history = settled_rows audit_leaf.rules (Some (codes "history", history ∷ [])) (script_rows step trace cppc script)

module _ (step trace cppc : Bool) (script history : Text) (bare : is_dashed history ≡ false) where
  history_walked : walked audit_leaf.rules [] (idle_at 2 (script_held step trace cppc script)) history ≡ idle_at 3 (history_held step trace cppc script history)
  history_walked = word_walked audit_leaf 2 (codes "history") refl (script_held step trace cppc script) history bare refl

  history_fault : (words : List Text) → walk_fault audit_leaf [] (idle_at 2 (script_held step trace cppc script)) (history ∷ words)
      ≡ walk_fault audit_leaf [] (idle_at 3 (history_held step trace cppc script history)) words
  unfolding walk_fault
  history_fault words =
      ap₂ (λ k w. or_else k (walk_fault audit_leaf [] w words))
      (word_turn audit_leaf 2 (codes "history") refl (script_held step trace cppc script) history bare refl ∙ script_settles step trace cppc script)
      history_walked

history_settles : (step trace cppc : Bool) (script history : Text)
    → settle_fault audit_leaf.rules false (history_held step trace cppc script history) ≡ []
history_settles true true true script history = refl
history_settles true false true script history = refl
history_settles false true true script history = refl
history_settles false false true script history = refl
history_settles _ _ _ script history = refl

history_alone : (step trace cppc : Bool) (script history : Text)
    → or_else (walk_fault audit_leaf [] (idle_at 3 (history_held step trace cppc script history)) [])
    (level_end audit_leaf (history_held step trace cppc script history)) ≡ files_kinds []
unfolding clap_on_literals
history_alone true true true script history = refl
history_alone true false true script history = refl
history_alone false true true script history = refl
history_alone false false true script history = refl
history_alone _ _ _ script history = refl

-- both names behind the flags
module _ (step trace cppc : Bool) (script history : Text) (first : is_dashed script ≡ false) (second : is_dashed history ≡ false) where
  both_fault : (words : List Text) → walk_fault audit_leaf [] (walk_from nothing_held) (flags_by step trace cppc ++ script ∷ history ∷ words)
      ≡ walk_fault audit_leaf [] (idle_at 3 (history_held step trace cppc script history)) words
  both_fault words =
      flags_fault (script ∷ history ∷ words) step trace cppc ∙ script_fault script first step trace cppc (history ∷ words)
      ∙ history_fault step trace cppc script history second words

  both_walk : (words : List Text) → walk audit_leaf.rules [] nothing_held (flags_by step trace cppc ++ script ∷ history ∷ words)
      ≡ fold (walked audit_leaf.rules []) (idle_at 3 (history_held step trace cppc script history)) words
  both_walk words =
      flags_walked (script ∷ history ∷ words) step trace cppc
      ∙ ap (λ w. fold (walked audit_leaf.rules []) w (history ∷ words)) (script_walked script first step trace cppc)
      ∙ ap (λ w. fold (walked audit_leaf.rules []) w words) (history_walked step trace cppc script history second)

-- ---- the files behind them

files_end : (step trace cppc : Bool) (script history f : Text) (fs : List Text)
    → level_end audit_leaf (files_held (history_rows step trace cppc script history) (f ∷ fs))
    ≡ or_else (or_else (range_kinds 1 64 (length (f ∷ fs))) (values_kinds false vp.String (f ∷ fs))) []
unfolding clap_on_literals
files_end true true true script history f fs = refl
files_end true false true script history f fs = refl
files_end false true true script history f fs = refl
files_end false false true script history f fs = refl
files_end _ _ _ script history f fs = refl

module _ (step trace cppc : Bool) (script history f : Text) (fs : List Text) (bare : are_bare (script ∷ history ∷ f ∷ fs) ≡ true) where
  names_fault : walk_fault audit_leaf [] (walk_from nothing_held) (flags_by step trace cppc ++ script ∷ history ∷ f ∷ fs) ≡ []
  names_fault =
      let one = bare_parts script (history ∷ f ∷ fs) bare in
      let two = bare_parts history (f ∷ fs) one.1 in
      both_fault step trace cppc script history one.0 two.0 (f ∷ fs)
      ∙ all_fault audit_leaf 3 refl (script_rows step trace cppc script) (Some (codes "history", history ∷ [])) refl f fs two.1
      ∙ history_settles step trace cppc script history

  names_walk : walk audit_leaf.rules [] nothing_held (flags_by step trace cppc ++ script ∷ history ∷ f ∷ fs)
      ≡ among_files 3 (history_rows step trace cppc script history) (f ∷ fs)
  names_walk =
      let one = bare_parts script (history ∷ f ∷ fs) bare in
      let two = bare_parts history (f ∷ fs) one.1 in
      both_walk step trace cppc script history one.0 two.0 (f ∷ fs)
      ∙ all_walked audit_leaf 3 refl (script_rows step trace cppc script) (Some (codes "history", history ∷ [])) refl f fs two.1

-- what the number of names is refused for
abbrev pub audited_kinds : List Text → Kinds
audited_kinds [] = files_kinds []
audited_kinds (script ∷ []) = files_kinds []
audited_kinds (script ∷ history ∷ files) = files_kinds files

level_by : (step trace cppc : Bool) (names : List Text) → are_bare names ≡ true
    → level_fault audit_leaf [] nothing_held (flags_by step trace cppc ++ names) false [] ≡ audited_kinds names
level_by step trace cppc [] bare = no_names step trace cppc
level_by step trace cppc (script ∷ []) bare =
    let one = bare_parts script [] bare in
    ap₂ (λ k (w : Walk). or_else k (level_end audit_leaf w.held))
    (flags_fault (script ∷ []) step trace cppc ∙ script_fault script one.0 step trace cppc [])
    (flags_walked (script ∷ []) step trace cppc ∙ script_walked script one.0 step trace cppc)
    ∙ script_alone step trace cppc script
level_by step trace cppc (script ∷ history ∷ []) bare =
    let one = bare_parts script (history ∷ []) bare in
    let two = bare_parts history [] one.1 in
    ap₂ (λ k (w : Walk). or_else k (level_end audit_leaf w.held))
    (both_fault step trace cppc script history one.0 two.0 []) (both_walk step trace cppc script history one.0 two.0 [])
    ∙ history_alone step trace cppc script history
level_by step trace cppc (script ∷ history ∷ f ∷ fs) bare =
    ap₂ (λ k (w : Walk). or_else k (level_end audit_leaf w.held)) (names_fault step trace cppc script history f fs bare)
    (names_walk step trace cppc script history f fs bare)
    ∙ files_end step trace cppc script history f fs
    ∙ ap (λ k. or_else (or_else (range_kinds 1 64 (length (f ∷ fs))) k) []) (values_none (f ∷ fs))
    ∙ or_none _ ∙ or_none _

pub audit_level : (review : Review) (names : List Text) → are_bare names ≡ true
    → level_fault audit_leaf [] nothing_held (review_flags review ++ names) false [] ≡ audited_kinds names
audit_level review names bare = level_by review.step review.trace review.cppc names bare

-- ---- the matches

abbrev pub audit_rows : Review → List Text → List Row
audit_rows review names = rows_after audit_leaf.rules [] (review_flags review ++ names)

-- they say what is asked for
abbrev Tell : Bool → Bool → Bool → Text → Text → List Text → List Row → Type 0
Tell step trace cppc script history files rows =
    ((is_used (codes "step") rows ≡ step) × (is_used (codes "trace") rows ≡ trace) × (is_used (codes "cppc") rows ≡ cppc)) × (first_of (codes "script") rows ≡ Some script)
    × (first_of (codes "history") rows ≡ Some history) × (all_of (codes "blocks") rows ≡ Some files)

said_by : (step trace cppc : Bool) (script history f : Text) (fs : List Text)
    → Tell step trace cppc script history (f ∷ fs) (finished audit_leaf.rules (files_held (history_rows step trace cppc script history) (f ∷ fs)))
said_by true true true script history f fs = ((refl, refl, refl), refl, refl, refl)
said_by true false true script history f fs = ((refl, refl, refl), refl, refl, refl)
said_by false true true script history f fs = ((refl, refl, refl), refl, refl, refl)
said_by false false true script history f fs = ((refl, refl, refl), refl, refl, refl)
said_by _ _ _ script history f fs = ((refl, refl, refl), refl, refl, refl)

pub audit_said : (review : Review) (script history f : Text) (fs : List Text) → are_bare (script ∷ history ∷ f ∷ fs) ≡ true
    → Tell review.step review.trace review.cppc script history (f ∷ fs) (audit_rows review (script ∷ history ∷ f ∷ fs))
audit_said review script history f fs bare =
    subst (λ (w : Walk). Tell review.step review.trace review.cppc script history (f ∷ fs) (finished audit_leaf.rules w.held))
    (sym (names_walk review.step review.trace review.cppc script history f fs bare)) (said_by review.step review.trace review.cppc script history f fs)
