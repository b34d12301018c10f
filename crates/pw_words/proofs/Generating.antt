-- What `generate` makes of the words behind it, where none begins with a hyphen.
use Rattle.std.proofs.Common.{◌≡◌, ◌∙◌, ◌∷◌, true, false, refl, ap, ap₂, List, [], codes, Some, None}
use Rattle.clap.specs.Walk.{first_of, Held, Row, Text, Walk, finished, nothing_held, rows_after, walked}
use Rattle.clap.specs.Simple.{Shape}
use Rattle.clap.specs.Kinds.{Kinds, or_else}
use Rattle.clap.specs.Faults.{level_fault, walk_fault}
use Rattle.clap.specs.declared.error.kind.ErrorKind.TheVariants as kind
use Rattle.clap.proofs.OnLiterals.{clap_on_literals}
use Rattle.pw_words.specs.App.{generate_app}
use Rattle.pw_words.specs.Words.{are_bare, is_dashed}
use Rattle.pw_words.proofs.Kept.{end_of, level_end}
use Rattle.pw_words.proofs.Levels.{leaf}
use Rattle.pw_words.proofs.Walked.{bare_parts, bare_turn, held, idle_at, word_turn, word_walked}

-- the subcommand as building leaves it
abbrev pub generate_leaf : Shape
generate_leaf = leaf (codes "generate") generate_app.top.rules

-- what is held at the number
abbrev count_held : Text → Held
count_held word = held [] (Some (codes "count", word ∷ []))

module _ (word : Text) (bare : is_dashed word ≡ false) where
  count_walked : walked generate_leaf.rules [] (idle_at 1 (held [] None)) word ≡ idle_at 2 (count_held word)
  count_walked = word_walked generate_leaf 1 (codes "count") refl (held [] None) word bare refl

  count_fault : (words : List Text) → walk_fault generate_leaf [] (idle_at 1 (held [] None)) (word ∷ words)
      ≡ walk_fault generate_leaf [] (idle_at 2 (count_held word)) words
  unfolding walk_fault
  count_fault words =
      ap₂ (λ k w. or_else k (walk_fault generate_leaf [] w words))
      (word_turn generate_leaf 1 (codes "count") refl (held [] None) word bare refl) count_walked

count_alone : (word : Text)
    → or_else (walk_fault generate_leaf [] (idle_at 2 (count_held word)) []) (level_end generate_leaf (count_held word)) ≡ []
unfolding clap_on_literals
count_alone word = refl

-- a second word is refused
second_fault : (word w : Text) (ws : List Text) → is_dashed w ≡ false
    → walk_fault generate_leaf [] (idle_at 2 (count_held word)) (w ∷ ws) ≡ kind.UnknownArgument ∷ []
unfolding walk_fault
second_fault word w ws bare =
    ap (λ k. or_else k (walk_fault generate_leaf [] (walked generate_leaf.rules [] (idle_at 2 (count_held word)) w) ws))
    (bare_turn generate_leaf 2 (idle_at 2 (count_held word)) w refl refl refl refl bare)

-- what the number of words is refused for
abbrev pub count_kinds : List Text → Kinds
count_kinds [] = kind.MissingRequiredArgument ∷ []
count_kinds (word ∷ []) = []
count_kinds (word ∷ w ∷ ws) = kind.UnknownArgument ∷ []

none_level : level_fault generate_leaf [] nothing_held [] false [] ≡ kind.MissingRequiredArgument ∷ []
unfolding clap_on_literals
none_level = refl

pub generate_level : (words : List Text) → are_bare words ≡ true
    → level_fault generate_leaf [] nothing_held words false [] ≡ count_kinds words
generate_level [] bare = none_level
generate_level (word ∷ []) bare =
    let parts = bare_parts word [] bare in
    ap₂ (λ k (w : Walk). or_else k (level_end generate_leaf w.held)) (count_fault word parts.0 []) (count_walked word parts.0)
    ∙ count_alone word
generate_level (word ∷ w ∷ ws) bare =
    let parts = bare_parts word (w ∷ ws) bare in
    ap (λ k. or_else k (level_end generate_leaf (end_of generate_leaf (word ∷ w ∷ ws))))
    (count_fault word parts.0 (w ∷ ws) ∙ second_fault word w ws (bare_parts w ws parts.1).0)

-- the matches
abbrev pub generate_rows : Text → List Row
generate_rows word = rows_after generate_leaf.rules [] (word ∷ [])

pub generate_said : (word : Text) → is_dashed word ≡ false → first_of (codes "count") (generate_rows word) ≡ Some word
generate_said word bare = ap (λ (w : Walk). first_of (codes "count") (finished generate_leaf.rules w.held)) (count_walked word bare)
