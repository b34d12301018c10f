-- What the parts of reading words come to.
use Rattle.std.specs.Prelude.{◌≡◌, ◌⊎◌, ℕ, Bool, true, is_some, List, MatchResult, Result, codes, if◌then◌else◌}
use Rattle.clap.specs.Words.{Row, Text, all_of, first_of}
use Rattle.pw_words.specs.declared.command.Command.{Command}
use Rattle.pw_words.specs.declared.command.WordsFault.{WordsFault}
use Rattle.pw_words.specs.declared.command.WordsFault.TheVariants.{Refused}
use Rattle.pw_words.specs.Command.{asked_of}
use Rattle.pw_words.specs.Stated.{IsRefused}
use Rattle.pw_words.specs.Words.{AreMiscounted, AreStated, Say, is_bare, is_dashed, is_plain, moved}
use Rattle.pw_words.specs.Words.Asked.{generate}

-- which words are picked: those that begin with a hyphen, or the others
abbrev pub picks : Bool → Text → Bool
picks dashed word = if dashed then is_dashed word else is_bare word

-- the words as `clap` is given them
abbrev pub given : List Text → List Text
given words = if is_plain words then moved words else words

-- a subcommand for the blocks in files
abbrev pub IsOnBlocks : Text → Type 0
IsOnBlocks name = (name ≡ codes "show") ⊎ ((name ≡ codes "rewrite") ⊎ ((name ≡ codes "check") ⊎ (name ≡ codes "lint")))

-- the matches are those of a subcommand, and have its arguments
pub record CanSay (name : Text) (rows : List Row) : Type 0 where
  pub known : IsOnBlocks name ⊎ ((name ≡ codes "drive") ⊎ ((name ≡ codes "audit") ⊎ ((name ≡ codes "cppc") ⊎ (name ≡ codes "generate"))))
  pub blocks : (name ≡ codes "generate" → ⊥) → is_some (all_of (codes "blocks") rows) ≡ true
  pub script : name ≡ codes "drive" → is_some (first_of (codes "script") rows) ≡ true
  pub audited : name ≡ codes "audit" → is_some (first_of (codes "script") rows) ≡ true
  pub history : name ≡ codes "audit" → is_some (first_of (codes "history") rows) ≡ true
  pub performed : name ≡ codes "cppc" → is_some (first_of (codes "script") rows) ≡ true
  pub count : name ≡ codes "generate" → is_some (first_of (codes "count") rows) ≡ true

-- the matches are those of `generate`, and say no number of clusters
pub record IsUncounted (name : Text) (rows : List Row) : Type 0 where
  pub generates : name ≡ codes "generate"
  pub unsaid : (count : ℕ) → Say rows (generate count) → ⊥

-- The command is what `clap` states of the words, and they are refused only where it doesn't take them, or states no number of
-- clusters of them.
abbrev pub Reads : List Text → Result Command WordsFault → Type 0
Reads words r = MatchResult r (λ c. AreStated words (asked_of c)) (λ e. e ≡ Refused → IsRefused words ⊎ AreMiscounted words)
