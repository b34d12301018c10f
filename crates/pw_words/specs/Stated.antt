-- What `clap` states of words.
use Rattle.std.specs.Prelude.{◌≡◌, Bool, true, false, find, List, [], Option, Some, option_and_then}
use Rattle.std.specs.Str.{bytes_eq}
use Rattle.clap.specs.declared.parser.matches.ValueSource.{ValueSource}
use Rattle.clap.specs.declared.parser.matches.ValueSource.TheVariants.{CommandLine}
use Rattle.clap.specs.Words.{Row, Text, subcommand_of}
use Rattle.clap.specs.Faults.{fault_of}
use Rattle.clap.specs.Takes.{takes}
use Rattle.pw_words.specs.App.{line_app}

-- `clap` takes the words as they are: it has no error for them
abbrev pub IsTaken : List Text → Type 0
IsTaken words = fault_of line_app words ≡ []

-- It doesn't: it has an error for them, and doesn't state that it takes them.
pub record IsRefused (words : List Text) : Type 0 where
  pub untaken : IsTaken words → ⊥
  pub unstated : takes line_app words ≡ true → ⊥

-- the words of the command line gave the argument, and no default did
abbrev pub from_words : Option ValueSource → Bool
from_words (Some CommandLine) = true
from_words _ = false

abbrev pub source_of : Text → List Row → Option ValueSource
source_of id rows = option_and_then (λ r. r.source) (find (λ r. bytes_eq r.id id) rows)

-- the matches say that the flag was given
abbrev pub is_used : Text → List Row → Bool
is_used id rows = from_words (source_of id rows)

-- it enters the subcommand of this name, with these matches
abbrev pub Enters : List Text → Text → List Row → Type 0
Enters words name rows = subcommand_of line_app words ≡ Some (name, rows)
