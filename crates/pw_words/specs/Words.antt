-- The words of a command line, without the program's name, and what they ask for.
use Rattle.std.specs.Prelude.{◌≡◌, ◌≤◌, ◌==◌, ◌&&◌, ◌⊎◌, ◌+◌, ◌/◌, ◌%◌, ℕ, Bool, true, false, not, String, decimal}
use Rattle.std.specs.Prelude.{List, [], ◌∷◌, ◌++◌, length, map, Some, codes, if◌then◌else◌}
use Rattle.std.specs.List.{filter, list_any}
use Rattle.std.specs.Str.{bytes_eq}
use Rattle.std.specs.String.{string_bytes}
use Rattle.std.specs.declared.alloc.Global.{Global}
use Rattle.clap.specs.Words.{Row, Text, all_of, first_of}
use Rattle.pw_words.specs.Stated.{Enters, IsTaken, is_used}
use Rattle.pw_words.specs.declared.command.Review.{Review}
use Rattle.pw_words.specs.declared.command.Task.{Task}
use Rattle.pw_words.specs.declared.command.Task.TheVariants.{Show, ShowAsJson, Rewrite, Check, Lint}
use Rattle.pw_words.specs.declared.command.Way.{Way}

-- the bytes of each word
abbrev pub texts : List (String Global) → List Text
texts words = map string_bytes words

-- what is asked for
pub data Asked : Type 0 where
  -- a task, of the blocks in the files of these names
  on_blocks : Task → List Text → Asked
  -- a script run in this way: the name of its file, and those of the blocks' files
  drive : Way → Text → List Text → Asked
  -- a history or a trace checked in this way against a script and blocks: the names of their files, the script's first
  audit : Review → Text → Text → List Text → Asked
  -- a script of requests for performance run, with `--serial` or without: the name of its file, and those of the blocks' files
  cppc : Bool → Text → List Text → Asked
  -- a machine of so many clusters and a load for it, driven
  generate : ℕ → Asked

-- # The table of commands

-- the word that names the task's command
abbrev pub task_name : Task → Text
task_name Show = codes "show"
task_name ShowAsJson = codes "show"
task_name Rewrite = codes "rewrite"
task_name Check = codes "check"
task_name Lint = codes "lint"

-- the flag that tells the task from others of its command
abbrev pub task_flags : Task → List Text
task_flags ShowAsJson = codes "--json" ∷ []
task_flags _ = []

-- a flag where it is given
abbrev pub flag_words : Text → Bool → List Text
flag_words flag given = if given then flag ∷ [] else []

-- the flags that tell the way in which a script is run
abbrev pub way_flags : Way → List Text
way_flags way = flag_words (codes "--serial") way.serial ++ flag_words (codes "--step") way.step

-- those that tell how a text is audited
abbrev pub review_flags : Review → List Text
review_flags review =
    flag_words (codes "--step") review.step ++ flag_words (codes "--trace") review.trace ++ flag_words (codes "--cppc") review.cppc

-- a word that begins with a hyphen, the byte 45
abbrev pub is_dashed : Text → Bool
is_dashed [] = false
is_dashed (c ∷ rest) = c == 45

abbrev pub is_bare : Text → Bool
is_bare word = not (is_dashed word)

-- no word begins with a hyphen
abbrev pub are_bare : List Text → Bool
are_bare [] = true
are_bare (word ∷ rest) = if is_dashed word then false else are_bare rest

-- 1 to 64 names of files, of which none begins with a hyphen
pub record AreFiles (files : List Text) : Type 0 where
  pub bare : are_bare files ≡ true
  pub some : 1 ≤ length files
  pub few : length files ≤ 64

-- The word is a number of clusters, from 1 to 32: in decimal, or in two digits, of which the first may be 0.
pub record IsCount (word : Text) (count : ℕ) : Type 0 where
  pub digits : (word ≡ decimal count) ⊎ (word ≡ (48 + count / 10) ∷ (48 + count % 10) ∷ [])
  pub some : 1 ≤ count
  pub few : count ≤ 32

-- The words are a line of the table: `show BLOCK..`, `show --json BLOCK..`, `rewrite BLOCK..`, `check BLOCK..`, `lint BLOCK..`,
-- `drive [--serial] [--step] SCRIPT BLOCK..`, `audit [--step] [--trace] [--cppc] SCRIPT HISTORY BLOCK..`,
-- `cppc [--serial] SCRIPT BLOCK..`, `generate N`.
abbrev pub IsLine : List Text → Asked → Type 0
IsLine words (on_blocks task blocks) = (words ≡ task_name task ∷ task_flags task ++ blocks) × AreFiles blocks
IsLine words (drive way script blocks) =
    (words ≡ codes "drive" ∷ way_flags way ++ script ∷ blocks) × (is_dashed script ≡ false) × AreFiles blocks
IsLine words (audit review script history blocks) =
    (words ≡ codes "audit" ∷ review_flags review ++ script ∷ history ∷ blocks) × (is_dashed script ≡ false)
    × (is_dashed history ≡ false) × AreFiles blocks
IsLine words (cppc serial script blocks) =
    (words ≡ codes "cppc" ∷ flag_words (codes "--serial") serial ++ script ∷ blocks) × (is_dashed script ≡ false) × AreFiles blocks
IsLine words (generate count) = (word : Text) × (words ≡ codes "generate" ∷ word ∷ []) × IsCount word count

-- # Plain words: those whose flags may stand anywhere behind the first word

-- the flags of the command that the word names, in the order of its line of the table
abbrev pub flags_of : Text → List Text
flags_of word = if bytes_eq word (codes "show") then codes "--json" ∷ []
    else (if bytes_eq word (codes "drive") then codes "--serial" ∷ codes "--step" ∷ []
    else (if bytes_eq word (codes "audit") then codes "--step" ∷ codes "--trace" ∷ codes "--cppc" ∷ []
    else (if bytes_eq word (codes "cppc") then codes "--serial" ∷ [] else [])))

-- the word is one of these
abbrev pub is_among : List Text → Text → Bool
is_among words word = list_any (λ w. bytes_eq w word) words

-- each of these is a flag of the command, and is there once
abbrev pub are_flags_of : Text → List Text → Bool
are_flags_of word [] = true
are_flags_of word (flag ∷ rest) = is_among (flags_of word) flag && (not (is_among rest flag) && are_flags_of word rest)

-- The first word doesn't begin with a hyphen, and each further word that does is a flag of its command, which is there once.
abbrev pub is_plain : List Text → Bool
is_plain [] = true
is_plain (word ∷ rest) = is_bare word && are_flags_of word (filter is_dashed rest)

-- these flags of the command in the order of its line of the table
abbrev pub in_table_order : Text → List Text → List Text
in_table_order word flags = filter (is_among flags) (flags_of word)

-- plain words with their flags moved behind the first
abbrev pub moved : List Text → List Text
moved [] = []
moved (word ∷ rest) = word ∷ in_table_order word (filter is_dashed rest) ++ filter is_bare rest

-- # Other words

-- the matches say whether the flag was given that tells the task from others of its command
abbrev pub SayTask : List Row → Task → Type 0
SayTask rows Show = is_used (codes "json") rows ≡ false
SayTask rows ShowAsJson = is_used (codes "json") rows ≡ true
SayTask rows _ = Unit {0}

-- the matches say which of the flags were given that tell the way
abbrev pub SayWay : List Row → Way → Type 0
SayWay rows way = (is_used (codes "serial") rows ≡ way.serial) × (is_used (codes "step") rows ≡ way.step)

-- the matches say whether each of the flags was given that tell how a text is audited
abbrev pub SayReview : List Row → Review → Type 0
SayReview rows review = (is_used (codes "step") rows ≡ review.step) × (is_used (codes "trace") rows ≡ review.trace)
    × (is_used (codes "cppc") rows ≡ review.cppc)

-- the subcommand by which it is asked for
abbrev pub command_name : Asked → Text
command_name (on_blocks task blocks) = task_name task
command_name (drive way script blocks) = codes "drive"
command_name (audit review script history blocks) = codes "audit"
command_name (cppc serial script blocks) = codes "cppc"
command_name (generate count) = codes "generate"

-- The matches of the subcommand have what is asked for: the task, the way, the review or whether `--serial` was given, and the names of
-- the files; or the number of clusters.
abbrev pub Say : List Row → Asked → Type 0
Say rows (on_blocks task blocks) = SayTask rows task × (all_of (codes "blocks") rows ≡ Some blocks)
Say rows (drive way script blocks) =
    SayWay rows way × (first_of (codes "script") rows ≡ Some script) × (all_of (codes "blocks") rows ≡ Some blocks)
Say rows (audit review script history blocks) =
    SayReview rows review × (first_of (codes "script") rows ≡ Some script)
    × (first_of (codes "history") rows ≡ Some history) × (all_of (codes "blocks") rows ≡ Some blocks)
Say rows (cppc serial script blocks) =
    (is_used (codes "serial") rows ≡ serial) × (first_of (codes "script") rows ≡ Some script)
    × (all_of (codes "blocks") rows ≡ Some blocks)
Say rows (generate count) = (word : Text) × (first_of (codes "count") rows ≡ Some word) × IsCount word count

-- `clap` takes the words, and states this of them: the subcommand, its flags and its arguments.
pub record AreStated (words : List Text) (asked : Asked) : Type 0 where
  pub rows : List Row
  pub taken : IsTaken words
  pub command : Enters words (command_name asked) rows
  pub said : Say rows asked

-- `clap` takes the words, and states of them that they ask for `generate`, but of no number of clusters.
pub record AreMiscounted (words : List Text) : Type 0 where
  pub rows : List Row
  pub taken : IsTaken words
  pub command : Enters words (codes "generate") rows
  pub unsaid : (count : ℕ) → Say rows (generate count) → ⊥

-- # What words ask for

-- Plain words ask for what their line of the table does, once their flags are moved behind the first word. Other words ask for
-- what `clap` states of them.
pub record AskFor (words : List Text) (asked : Asked) : Type 0 where
  pub plain : is_plain words ≡ true → IsLine (moved words) asked
  pub other : is_plain words ≡ false → AreStated words asked

-- the words are a command
abbrev pub IsCommand : List Text → Type 0
IsCommand words = (asked : Asked) × AskFor words asked
