-- Lines of words.
use Rattle.std.specs.Prelude.{ℕ, List, [], ◌∷◌, ◌++◌}
use Rattle.std.specs.List.{flat_map, join_with_byte}

-- words with a space between each two
abbrev pub spaced : List (List ℕ) → List ℕ
spaced words = join_with_byte 32 words

-- a line with its line feed
abbrev pub with_feed : List ℕ → List ℕ
with_feed l = l ++ 10 ∷ []

-- The line of words, with its line feed.
unfoldable pub line_of : List (List ℕ) → List ℕ
line_of words = with_feed (spaced words)

-- Lines one after the other, each with its line feed.
abbrev pub text_of : List (List ℕ) → List ℕ
text_of lines = flat_map with_feed lines
