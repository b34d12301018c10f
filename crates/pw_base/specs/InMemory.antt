-- Files and sinks in memory, as contracts see them.
use Rattle.std.specs.Prelude.{◌+◌, ◌-◌, ◌==◌, ◌&&◌, ◌||◌, ◌≢◌, ℕ, Bool, true, List, [], ◌∷◌, Option, None, Some}
use Rattle.std.specs.Prelude.{min, length, nat_lt, nat_le, is_none, AllPairs, if◌then◌else◌}
use Rattle.std.specs.List.{list_any}
use Rattle.std.specs.Str.{bytes_eq}

-- One file: its name and its bytes, and how many reads of it failed.
pub record FileHeld : Type 0 where
  pub name : List ℕ
  pub bytes : List ℕ
  pub faults : ℕ

-- Files in memory: which calls of read fail, counted from 1; the most bytes of one read; how many calls there were; and
-- how many reads failed because of a name that no file has.
pub record FilesHeld : Type 0 where
  pub files : List FileHeld
  pub fails : List ℕ
  pub piece : ℕ
  pub calls : ℕ
  pub absent : ℕ

-- A sink in memory: the bytes taken and how many it can take; which calls of write fail, counted from 1;
-- the most bytes of one write; and how many calls and failures there were.
pub record SinkHeld : Type 0 where
  pub written : List ℕ
  pub room : ℕ
  pub fails : List ℕ
  pub piece : ℕ
  pub calls : ℕ
  pub faults : ℕ

-- The value of a 64-bit counter after one more: it stands still at its last value.
abbrev pub next_count : ℕ → ℕ
next_count n = min (n + 1) 18446744073709551615

-- A call has a number of the list.
abbrev pub is_listed : List ℕ → ℕ → Bool
is_listed fails call = list_any (λ n. n == call) fails

-- No two files have one name.
abbrev pub NamesDiffer : List FileHeld → Type 0
NamesDiffer files = AllPairs (λ a b. a.name ≢ b.name) files

-- The content of the file of a name, if there is one.
abbrev pub content_of : List ℕ → List FileHeld → Option (List ℕ)
content_of name [] = None
content_of name (file ∷ files) = if bytes_eq file.name name then Some file.bytes else content_of name files

-- How many reads of a name failed: of its file, or where there is none, of all names that no file has.
abbrev pub count_of : List ℕ → ℕ → List FileHeld → ℕ
count_of name absent [] = absent
count_of name absent (file ∷ files) = if bytes_eq file.name name then file.faults else count_of name absent files

-- The files after a read of a name failed: the count of its file alone is one more.
abbrev pub counted : List ℕ → List FileHeld → List FileHeld
counted name [] = []
counted name (file ∷ files) =
    if bytes_eq file.name name then record file { faults = next_count file.faults } ∷ files else file ∷ counted name files

-- Files in memory tell what they hold.
abbrev pub tells : FilesHeld → Bool
tells _ = true

-- What the file of a name holds.
abbrev pub holds_in : FilesHeld → List ℕ → Option (List ℕ)
holds_in s name = content_of name s.files

-- How many reads of a name failed.
abbrev pub faults_of : FilesHeld → List ℕ → ℕ
faults_of s name = count_of name s.absent s.files

-- The next read of a file fails: its call is listed, or there is no file of this name.
abbrev pub read_fails : FilesHeld → List ℕ → Bool
read_fails s name = is_listed s.fails (next_count s.calls) || is_none (content_of name s.files)

-- How many bytes one read gives of a content from a place on.
abbrev pub read_count : ℕ → List ℕ → ℕ → List ℕ → ℕ
read_count piece content at buffer = min (min piece (length buffer)) (length content - at)

-- A sink in memory tells what it took.
abbrev pub sink_tells : SinkHeld → Bool
sink_tells _ = true

-- The bytes that it took.
abbrev pub written_in : SinkHeld → List ℕ
written_in s = s.written

-- How many writes failed.
abbrev pub sink_faults : SinkHeld → ℕ
sink_faults s = s.faults

-- The next write of a piece fails: its call is listed, or a byte is to be taken and there is no room.
abbrev pub write_fails : SinkHeld → List ℕ → Bool
write_fails s bytes = is_listed s.fails (next_count s.calls) || (nat_lt 0 (length bytes) && nat_le s.room (length s.written))

-- How many bytes the next write takes.
abbrev pub write_count : SinkHeld → List ℕ → ℕ
write_count s bytes = min (min s.piece (length bytes)) (s.room - length s.written)
