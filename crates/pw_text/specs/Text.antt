-- Texts as they are printed.
use Rattle.std.specs.Prelude.{ℕ, true, List, [], ◌∷◌, ◌++◌, replicate, codes, if◌then◌else◌}
use Rattle.std.specs.Fmt.{digits}
use Rattle.std.specs.List.{join_with_byte}
use Rattle.aml_data.specs.declared.path.Path.{Path}

-- Segments of four characters, joined by dots (NameSeg: ACPI 6.5, 20.2.2).
abbrev pub segments_text : List (List ℕ) → List ℕ
segments_text segs = join_with_byte 46 segs

-- A place in the namespace: a backslash and its segments. The root is the backslash alone.
abbrev pub place_text : List (List ℕ) → List ℕ
place_text segs = 92 ∷ segments_text segs

-- What stands before the segments of a path: a backslash for the root, or `^` for each step up.
abbrev pub path_prefix : Path → List ℕ
path_prefix path = if path.root then 92 ∷ [] else replicate path.ups 94

-- A path as it is written (NameString: ACPI 6.5, 20.2.2): what stands before the segments, and the segments.
abbrev pub path_text : Path → List ℕ
path_text path = path_prefix path ++ segments_text path.segs

-- Upper-case hexadecimal behind `0x`, without leading zeros.
abbrev pub hex_text : ℕ → List ℕ
hex_text n = codes "0x" ++ digits 16 true n
