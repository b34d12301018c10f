-- Data objects as they are shown.
use Rattle.std.specs.Prelude.{ℕ, ◌/◌, ◌%◌, ◌==◌, ◌||◌, List, [], ◌∷◌, ◌++◌, map, codes, decimal, nat_lt, true, if◌then◌else◌}
use Rattle.std.specs.Fmt.{digit_glyph}
use Rattle.std.specs.List.{flat_map}
use Rattle.aml_data.specs.declared.data.Data.{Data, Data-F, fold-Data}
use Rattle.aml_data.specs.declared.data.Data.TheOpen as layer
use Rattle.pw_text.specs.Text.{path_text}

-- two upper-case hexadecimal digits
abbrev pub byte_digits : ℕ → List ℕ
byte_digits byte = digit_glyph true (byte / 16) ∷ digit_glyph true (byte % 16) ∷ []

-- A byte of a string: a quote or a backslash stands behind a backslash, and a control character is `\x` and its digits.
abbrev pub escaped : ℕ → List ℕ
escaped byte =
    if byte == 34 || byte == 92 then 92 ∷ byte ∷ []
    else (if nat_lt byte 32 || byte == 127 then 92 ∷ 120 ∷ byte_digits byte else byte ∷ [])

-- a text behind a separator
abbrev pub behind : List ℕ → List ℕ → List ℕ
behind separator text = separator ++ text

-- texts with a separator between them
abbrev pub separated : List ℕ → List (List ℕ) → List ℕ
separated separator [] = []
separated separator (text ∷ texts) = text ++ flat_map (behind separator) texts

-- a word, a count in parentheses and what stands in braces
abbrev pub braced : List ℕ → ℕ → List ℕ → List ℕ
braced word count inside = word ++ decimal count ++ codes ") {" ++ inside ++ codes "}"

-- one layer of an object, whose elements are shown already
abbrev pub value_layer : Data-F (List ℕ) → List ℕ
value_layer (layer.Int n) = decimal n
value_layer layer.Ones = codes "Ones"
value_layer layer.Revision = codes "Revision"
value_layer (layer.Text text) = codes "\"" ++ flat_map escaped text ++ codes "\""
value_layer (layer.Buffer buffer) = braced (codes "Buffer(") buffer.size (separated (codes " ") (map byte_digits buffer.bytes))
value_layer (layer.Package count elements) = braced (codes "Package(") count (separated (codes ", ") elements)
value_layer (layer.VarPackage counted) = braced (codes "VarPackage(") counted.count (separated (codes ", ") counted.elements)
value_layer (layer.Path path) = path_text path

-- an object
unfoldable pub value_text : Data → List ℕ
value_text = fold-Data (List ℕ) value_layer
