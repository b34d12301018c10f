-- Parts of texts that are put at once.
use Rattle.std.specs.Prelude.{ℕ, Bool, ◌&&◌, List, ◌∷◌, ◌++◌, codes, decimal, encode_utf8, nat_le, nat_lt}
use Rattle.json.specs.Print.{escape}
use Rattle.serde_json.specs.Data.{string}
use Rattle.serde_json.specs.Written.{compact_text}
use Rattle.acpi_space.specs.Places.{Place}
use Rattle.pw_text.specs.Text.{place_text}
use Rattle.pw_show.specs.Json.{Told, element_json}
use Rattle.pw_show.specs.Values.{behind, byte_digits}

-- a byte of a buffer behind the space before it
abbrev pub spaced_byte : ℕ → List ℕ
spaced_byte byte = behind (codes " ") (byte_digits byte)

-- the same as a number behind a comma
abbrev pub comma_number : ℕ → List ℕ
comma_number byte = 44 ∷ decimal byte

-- a character of ASCII that isn't a control character
abbrev pub is_printable : ℕ → Bool
is_printable code = nat_le 32 code && nat_lt code 127

-- what JSON has in a string for the character of a code
abbrev pub character_text : ℕ → List ℕ
character_text code = escape (encode_utf8 code)

-- the front of an object as JSON: its kind
abbrev pub kind_text : List ℕ → List ℕ
kind_text kind = codes "{\"kind\":" ++ compact_text (string kind)

-- an element of a package
abbrev pub element_text : Told → List ℕ
element_text x = compact_text (element_json x)

-- the front of an object of the namespace with its path, and what stands behind that
abbrev pub head_text : List ℕ → Place → List ℕ → List ℕ
head_text front path behind = (front ++ codes ",\"path\":") ++ (compact_text (string (place_text path)) ++ behind)
