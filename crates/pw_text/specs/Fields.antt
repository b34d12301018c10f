-- The lines of a text, and the fields of a line.
use Rattle.std.specs.Prelude.{◌==◌, ◌-◌, not, ℕ, Bool, true, false, List, [], ◌∷◌, filter, length, take, slice_index, if◌then◌else◌}
use Rattle.std.specs.List.{slice_split}

-- the parts between the bytes that are b
abbrev pub parts : ℕ → List ℕ → List (List ℕ)
parts b bytes = slice_split (λ x. x == b) bytes

abbrev pub is_empty : List ℕ → Bool
is_empty [] = true
is_empty (b ∷ bytes) = false

-- without a carriage return at the end
abbrev pub without_return : List ℕ → List ℕ
without_return line = if slice_index line (length line - 1) == 13 then take (length line - 1) line else line

-- each part but the last ended with a line feed; the last is a line where it has a byte
abbrev pub ended : List (List ℕ) → List (List ℕ)
ended [] = []
ended (last ∷ []) = if is_empty last then [] else last ∷ []
ended (part ∷ next ∷ more) = without_return part ∷ ended (next ∷ more)

-- The lines, without their endings.
abbrev pub lines_of : List ℕ → List (List ℕ)
lines_of bytes = ended (parts 10 bytes)

-- The fields of a line: what spaces separate.
abbrev pub fields_of : List ℕ → List (List ℕ)
fields_of line = filter (λ field. not (is_empty field)) (parts 32 line)

-- The field that was found first, empty where there is none, and those of the rest.
abbrev pub onto_fields : List ℕ → List (List ℕ) → List (List ℕ)
onto_fields [] fields = []
onto_fields (b ∷ field) fields = (b ∷ field) ∷ fields
