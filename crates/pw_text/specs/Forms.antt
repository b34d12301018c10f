-- What a field of a line may be: a number, or a path.
use Rattle.std.specs.Prelude.{◌==◌, ◌&&◌, ◌+◌, ◌-◌, ◌*◌, not, ℕ, suc, Bool, false, List, [], ◌∷◌, ◌++◌, length, map, drop, codes, bytes_eq, nat_le, nat_lt, Option, Some, None, if◌then◌else◌}
use Rattle.std.specs.List.{list_all}
use Rattle.aml_data.specs.Segment.{is_letter, is_word, joined}
use Rattle.pw_text.specs.Fields.{is_empty, parts}

-- # Numbers

abbrev pub is_digit : ℕ → Bool
is_digit b = nat_le 48 b && nat_le b 57

-- one or more digits
abbrev pub is_number : List ℕ → Bool
is_number text = not (is_empty text) && list_all is_digit text

abbrev pub value_from : ℕ → List ℕ → ℕ
value_from n [] = n
value_from n (d ∷ digits) = value_from (10 * n + (d - 48)) digits

-- the number that the digits say; no digits say 0
abbrev pub value_of : List ℕ → ℕ
value_of text = value_from 0 text

abbrev pub is_large : ℕ → Bool
is_large n = nat_lt 4294967295 n

-- a number that 32 bits hold
abbrev pub number_of : List ℕ → Option ℕ
number_of text = if is_large (value_of text) then None else Some (value_of text)

-- # Paths

-- one to four characters of a segment
abbrev pub is_short : List ℕ → Bool
is_short [] = false
is_short (b ∷ bytes) = is_letter b && list_all is_word bytes && nat_le (length bytes) 3

-- filled up to four characters by `_`
abbrev pub filled : List ℕ → List ℕ
filled text = text ++ drop (length text) (codes "____")

-- the segments of parts that are ones, one behind the other
abbrev pub names_of : List (List ℕ) → Option (List ℕ)
names_of texts = if list_all is_short texts then Some (joined (map filled texts)) else None

-- the segments of a path: `\` and segments joined by dots
abbrev pub name_of : List ℕ → Option (List ℕ)
name_of [] = None
name_of (b ∷ bytes) = if b == 92 then names_of (parts 46 bytes) else None

-- the first element whose segments are these, one behind the other; the elements are numbered from n on. A segment has
-- four bytes, so that one behind the other they tell the path
abbrev pub named_from : {X : Type 0} → (X → List (List ℕ)) → ℕ → List X → List ℕ → Option ℕ
named_from segs n [] name = None
named_from segs n (x ∷ xs) name = if bytes_eq (joined (segs x)) name then Some n else named_from segs (suc n) xs name
