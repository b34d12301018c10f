-- Segments of names (ACPI 6.5, 20.2.2).
use Rattle.std.specs.Prelude.{ℕ, Bool, ◌&&◌, ◌||◌, List, [], ◌∷◌, ◌++◌, nat_le, ◌==◌, IsTrue}
use Rattle.aml_data.specs.declared.opcode.TheConstants.{DUAL_NAME_PREFIX, MULTI_NAME_PREFIX, ROOT_CHAR, PARENT_PREFIX_CHAR}

-- A to Z, or _
abbrev pub is_letter : ℕ → Bool
is_letter b = (nat_le 65 b && nat_le b 90) || (b == 95)

-- the same, or a digit
abbrev pub is_word : ℕ → Bool
is_word b = is_letter b || (nat_le 48 b && nat_le b 57)

-- NameSeg: a letter, and three letters or digits
abbrev pub IsSegment : List ℕ → Type 0
IsSegment (a ∷ b ∷ c ∷ d ∷ []) = IsTrue (is_letter a) × IsTrue (is_word b) × IsTrue (is_word c) × IsTrue (is_word d)
IsSegment _ = ⊥

-- texts one after the other
abbrev pub joined : List (List ℕ) → List ℕ
joined [] = []
joined (text ∷ texts) = text ++ joined texts

-- a byte that begins a name with a prefix or a segment
abbrev pub begins_name : ℕ → Bool
begins_name b = is_letter b || (b == ROOT_CHAR) || (b == PARENT_PREFIX_CHAR) || (b == DUAL_NAME_PREFIX) || (b == MULTI_NAME_PREFIX)
