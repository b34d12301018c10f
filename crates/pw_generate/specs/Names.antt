-- The names of the containers and processors that are generated (NameSeg: ACPI 6.5, 20.2.2).
use Rattle.std.specs.Prelude.{ℕ, ◌/◌, ◌%◌, true, List, [], ◌∷◌, ◌++◌, codes}
use Rattle.std.specs.Fmt.{digit_glyph}

-- the lowest hexadecimal digit of a number, in upper case
abbrev pub hex_digit : ℕ → ℕ
hex_digit n = digit_glyph true (n % 16)

-- container c: `CL` and two digits
abbrev pub container_name : ℕ → List ℕ
container_name c = codes "CL" ++ (hex_digit (c / 16) ∷ hex_digit c ∷ [])

-- processor p: `P` and three digits
abbrev pub cpu_name : ℕ → List ℕ
cpu_name p = codes "P" ++ (hex_digit (p / 256) ∷ hex_digit (p / 16) ∷ hex_digit p ∷ [])
