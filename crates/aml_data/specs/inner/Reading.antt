-- Reading from left to right, with the first fault that is met. `end` is the place where the bytes end, so the
-- place of a byte is `end` less the number of bytes from it on.
use Rattle.std.specs.Prelude.{ℕ, zero, suc, ◌+◌, ◌-◌, ◌*◌, ◌/◌, ◌%◌, Bool, true, false, ◌&&◌, not, List, [], ◌∷◌, length, take, drop, Result, Ok, Err, nat_lt, nat_le, ◌==◌, if◌then◌else◌}
use Rattle.std.specs.Int.{Width, w16, w32, w64, byte_len, from_le_bytes}
use Rattle.pw_base.specs.Answers as answers
pub use Rattle.pw_base.specs.Answers.{◌>>=◌, Tells}
use Rattle.aml_data.specs.declared.opcode.TheConstants.{ZERO_OP, ONE_OP, BYTE_PREFIX, WORD_PREFIX, DWORD_PREFIX, QWORD_PREFIX}
use Rattle.aml_data.specs.declared.opcode.TheConstants.{NULL_NAME, DUAL_NAME_PREFIX, MULTI_NAME_PREFIX, ROOT_CHAR, PARENT_PREFIX_CHAR}
use Rattle.aml_data.specs.declared.path.Path.{Path}
use Rattle.aml_data.specs.Segment.{is_letter, is_word}
use Rattle.aml_data.specs.declared.fault.DataFault.{DataFault}
use Rattle.aml_data.specs.declared.fault.DataFault.TheVariants.{Short, BadLead, BadLength, BadName, Memory}

-- What a function returned, seen by view, is what reading gives, unless memory ran out.
abbrev pub Gives : {X Y : Type 0} → (X → Y) → Result X DataFault → Result Y DataFault → Type 0
Gives view result read = answers.Gives Memory view result read

-- A part that is read is a value, and the bytes after it.
abbrev pub Read : Type 0 → Type 0
Read A = Result (A × List ℕ) DataFault

-- a byte
abbrev pub byte_at : ℕ → List ℕ → Read ℕ
byte_at end [] = Err (Short end)
byte_at end (b ∷ bytes) = Ok (b, bytes)

-- a number of so many bytes, lowest first
abbrev pub number_at : Width → ℕ → List ℕ → Read ℕ
number_at w end bytes =
    if nat_lt (length bytes) (byte_len w) then Err (Short end)
    else Ok (from_le_bytes w (take (byte_len w) bytes), drop (byte_len w) bytes)

-- an integer constant
unfoldable pub constant_at : ℕ → List ℕ → Read ℕ
constant_at end [] = Err (Short end)
constant_at end (lead ∷ rest) =
    if lead == ZERO_OP then Ok (0, rest)
    else (if lead == ONE_OP then Ok (1, rest)
    else (if lead == BYTE_PREFIX then byte_at end rest
    else (if lead == WORD_PREFIX then number_at w16 end rest
    else (if lead == DWORD_PREFIX then number_at w32 end rest
    else (if lead == QWORD_PREFIX then number_at w64 end rest
    else Err (BadLead (end - length (lead ∷ rest)) lead))))))

-- the length that a PkgLength gives, by its lead byte and the bytes that follow
abbrev pub length_value : ℕ → List ℕ → ℕ
length_value lead [] = lead
length_value lead (b ∷ []) = lead % 16 + 16 * b
length_value lead (b ∷ c ∷ []) = lead % 16 + 16 * b + 0x1000 * c
length_value lead (b ∷ c ∷ d ∷ _) = lead % 16 + 16 * b + 0x1000 * c + 0x10_0000 * d

-- what is left of the length behind a PkgLength of so many following bytes
abbrev pub left_at : ℕ → ℕ → ℕ → List ℕ → Read ℕ
left_at end more lead rest =
    let whole = length_value lead (take more rest) in
    if nat_le whole more then Err (BadLength (end - length (lead ∷ rest)))
    else (if nat_lt (length (lead ∷ rest)) whole then Err (BadLength (end - length (lead ∷ rest)))
    else Ok (whole - more - 1, drop more rest))

-- a PkgLength: how many bytes after it belong to its object
unfoldable pub length_at : ℕ → List ℕ → Read ℕ
length_at end [] = Err (Short end)
length_at end (lead ∷ rest) =
    if nat_lt 0 (lead / 64) && not (lead / 16 % 4 == 0) then Err (BadLength (end - length (lead ∷ rest)))
    else (if nat_lt (length rest) (lead / 64) then Err (Short end)
    else left_at end (lead / 64) lead rest)

-- the bytes that a PkgLength counts after itself
unfoldable pub window_at : ℕ → List ℕ → Read (List ℕ)
window_at end bytes = length_at end bytes >>= λ x. Ok (take x.0 x.1, drop x.0 x.1)

-- how many bytes 5E stand in front, and the rest
abbrev pub ups_at : List ℕ → ℕ × List ℕ
ups_at [] = (0, [])
ups_at (b ∷ bytes) = if b == PARENT_PREFIX_CHAR then (suc (ups_at bytes).0, (ups_at bytes).1) else (0, b ∷ bytes)

-- whether the root stands in front, how many steps up, and the rest
unfoldable pub prefix_at : List ℕ → Bool × ℕ × List ℕ
prefix_at [] = (false, 0, [])
prefix_at (b ∷ bytes) = if b == ROOT_CHAR then (true, 0, bytes) else (false, (ups_at (b ∷ bytes)).0, (ups_at (b ∷ bytes)).1)

-- a byte that passes a test
abbrev pub letter_at : (ℕ → Bool) → ℕ → List ℕ → Read ℕ
letter_at test end [] = Err (Short end)
letter_at test end (b ∷ bytes) = if test b then Ok (b, bytes) else Err (BadName (end - length (b ∷ bytes)))

-- a segment
unfoldable pub segment_at : ℕ → List ℕ → Read (List ℕ)
segment_at end bytes =
    letter_at is_letter end bytes >>= λ a.
    letter_at is_word end a.1 >>= λ b.
    letter_at is_word end b.1 >>= λ c.
    letter_at is_word end c.1 >>= λ d.
    Ok (a.0 ∷ b.0 ∷ c.0 ∷ d.0 ∷ [], d.1)

-- so many segments
abbrev pub several_at : ℕ → ℕ → List ℕ → Read (List (List ℕ))
several_at zero end bytes = Ok ([], bytes)
several_at (suc n) end bytes = segment_at end bytes >>= λ s. several_at n end s.1 >>= λ ss. Ok (s.0 ∷ ss.0, ss.1)

-- a count that isn't 0, and so many segments
abbrev pub many_at : ℕ → List ℕ → Read (List (List ℕ))
many_at end [] = Err (Short end)
many_at end (n ∷ bytes) = if n == 0 then Err (BadName (end - length (n ∷ bytes))) else several_at n end bytes

-- the segments of a name
unfoldable pub segments_at : ℕ → List ℕ → Read (List (List ℕ))
segments_at end [] = Err (Short end)
segments_at end (b ∷ bytes) =
    if b == NULL_NAME then Ok ([], bytes)
    else (if b == DUAL_NAME_PREFIX then several_at 2 end bytes
    else (if b == MULTI_NAME_PREFIX then many_at end bytes
    else several_at 1 end (b ∷ bytes)))

-- a name
unfoldable pub name_at : ℕ → List ℕ → Read Path
name_at end bytes =
    segments_at end (prefix_at bytes).2 >>= λ s. Ok (record { root = (prefix_at bytes).0; ups = (prefix_at bytes).1; segs = s.0 }, s.1)
