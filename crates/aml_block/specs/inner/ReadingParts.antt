-- Reading the parts of terms from left to right, with the first fault that is met. `end` is the place where the bytes end,
-- so the place of a byte is `end` less the number of bytes from it on.
use Rattle.std.specs.Prelude.{ℕ, ◌+◌, ◌-◌, ◌==◌, List, [], ◌∷◌, length, Ok, Err, if◌then◌else◌}
use Rattle.std.specs.Int.{w32}
use Rattle.aml_data.specs.declared.path.Path.{Path}
use Rattle.aml_data.specs.declared.fault.DataFault.TheVariants.{Short, BadName}
use Rattle.aml_data.specs.declared.opcode.TheConstants.{EXT_OP_PREFIX}
use Rattle.aml_block.specs.declared.opcode.TheConstants.{EXTENDED}
use Rattle.aml_data.specs.inner.Reading.{◌>>=◌, Read, byte_at, number_at, name_at}

-- one part, and then another
abbrev pub both_at : {A B : Type 0} → (ℕ → List ℕ → Read A) → (ℕ → List ℕ → Read B) → ℕ → List ℕ → Read (A × B)
both_at one other end bytes = one end bytes >>= λ a. other end a.1 >>= λ b. Ok ((a.0, b.0), b.1)

-- a name that was read, where it has a segment
abbrev pub with_segment : ℕ → Path × List ℕ → Read Path
with_segment end name = if length name.0.segs == 0 then Err (BadName (end - length name.1 - 1)) else Ok name

-- a name with a segment
unfoldable pub named_at : ℕ → List ℕ → Read Path
named_at end bytes = name_at end bytes >>= with_segment end

-- a number of four bytes
abbrev pub double_at : ℕ → List ℕ → Read ℕ
double_at end bytes = number_at w32 end bytes

-- an opcode
unfoldable pub opcode_at : ℕ → List ℕ → Read ℕ
opcode_at end [] = Err (Short end)
opcode_at end (lead ∷ rest) = if lead == EXT_OP_PREFIX then (byte_at end rest >>= λ b. Ok (EXTENDED + b.0, b.1)) else Ok (lead, rest)
