-- What spells what: each relation is between a value and a whole list of bytes (ACPI 6.5, 20.2).
use Rattle.std.specs.Prelude.{◌≡◌, ℕ, suc, ◌<◌, ◌≤◌, ◌^◌, Bool, true, false, replicate, List, [], ◌∷◌, ◌++◌, length}
use Rattle.std.specs.List.{AllByRecursion}
use Rattle.std.specs.Int.{w16, w32, w64, to_le_bytes}
use Rattle.aml_data.specs.declared.opcode.TheConstants.{ZERO_OP, ONE_OP, BYTE_PREFIX, WORD_PREFIX, DWORD_PREFIX, QWORD_PREFIX, STRING_PREFIX, BUFFER_OP, PACKAGE_OP, VAR_PACKAGE_OP}
use Rattle.aml_data.specs.declared.opcode.TheConstants.{REVISION_OP, EXT_OP_PREFIX, ONES_OP, NULL_NAME, DUAL_NAME_PREFIX, MULTI_NAME_PREFIX, ROOT_CHAR, PARENT_PREFIX_CHAR}
use Rattle.aml_data.specs.declared.limits.TheConstants.{DEEPEST, TOO_MANY_SEGMENTS}
use Rattle.aml_data.specs.declared.data.Data.{Data}
use Rattle.aml_data.specs.declared.data.Data.TheVariants.{Int, Ones, Revision, Text, Package, Path as at_path}
use Rattle.aml_data.specs.Objects.{Buffer, VarPackage}
use Rattle.aml_data.specs.declared.path.Path.{Path}
use Rattle.std.proofs.Common.{◌⊎◌}
use Rattle.aml_data.specs.Segment.{IsSegment, joined}
use Rattle.aml_data.specs.Layouts.{Octet, Rest, Both, Holds, Sized}
pub use Rattle.aml_data.specs.Lengths.{Len, spells_one_byte_length, spells_two_byte_length, spells_three_byte_length, spells_four_byte_length}

-- An integer constant: 0, 1, or a lead byte and so many bytes of the number, lowest first (ACPI 6.5, 20.2.3).
pub data Const : ℕ → List ℕ → Type 0 where
  spells_zero : Const 0 (ZERO_OP ∷ [])
  spells_one : Const 1 (ONE_OP ∷ [])
  spells_byte : (n : ℕ) → n < 2 ^ 8 → Const n (BYTE_PREFIX ∷ n ∷ [])
  spells_word : (n : ℕ) → n < 2 ^ 16 → Const n (WORD_PREFIX ∷ to_le_bytes w16 n)
  spells_double : (n : ℕ) → n < 2 ^ 32 → Const n (DWORD_PREFIX ∷ to_le_bytes w32 n)
  spells_quad : (n : ℕ) → n < 2 ^ 64 → Const n (QWORD_PREFIX ∷ to_le_bytes w64 n)

-- What stands before the segments of a name: the root, or so many steps up (ACPI 6.5, 20.2.2).
pub data Prefix : Bool → ℕ → List ℕ → Type 0 where
  spells_root : Prefix true 0 (ROOT_CHAR ∷ [])
  spells_ups : (ups : ℕ) → Prefix false ups (replicate ups PARENT_PREFIX_CHAR)

-- The segments of a name: none, one, two, or a count of 1 to 255 and so many (ACPI 6.5, 20.2.2).
pub data Segments : List (List ℕ) → List ℕ → Type 0 where
  spells_no_segment : Segments [] (NULL_NAME ∷ [])
  spells_one_segment : (ss : List (List ℕ)) → length ss ≡ 1 → AllByRecursion IsSegment ss → Segments ss (joined ss)
  spells_two_segments : (ss : List (List ℕ)) → length ss ≡ 2 → AllByRecursion IsSegment ss → Segments ss (DUAL_NAME_PREFIX ∷ joined ss)
  spells_many_segments : (ss : List (List ℕ)) → 0 < length ss → length ss < TOO_MANY_SEGMENTS → AllByRecursion IsSegment ss
      → Segments ss (MULTI_NAME_PREFIX ∷ length ss ∷ joined ss)

-- A name: its prefix, and then its segments (ACPI 6.5, 20.2.2).
pub data NameOf : Path → List ℕ → Type 0 where
  spells_name : {path : Path} {p s : List ℕ} → Prefix path.root path.ups p → Segments path.segs s → NameOf path (p ++ s)

-- It has a prefix or a segment: a name without both is no data object, since the byte 00 is the integer 0 there.
abbrev pub HasPart : Path → Type 0
HasPart path = (path.root ≡ true) ⊎ ((0 < path.ups) ⊎ (0 < length path.segs))

-- a byte of a string
abbrev pub IsAscii : ℕ → Type 0
IsAscii b = (1 ≤ b) × (b < 128)

-- A data object whose nesting is at most the first number, and a list of such objects one after the other: its opcode, and
-- then what follows it (ACPI 6.5, 20.2.3 and 20.2.5.4).
mutual
  pub data SpellsWithin : ℕ → Data → List ℕ → Type 0 where
    spells_integer : {depth n : ℕ} {c : List ℕ} → Const n c → SpellsWithin depth (Int n) c
    spells_ones : {depth : ℕ} → SpellsWithin depth Ones (ONES_OP ∷ [])
    spells_revision : {depth : ℕ} → SpellsWithin depth Revision (EXT_OP_PREFIX ∷ REVISION_OP ∷ [])
    spells_text : {depth : ℕ} (t : List ℕ) → AllByRecursion IsAscii t → SpellsWithin depth (Text t) (STRING_PREFIX ∷ t ++ 0 ∷ [])
    spells_buffer : {depth size : ℕ} {bytes b : List ℕ} → Sized (Both Const Rest) (size, bytes) b
        → SpellsWithin depth (Buffer size bytes) (BUFFER_OP ∷ b)
    spells_path : {depth : ℕ} {name : Path} {b : List ℕ} → NameOf name b → HasPart name → SpellsWithin depth (at_path name) b
    spells_package : {depth count : ℕ} {elements : List Data} {c body b : List ℕ} → Holds (c ++ body) b → Octet count c
        → AllSpelled depth elements body → length elements ≤ count → SpellsWithin (suc depth) (Package count elements) (PACKAGE_OP ∷ b)
    spells_var_package : {depth count : ℕ} {elements : List Data} {c body b : List ℕ} → Holds (c ++ body) b → Const count c
        → AllSpelled depth elements body → length elements ≤ count
        → SpellsWithin (suc depth) (VarPackage count elements) (VAR_PACKAGE_OP ∷ b)

  pub data AllSpelled : ℕ → List Data → List ℕ → Type 0 where
    spells_none : {depth : ℕ} → AllSpelled depth [] []
    spells_more : {depth : ℕ} {v : Data} {vs : List Data} {b bs : List ℕ} → SpellsWithin depth v b → AllSpelled depth vs bs
        → AllSpelled depth (v ∷ vs) (b ++ bs)

-- A data object: packages nest at most 32 deep, a limit of this project's profile.
abbrev pub Spells : Data → List ℕ → Type 0
Spells v b = SpellsWithin DEEPEST v b
