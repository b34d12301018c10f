-- The written form: of every part the shortest spelling (ACPI 6.5, 20.2), and which objects have one.
use Rattle.std.specs.Prelude.{◌≡◌, ℕ, zero, suc, ◌+◌, ◌/◌, ◌%◌, ◌<◌, ◌≤◌, ◌^◌, true, List, [], ◌∷◌, ◌++◌, length, replicate, nat_lt, ◌==◌, if◌then◌else◌}
use Rattle.std.specs.List.{AllByRecursion}
use Rattle.std.specs.Int.{w16, w32, w64, to_le_bytes}
use Rattle.aml_data.specs.declared.opcode.TheConstants.{ZERO_OP, ONE_OP, BYTE_PREFIX, WORD_PREFIX, DWORD_PREFIX, QWORD_PREFIX, STRING_PREFIX, BUFFER_OP, PACKAGE_OP, VAR_PACKAGE_OP}
use Rattle.aml_data.specs.declared.opcode.TheConstants.{REVISION_OP, EXT_OP_PREFIX, ONES_OP, NULL_NAME, DUAL_NAME_PREFIX, MULTI_NAME_PREFIX, ROOT_CHAR, PARENT_PREFIX_CHAR}
use Rattle.aml_data.specs.declared.limits.TheConstants.{DEEPEST, TOO_MANY_SEGMENTS, TOO_LONG}
use Rattle.aml_data.specs.declared.data.Data.{Data, Data-F, fold-Data, out-Data}
use Rattle.aml_data.specs.declared.data.Data.TheOpen as layer
use Rattle.aml_data.specs.declared.path.Path.{Path}
use Rattle.aml_data.specs.Segment.{IsSegment, joined}
use Rattle.aml_data.specs.Grammar.{IsAscii, HasPart}

-- an integer constant: the first spelling that holds the number
abbrev pub written_constant : ℕ → List ℕ
written_constant n =
    if n == 0 then ZERO_OP ∷ []
    else (if n == 1 then ONE_OP ∷ []
    else (if nat_lt n 0x100 then BYTE_PREFIX ∷ n ∷ []
    else (if nat_lt n 0x1_0000 then WORD_PREFIX ∷ to_le_bytes w16 n
    else (if nat_lt n 0x1_0000_0000 then DWORD_PREFIX ∷ to_le_bytes w32 n
    else QWORD_PREFIX ∷ to_le_bytes w64 n))))

-- a PkgLength of one byte
abbrev pub one_byte_length : ℕ → List ℕ
one_byte_length whole = whole ∷ []

-- a PkgLength of two bytes
abbrev pub two_byte_length : ℕ → List ℕ
two_byte_length whole = (64 + whole % 16) ∷ whole / 16 ∷ []

-- a PkgLength of three bytes
abbrev pub three_byte_length : ℕ → List ℕ
three_byte_length whole = (128 + whole % 16) ∷ whole / 16 % 256 ∷ whole / 0x1000 ∷ []

-- a PkgLength of four bytes
abbrev pub four_byte_length : ℕ → List ℕ
four_byte_length whole = (192 + whole % 16) ∷ whole / 16 % 256 ∷ whole / 0x1000 % 256 ∷ whole / 0x10_0000 ∷ []

-- the PkgLength before so many bytes: the shortest that holds their number and its own
abbrev pub written_length : ℕ → List ℕ
written_length content =
    if nat_lt content 63 then one_byte_length (content + 1)
    else (if nat_lt content 4094 then two_byte_length (content + 2)
    else (if nat_lt content 1048573 then three_byte_length (content + 3)
    else four_byte_length (content + 4)))

-- bytes behind their PkgLength
abbrev pub sized : List ℕ → List ℕ
sized content = written_length (length content) ++ content

-- what stands before the segments of a name
abbrev pub written_prefix : Path → List ℕ
written_prefix path = if path.root then ROOT_CHAR ∷ [] else replicate path.ups PARENT_PREFIX_CHAR

-- what says how many segments follow: one alone needs nothing
abbrev pub segments_lead : ℕ → List ℕ
segments_lead n = if n == 0 then NULL_NAME ∷ [] else (if n == 1 then [] else (if n == 2 then DUAL_NAME_PREFIX ∷ [] else MULTI_NAME_PREFIX
    ∷ n ∷ []))

-- the segments of a name
abbrev pub written_segments : List (List ℕ) → List ℕ
written_segments segs = segments_lead (length segs) ++ joined segs

-- a name
abbrev pub written_name : Path → List ℕ
written_name path = written_prefix path ++ written_segments path.segs

-- one layer of an object, whose elements are written already
abbrev pub written_layer : Data-F (List ℕ) → List ℕ
written_layer (layer.Int n) = written_constant n
written_layer layer.Ones = ONES_OP ∷ []
written_layer layer.Revision = EXT_OP_PREFIX ∷ REVISION_OP ∷ []
written_layer (layer.Text text) = STRING_PREFIX ∷ text ++ 0 ∷ []
written_layer (layer.Buffer buffer) = BUFFER_OP ∷ sized (written_constant buffer.size ++ buffer.bytes)
written_layer (layer.Package count elements) = PACKAGE_OP ∷ sized (count ∷ joined elements)
written_layer (layer.VarPackage counted) = VAR_PACKAGE_OP ∷ sized (written_constant counted.count ++ joined counted.elements)
written_layer (layer.Path path) = written_name path

-- a data object
unfoldable pub written : Data → List ℕ
written = fold-Data (List ℕ) written_layer

-- A name that can be written: its segments can be counted by a byte, and the root has no steps up.
pub record IsWritablePath (path : Path) : Type 0 where
  pub few : length path.segs < TOO_MANY_SEGMENTS
  pub no_ups : path.root ≡ true → path.ups ≡ 0
  pub segments : AllByRecursion IsSegment path.segs

-- one layer of an object that is no package
abbrev pub IsWritableLeaf : Data-F Data → Type 0
IsWritableLeaf (layer.Int n) = n < 2 ^ 64
IsWritableLeaf layer.Ones = Unit {0}
IsWritableLeaf layer.Revision = Unit {0}
IsWritableLeaf (layer.Text text) = AllByRecursion IsAscii text
IsWritableLeaf (layer.Buffer buffer) = buffer.size < 2 ^ 64
IsWritableLeaf (layer.Package count elements) = ⊥
IsWritableLeaf (layer.VarPackage counted) = ⊥
IsWritableLeaf (layer.Path path) = IsWritablePath path × HasPart path

-- elements of a package: at most as many as its count, each of them writable
abbrev pub AreElements : (Data → Type 0) → ℕ → List Data → Type 0
AreElements Inner count elements = (length elements ≤ count) × AllByRecursion Inner elements

-- one layer of an object whose elements can be written
abbrev pub IsWritableLayer : (Data → Type 0) → Data-F Data → Type 0
IsWritableLayer Inner (layer.Package count elements) = (count < 2 ^ 8) × AreElements Inner count elements
IsWritableLayer Inner (layer.VarPackage counted) = (counted.count < 2 ^ 64) × AreElements Inner counted.count counted.elements
IsWritableLayer Inner other = IsWritableLeaf other

-- an object that can be written but for its length, and whose nesting is at most so much
unfoldable pub IsWritableWithin : ℕ → Data → Type 0
IsWritableWithin zero v = IsWritableLeaf (out-Data v)
IsWritableWithin (suc depth) v = IsWritableLayer (IsWritableWithin depth) (out-Data v)

-- A data object that can be written: every PkgLength in it holds its length.
pub record IsWritable (v : Data) : Type 0 where
  pub within : IsWritableWithin DEEPEST v
  pub short : length (written v) < TOO_LONG
