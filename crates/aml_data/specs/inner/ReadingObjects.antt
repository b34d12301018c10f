-- Reading data objects from left to right, with the first fault that is met. `end` is the place where the bytes end: in
-- a buffer or a package that is the end of its own bytes.
use Rattle.std.specs.Prelude.{ℕ, zero, suc, ◌-◌, List, [], ◌∷◌, length, Option, Some, None, Result, Ok, Err, nat_le, ◌==◌, if◌then◌else◌}
use Rattle.aml_data.specs.declared.data.Data.{Data}
use Rattle.aml_data.specs.declared.opcode.TheConstants.{STRING_PREFIX, BUFFER_OP, PACKAGE_OP, VAR_PACKAGE_OP, REVISION_OP, EXT_OP_PREFIX, ONES_OP}
use Rattle.aml_data.specs.declared.limits.TheConstants.{DEEPEST}
use Rattle.aml_data.specs.declared.data.Data.TheVariants.{Int, Ones, Revision, Text, Package, Path as at_path}
use Rattle.aml_data.specs.Objects.{Buffer, VarPackage}
use Rattle.aml_data.specs.Segment.{begins_name}
use Rattle.aml_data.specs.declared.fault.DataFault.{DataFault}
use Rattle.aml_data.specs.declared.fault.DataFault.TheVariants.{Short, BadLead, BadText, TooMany, TooDeep}
use Rattle.aml_data.specs.inner.Reading.{◌>>=◌, Read, byte_at, constant_at, window_at, name_at}

-- the bytes of a string, and the 0 that ends it
unfoldable pub text_at : ℕ → List ℕ → Read (List ℕ)
text_at end [] = Err (Short end)
text_at end (b ∷ bytes) =
    if b == 0 then Ok ([], bytes)
    else (if nat_le 128 b then Err (BadText (end - length (b ∷ bytes)))
    else (text_at end bytes >>= λ more. Ok (b ∷ more.0, more.1)))

-- the second byte of the revision
abbrev pub revision_at : ℕ → List ℕ → Read Data
revision_at end [] = Err (Short end)
revision_at end (b ∷ rest) = if b == REVISION_OP then Ok (Revision, rest) else Err (BadLead (end - length (b ∷ rest)) b)

-- a PkgLength, and what it holds: a number that `count` reads, and the bytes behind it
unfoldable pub counted_at : (ℕ → List ℕ → Read ℕ) → ℕ → List ℕ → Read (ℕ × List ℕ)
counted_at count end bytes =
    window_at end bytes >>= λ inside.
    count (end - length inside.1) inside.0 >>= λ n.
    Ok ((n.0, n.1), inside.1)

-- a buffer behind its lead byte
abbrev pub buffer_at : ℕ → List ℕ → Read Data
buffer_at end bytes = counted_at constant_at end bytes >>= λ x. Ok (Buffer x.0.0 x.0.1, x.1)

-- the elements of a package, to the end of its bytes, each read by `read`
abbrev pub elements_at : (ℕ → List ℕ → Read Data) → ℕ → ℕ → List ℕ → Result (List Data) DataFault
elements_at read count end [] = Ok []
elements_at read zero end (b ∷ bytes) = Err (TooMany (end - length (b ∷ bytes)))
elements_at read (suc count) end (b ∷ bytes) =
    read end (b ∷ bytes) >>= λ first. elements_at read count end first.1 >>= λ others. Ok (first.0 ∷ others)

-- A package behind its lead byte, which stands at a place: how its count is read, what it makes, and how its elements are
-- read, or nothing where the nesting is used up.
unfoldable pub pack_at : (ℕ → List ℕ → Read ℕ) → (ℕ → List Data → Data) → Option (ℕ → List ℕ → Read Data) → ℕ → ℕ → List ℕ → Read Data
pack_at count make None at end bytes = Err (TooDeep at)
pack_at count make (Some read) at end bytes =
    counted_at count end bytes >>= λ x.
    elements_at read x.0.0 (end - length x.1) x.0.1 >>= λ elements.
    Ok (make x.0.0 elements, x.1)

-- a package that a byte counts
abbrev pub package_at : Option (ℕ → List ℕ → Read Data) → ℕ → ℕ → List ℕ → Read Data
package_at = pack_at byte_at Package

-- a package that a constant counts
abbrev pub var_package_at : Option (ℕ → List ℕ → Read Data) → ℕ → ℕ → List ℕ → Read Data
var_package_at = pack_at constant_at VarPackage

-- a string behind its lead byte
abbrev pub string_at : ℕ → List ℕ → Read Data
string_at end bytes = text_at end bytes >>= λ text. Ok (Text text.0, text.1)

-- a name, where this byte, the first, begins one, or else an integer constant
abbrev pub name_or_constant_at : ℕ → ℕ → List ℕ → Read Data
name_or_constant_at lead end bytes =
    if begins_name lead then (name_at end bytes >>= λ path. Ok (at_path path.0, path.1))
    else (constant_at end bytes >>= λ n. Ok (Int n.0, n.1))

-- a data object, the elements of whose packages are read so
unfoldable pub object_by : Option (ℕ → List ℕ → Read Data) → ℕ → List ℕ → Read Data
object_by inner end [] = Err (Short end)
object_by inner end (lead ∷ rest) =
    if lead == ONES_OP then Ok (Ones, rest)
    else (if lead == EXT_OP_PREFIX then revision_at end rest
    else (if lead == STRING_PREFIX then string_at end rest
    else (if lead == BUFFER_OP then buffer_at end rest
    else (if lead == PACKAGE_OP then package_at inner (end - length (lead ∷ rest)) end rest
    else (if lead == VAR_PACKAGE_OP then var_package_at inner (end - length (lead ∷ rest)) end rest
    else name_or_constant_at lead end (lead ∷ rest))))))

-- how the elements of a package are read where so many levels may be opened
unfoldable pub within : ℕ → Option (ℕ → List ℕ → Read Data)
within zero = None
within (suc depth) = Some (object_by (within depth))

-- a data object that nests at most so deep
abbrev pub object_within : ℕ → ℕ → List ℕ → Read Data
object_within depth = object_by (within depth)

-- a data object
unfoldable pub object_at : ℕ → List ℕ → Read Data
object_at end bytes = object_within DEEPEST end bytes
