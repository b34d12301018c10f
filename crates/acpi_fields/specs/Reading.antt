-- What the parts of an object say, or the first place at which they say nothing, and why (ACPI 6.5, 8.4).
use Rattle.std.specs.Prelude.{◌≡◌, ◌==◌, ◌+◌, ◌-◌, ℕ, List, [], ◌∷◌, ◌++◌, length, replicate, slice_index_or, Option, Some, None, Result, Ok, Err, if◌then◌else◌, nat_le, nat_lt}
use Rattle.pw_base.specs.Answers.{◌>>=◌}
use Rattle.aml_data.specs.Meaning.{meaning}
use Rattle.aml_data.specs.declared.data.Data.{Data, Data-F, out-Data}
use Rattle.aml_data.specs.declared.data.Data.TheOpen as layer
use Rattle.aml_data.specs.declared.data.Data.TheVariants.{Revision}
use Rattle.aml_data.specs.declared.data.Width.{Width}
use Rattle.acpi_values.specs.Registers.{register_of}
use Rattle.acpi_values.specs.declared.fault.Place.{Place}
use Rattle.acpi_values.specs.declared.fault.ReadFault.{ReadFault}
use Rattle.acpi_values.specs.declared.fault.ReadFault.TheVariants.{Shape as misshapen, Memory}
use Rattle.acpi_values.specs.declared.fault.Shape.{Shape}
use Rattle.acpi_values.specs.declared.fault.Why.{Why}
use Rattle.acpi_values.specs.declared.fault.Why.TheVariants.{Kind, Count, Range, Register as no_register}
use Rattle.acpi_values.specs.declared.register.Register.{Register}
use Rattle.acpi_values.specs.declared.register.RegisterFault.{RegisterFault}

-- # Answers

-- what is read, or the first place at which nothing is
abbrev pub Read : Type 0 → Type 0
Read A = Result A Shape

-- What a function returned, seen by view, is what is read, unless memory ran out.
abbrev pub Gives : {X Y : Type 0} → (X → Y) → Result X ReadFault → Read Y → Type 0
Gives view (Ok x) read = read ≡ Ok (view x)
Gives view (Err (misshapen place why)) read = read ≡ Err (record { place = place; why = why })
Gives view (Err Memory) read = Unit {0}

-- # Places

-- element k of the whole, and field i of element k, all counted from 1; 0 stands for the whole
abbrev pub place : ℕ → ℕ → Place
place k i = record { outer = k; inner = i }

abbrev pub shape : Place → Why → Shape
shape at why = record { place = at; why = why }

-- # Integers

-- a number of at most so much
abbrev pub number_within : ℕ → Place → Option ℕ → Read ℕ
number_within most at None = Err (shape at Kind)
number_within most at (Some n) = if nat_le n most then Ok n else Err (shape at Range)

-- an integer of at most so much, at the width of its table
abbrev pub integer_at : Width → ℕ → Place → Data → Read ℕ
integer_at width most at object = number_within most at (meaning object width)

-- # Registers

-- what a buffer holds: its bytes, and then zeros up to its size
abbrev pub content : ℕ → List ℕ → List ℕ
content size bytes = bytes ++ replicate (size - length bytes) 0

abbrev pub register_in : Place → Result Register RegisterFault → Read Register
register_in at (Ok r) = Ok r
register_in at (Err fault) = Err (shape at no_register)

abbrev pub layer_register : Place → Data-F Data → Read Register
layer_register at (layer.Buffer buffer) = register_in at (register_of (content buffer.size buffer.bytes))
layer_register at (layer.Int n) = Err (shape at Kind)
layer_register at layer.Ones = Err (shape at Kind)
layer_register at layer.Revision = Err (shape at Kind)
layer_register at (layer.Text text) = Err (shape at Kind)
layer_register at (layer.Package count elements) = Err (shape at Kind)
layer_register at (layer.VarPackage counted) = Err (shape at Kind)
layer_register at (layer.Path path) = Err (shape at Kind)

-- a register: a buffer that holds a resource template of one (ACPI 6.5, 6.4.3.7)
abbrev pub register_at : Place → Data → Read Register
register_at at object = layer_register at (out-Data object)

-- # Strings

abbrev pub layer_text : Place → Data-F Data → Read (List ℕ)
layer_text at (layer.Text text) = Ok text
layer_text at (layer.Int n) = Err (shape at Kind)
layer_text at layer.Ones = Err (shape at Kind)
layer_text at layer.Revision = Err (shape at Kind)
layer_text at (layer.Buffer buffer) = Err (shape at Kind)
layer_text at (layer.Package count elements) = Err (shape at Kind)
layer_text at (layer.VarPackage counted) = Err (shape at Kind)
layer_text at (layer.Path path) = Err (shape at Kind)

-- a string
abbrev pub text_at : Place → Data → Read (List ℕ)
text_at at object = layer_text at (out-Data object)

-- # Packages

abbrev pub layer_elements : Place → Data-F Data → Read (List Data)
layer_elements at (layer.Package count elements) = Ok elements
layer_elements at (layer.VarPackage counted) = Ok counted.elements
layer_elements at (layer.Int n) = Err (shape at Kind)
layer_elements at layer.Ones = Err (shape at Kind)
layer_elements at layer.Revision = Err (shape at Kind)
layer_elements at (layer.Text text) = Err (shape at Kind)
layer_elements at (layer.Buffer buffer) = Err (shape at Kind)
layer_elements at (layer.Path path) = Err (shape at Kind)

-- the elements of a package, of either kind
abbrev pub elements_at : Place → Data → Read (List Data)
elements_at at object = layer_elements at (out-Data object)

-- elements, of which there are to be n
abbrev pub counted : Place → ℕ → List Data → Read (List Data)
counted at n elements = if length elements == n then Ok elements else Err (shape at Count)

-- the fields of element k, a package of n
abbrev pub fields_of : ℕ → ℕ → Data → Read (List Data)
fields_of k n object = elements_at (place k 0) object >>= λ elements. counted (place k 0) n elements

-- field i, counted from 1: past the end the revision, which is no integer, register, string or package
abbrev pub field : List Data → ℕ → Data
field fields i = slice_index_or fields (i - 1) Revision

-- field i of element k, an integer of at most so much
abbrev pub number_of : Width → ℕ → ℕ → ℕ → List Data → Read ℕ
number_of width most k i fields = integer_at width most (place k i) (field fields i)

-- the greatest number of 32 bits
unfoldable pub most_32 : ℕ
most_32 = 4294967295

-- the greatest number of 64 bits
unfoldable pub most_64 : ℕ
most_64 = 18446744073709551615

-- field i of element k, which is to be this number
abbrev pub fixed_of : Width → ℕ → Why → ℕ → ℕ → List Data → Read ℕ
fixed_of width wanted why k i fields =
    number_of width most_64 k i fields >>= λ n. if n == wanted then Ok n else Err (shape (place k i) why)

-- element k of the whole, which is to count the n elements behind it
abbrev pub count_at : Width → ℕ → ℕ → Data → Read ℕ
count_at width k n object =
    integer_at width most_64 (place k 0) object >>= λ count. if count == n then Ok count else Err (shape (place k 0) Count)

-- elements, of which there are to be at least n
abbrev pub at_least : ℕ → List Data → Read (List Data)
at_least n elements = if nat_lt (length elements) n then Err (shape (place 0 0) Count) else Ok elements

-- the elements of the whole, a package of at least n
abbrev pub whole_of : ℕ → Data → Read (List Data)
whole_of n object = elements_at (place 0 0) object >>= at_least n

-- rows, the first of which is element k
abbrev pub rows_from : {A : Type 0} → (ℕ → Data → Read A) → ℕ → List Data → Read (List A)
rows_from row k [] = Ok []
rows_from row k (object ∷ objects) = row k object >>= λ first. rows_from row (k + 1) objects >>= λ others. Ok (first ∷ others)
