-- What is written is read.
use Rattle.std.proofs.Common.{◌≡◌, ◌<◌, ◌≤◌, ◌+◌, ◌^◌, ◌==◌, ℕ, true, false, List, Some, None, [], ◌∷◌, map, length, Ok, refl, ap, arith}
use Rattle.std.specs.Prelude.{nat_le, nat_lt}
use Rattle.std.specs.List.{AllByRecursion}
use Rattle.std.proofs.lemmas.Bool.Decides.{nat_tests}
use Rattle.std.proofs.lemmas.Nat.{from_le_bytes-to_le_bytes_8}
use Rattle.aml_data.specs.declared.data.Data.{Data}
use Rattle.aml_data.specs.declared.data.Data.TheViews.{outs-Int, outs-Buffer, outs-Package, outs-Text}
use Rattle.aml_data.specs.declared.data.Data.TheVariants.{Int, Text}
use Rattle.aml_data.specs.Objects.{buffer_of}
use Rattle.aml_data.specs.declared.data.Width.{Width}
use Rattle.aml_data.specs.declared.data.Width.TheVariants.{W32, W64}
use Rattle.aml_data.specs.Meaning.{meaning, at_width}
use Rattle.acpi_values.specs.Registers.{register_bytes, register_of}
use Rattle.acpi_values.specs.declared.fault.Place.{Place}
use Rattle.acpi_values.specs.declared.register.Register.{Register}
use Rattle.acpi_fields.specs.Reading.{Read, count_at, text_at, whole_of, elements_at, integer_at, register_at, rows_from, place, most_32, most_64}
use Rattle.acpi_fields.specs.Writing.{package_object, register_object, FitsWidth}

fits_width : (width : Width) (n : ℕ) → FitsWidth width n → at_width width n ≡ n
fits_width W32 n lt = grind (arith)
fits_width W64 n lt = refl

-- a number that fits the width
pub integer_back : (width : Width) (most : ℕ) (at : Place) (n : ℕ) → FitsWidth width n → n ≤ most → integer_at width most at (Int n) ≡ Ok n
integer_back width most at n fits le =
    let within : nat_le n most ≡ true = grind (arith, nat_tests) in
    rw (outs-Int n, fits_width width n fits, within) refl

-- a number of 32 bits fits either width
pub fits_32 : (width : Width) (n : ℕ) → n < 2 ^ 32 → FitsWidth width n
fits_32 W32 n lt = lt
fits_32 W64 n lt = omega (arith, lt)

-- a number of 32 bits is read as itself
pub back_32 : (width : Width) (at : Place) (n : ℕ) → n < 2 ^ 32 → integer_at width most_32 at (Int n) ≡ Ok n
unfolding most_32
back_32 width at n lt = integer_back width 4294967295 at n (fits_32 width n lt) (omega (arith, lt))

pub fits_64 : (width : Width) (n : ℕ) → FitsWidth width n → n < 2 ^ 64
fits_64 W32 n lt = omega (arith, lt)
fits_64 W64 n lt = lt

-- a number that fits the width is read as itself
pub back_64 : (width : Width) (at : Place) (n : ℕ) → FitsWidth width n → integer_at width most_64 at (Int n) ≡ Ok n
unfolding most_64
back_64 width at n fits = let lt = fits_64 width n fits in integer_back width 18446744073709551615 at n fits (omega (arith, lt))

-- a small number fits either width
fits_small : (width : Width) (n : ℕ) → n < 256 → FitsWidth width n
fits_small W32 n lt = omega (arith, lt)
fits_small W64 n lt = omega (arith, lt)

pub back_small : (width : Width) (at : Place) (n : ℕ) → n < 256 → integer_at width most_64 at (Int n) ≡ Ok n
back_small width at n lt = back_64 width at n (fits_small width n lt)

-- what was written of a register is its bytes
pub register_back : (at : Place) (r : Register) → r.address < 2 ^ 64 → register_at at (register_object r) ≡ Ok r
unfolding register_of
register_back at r lt = rw (outs-Buffer (buffer_of 17 (register_bytes r))) (ap (λ a. Ok (record r { address = a })) (from_le_bytes-to_le_bytes_8 r.address lt))

-- the elements of a package that was written
pub elements_back : (at : Place) (elements : List Data) → elements_at at (package_object elements) ≡ Ok elements
elements_back at elements = rw (outs-Package (length elements) elements) refl

-- rows that were written, each of which is read
pub rows_back : {A : Type 0} (P : A → Type 0) (row : ℕ → Data → Read A) (object : A → Data) → ((k : ℕ) (x : A) → P x → row k (object x) ≡ Ok x)
    → (k : ℕ) (xs : List A) → AllByRecursion P xs → rows_from row k (map object xs) ≡ Ok xs
rows_back P row object each k [] all = refl
rows_back P row object each k (x ∷ xs) all = rw (each k x all.0, rows_back P row object each (k + 1) xs all.1) refl

-- a number that fits the width is what its constant means
pub meaning_back : (width : Width) (n : ℕ) → FitsWidth width n → meaning (Int n) width ≡ Some n
meaning_back width n fits = rw (outs-Int n, fits_width width n fits) refl

-- a register isn't a number
pub register_meaning : (width : Width) (r : Register) → meaning (register_object r) width ≡ None
register_meaning width r = rw (outs-Buffer (buffer_of 17 (register_bytes r))) refl

-- a string that was written
pub text_back : (at : Place) (text : List ℕ) → text_at at (Text text) ≡ Ok text
text_back at text = rw (outs-Text text) refl

-- enough elements that were written
pub whole_back : (n : ℕ) (elements : List Data) → n ≤ length elements → whole_of n (package_object elements) ≡ Ok elements
whole_back n elements le =
    let enough : nat_lt (length elements) n ≡ false = grind (arith, nat_tests) in
    rw (elements_back (place 0 0) elements, enough) refl

-- a count that was written
pub count_back : (width : Width) (k n : ℕ) → n < 256 → count_at width k n (Int n) ≡ Ok n
count_back width k n small =
    let same : (n == n) ≡ true = grind (arith, nat_tests) in
    rw (back_small width (place k 0) n small, same) refl
