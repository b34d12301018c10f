-- What is written for values can be written: how deep it nests, and how many bytes it has at most.
use Rattle.std.proofs.Common.{◌≡◌, ◌+◌, ◌*◌, ◌-◌, ◌<◌, ◌≤◌, ◌^◌, ℕ, Bool, true, false, cond, eqb, ltb, List, [], ◌∷◌, map, length, refl, arith, length-append}
use Rattle.std.specs.List.{AllByRecursion}
use Rattle.std.proofs.lemmas.List.{length-map}
use Rattle.std.proofs.lemmas.Nat.{mul-le}
use Rattle.aml_data.specs.declared.data.Data.{Data}
use Rattle.aml_data.specs.declared.data.Data.TheVariants.{Int, Text}
use Rattle.aml_data.specs.Grammar.{IsAscii}
use Rattle.aml_data.specs.Segment.{joined}
use Rattle.aml_data.specs.Written.{written, written_constant, written_length, IsWritable, IsWritableWithin}
use Rattle.aml_data.proofs.WrittenLayers.{within-Buffer, within-Int, within-Text, written-Int, Package-nested}
use Rattle.aml_data.proofs.WrittenLengths.{length-Buffer, length-Package, length-Text}
use Rattle.aml_data.specs.declared.data.Width.{Width}
use Rattle.acpi_values.specs.Registers.{register_bytes}
use Rattle.acpi_values.specs.declared.dependency.Coord.{Coord}
use Rattle.acpi_values.specs.declared.dependency.Coord.TheVariants.{SwAll, SwAny, HwAll}
use Rattle.acpi_values.specs.declared.register.Register.{Register}
use Rattle.acpi_fields.specs.Dependencies.{coord_number}
use Rattle.acpi_fields.specs.Writing.{FitsWidth, package_object, register_object}
use Rattle.acpi_fields.proofs.Fields.{fits_64}

-- It can be written wherever so much nesting is left, in at most so many bytes.
pub record IsBounded (height most : ℕ) (v : Data) : Type 0 where
  pub within : (depth : ℕ) → height ≤ depth → IsWritableWithin depth v
  pub short : length (written v) ≤ most

-- a larger bound
pub wider : (height most wide : ℕ) (v : Data) → most ≤ wide → IsBounded height most v → IsBounded height wide v
wider height most wide v le h = record { within = h.within; short = let short = h.short in omega arith }

-- what is bounded can be written
pub bounded_writable : (height most : ℕ) (v : Data) → height ≤ 32 → most < 2 ^ 28 → IsBounded height most v → IsWritable v
bounded_writable height most v low few h = record { within = h.within 32 low; short = let short = h.short in omega arith }

-- # Lengths

by_test : {A : Type 0} (P : A → Type 0) (b : Bool) (x y : A) → P x → P y → P (cond b x y)
by_test P true x y passed failed = passed
by_test P false x y passed failed = failed

pub length-constant : (n : ℕ) → length (written_constant n) ≤ 9
length-constant n =
    let Short : List ℕ → Type 0 = λ bytes. length bytes ≤ 9 in
    by_test Short (eqb n 0) _ _ (omega arith)
    (by_test Short (eqb n 1) _ _ (omega arith)
    (by_test Short (ltb n 256) _ _ (omega arith)
    (by_test Short (ltb n 65536) _ _ (omega arith)
    (by_test Short (ltb n 4294967296) _ _ (omega arith) (omega arith)))))

pub length-length : (n : ℕ) → length (written_length n) ≤ 4
length-length n =
    let Short : List ℕ → Type 0 = λ bytes. length bytes ≤ 4 in
    by_test Short (ltb n 63) _ _ (omega arith) (by_test Short (ltb n 4094) _ _ (omega arith) (by_test Short (ltb n 1048573) _ _ (omega arith) (omega arith)))

length-joined : (height most : ℕ) (vs : List Data) → AllByRecursion (IsBounded height most) vs → length (joined (map written vs)) ≤ length vs * most
length-joined height most [] all = omega arith
length-joined height most (v ∷ vs) all =
    let first = all.0.short in
    let others = length-joined height most vs all.1 in
    omega (arith, length-append (written v) (joined (map written vs)))

-- # Objects

pub bounded_number : (n : ℕ) → n < 2 ^ 64 → IsBounded 0 9 (Int n)
bounded_number n lt = record {
  within = λ depth le. rw (within-Int depth n) lt;
  short = rw (written-Int n) (length-constant n);
}

pub bounded_register : (r : Register) → IsBounded 0 33 (register_object r)
bounded_register r = record {
  within = λ depth le. rw (within-Buffer depth 17 (register_bytes r)) (omega arith);
  short =
      let n = length (written_constant 17) + length (register_bytes r) in
      let constant = length-constant 17 in
      let lead = length-length n in
      let many : length (register_bytes r) ≡ 17 = refl in
      rw (length-Buffer 17 n (register_bytes r) refl) (omega arith);
}

pub bounded_text : (text : List ℕ) (most : ℕ) → AllByRecursion IsAscii text → length text ≤ most → IsBounded 0 (most + 2) (Text text)
bounded_text text most ascii le = record {
  within = λ depth low. rw (within-Text depth text) ascii;
  short = rw (length-Text text) (omega (arith, le));
}

weaker : (height depth most : ℕ) (vs : List Data) → height ≤ depth → AllByRecursion (IsBounded height most) vs → AllByRecursion (IsWritableWithin depth) vs
weaker height depth most [] le all = tt
weaker height depth most (v ∷ vs) le all = (all.0.within depth le, weaker height depth most vs le all.1)

-- a package of bounded elements
pub bounded_package : (height most few : ℕ) (vs : List Data) → few < 256 → length vs ≤ few → AllByRecursion (IsBounded height most) vs
    → IsBounded (height + 1) (6 + few * most) (package_object vs)
bounded_package height most few vs small le all = record {
  within = λ depth low. Package-nested depth (length vs) vs (record {
    some = omega arith;
    counted = omega arith;
    few = omega arith;
    inner = weaker height (depth - 1) most vs (omega arith) all;
  });
  short =
      let n = 1 + length (joined (map written vs)) in
      let lead = length-length n in
      let body = length-joined height most vs all in
      let more : length vs * most ≤ few * most = mul-le (length vs) most few most le (omega arith) in
      rw (length-Package (length vs) vs) (omega arith);
}

-- each row of values that have a property
pub all_mapped : {A B : Type 0} (P : A → Type 0) (Q : B → Type 0) (f : A → B) → ((x : A) → P x → Q (f x)) → (xs : List A) → AllByRecursion P xs → AllByRecursion Q (map f xs)
all_mapped P Q f each [] all = tt
all_mapped P Q f each (x ∷ xs) all = (each x all.0, all_mapped P Q f each xs all.1)

-- # Numbers and rows

-- a number of 32 bits
pub bounded_32 : (n : ℕ) → n < 2 ^ 32 → IsBounded 0 9 (Int n)
bounded_32 n lt = bounded_number n (omega (arith, lt))

-- a small number
pub bounded_small : (n : ℕ) → n < 256 → IsBounded 0 9 (Int n)
bounded_small n lt = bounded_number n (omega (arith, lt))

-- a number that fits the width
pub bounded_width : (width : Width) (n : ℕ) → FitsWidth width n → IsBounded 0 9 (Int n)
bounded_width width n fits = bounded_number n (fits_64 width n fits)

-- the number of a coordination type
pub bounded_coord : (coord : Coord) → IsBounded 0 9 (Int (coord_number coord))
bounded_coord SwAll = bounded_small 252 (omega arith)
bounded_coord SwAny = bounded_small 253 (omega arith)
bounded_coord HwAll = bounded_small 254 (omega arith)

-- a package of rows, which are packages themselves
pub bounded_rows : {A : Type 0} (P : A → Type 0) (row : A → Data) (height most few : ℕ) → ((x : A) → P x → IsBounded height most (row x)) → few < 256 → (xs : List A)
    → length xs ≤ few → AllByRecursion P xs → IsBounded (height + 1) (6 + few * most) (package_object (map row xs))
bounded_rows P row height most few each small xs le all =
    bounded_package height most few (map row xs) small (omega (arith, length-map xs row, le)) (all_mapped P (IsBounded height most) row each xs all)
