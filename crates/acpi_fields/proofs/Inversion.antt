-- What is read is what the object means, and the other way round.
use Rattle.std.proofs.Common.{◌≡◌, ◌≤◌, ◌+◌, ◌^◌, ◌==◌, ℕ, true, false, List, Option, Some, None, [], ◌∷◌, length, Result, Ok, Err, refl, sym, ap}
use Rattle.std.proofs.Common.{subst, ◌∙◌, arith}
use Rattle.std.specs.Prelude.{nat_le, nat_lt, if◌then◌else◌}
use Rattle.std.proofs.lemmas.Bool.Decides.{nat_tests}
use Rattle.aml_data.specs.declared.data.Data.{Data, Data-F, out-Data, roll-Data, roll-out-Data}
use Rattle.aml_data.specs.declared.data.Data.TheOpen as layer
use Rattle.aml_data.specs.declared.data.Data.TheViews.{outs-Int, outs-Ones, rolls-Int, rolls-Ones, outs-Buffer, outs-Package, outs-VarPackage}
use Rattle.aml_data.specs.declared.data.Data.TheViews.{outs-Text, rolls-Buffer, rolls-Package, rolls-VarPackage, rolls-Text}
use Rattle.aml_data.specs.declared.data.Data.TheVariants.{Int, Ones, Text}
use Rattle.aml_data.specs.Objects.{buffer_of, counted_of}
use Rattle.aml_data.specs.declared.data.Width.{Width}
use Rattle.aml_data.specs.Meaning.{all_ones, at_width, layer_meaning, meaning}
use Rattle.acpi_values.specs.Registers.{register_of}
use Rattle.acpi_values.specs.declared.fault.Place.{Place}
use Rattle.acpi_values.specs.declared.fault.Shape.{Shape}
use Rattle.acpi_values.specs.declared.fault.Why.{Why}
use Rattle.acpi_values.specs.declared.fault.Why.TheVariants.{Count}
use Rattle.acpi_values.specs.declared.register.Register.{Register}
use Rattle.acpi_values.specs.declared.register.RegisterFault.{RegisterFault}
use Rattle.pw_base.specs.Answers.{◌>>=◌}
use Rattle.acpi_fields.specs.Reading.{Read, at_least, content, count_at, counted, elements_at, field, fields_of, fixed_of, integer_at}
use Rattle.acpi_fields.specs.Reading.{layer_elements, layer_register, layer_text, most_32, most_64, number_of, number_within, place, register_at}
use Rattle.acpi_fields.specs.Reading.{register_in, rows_from, shape, text_at, whole_of}
use Rattle.acpi_fields.specs.Meaning.{AreRows, IsInteger, is_constant, is_ones, IsNumber, IsPackageOf, is_package, is_var_package, IsRegisterObject, IsRefusedWhereNothing}
use Rattle.acpi_fields.proofs.Templates.{template_means, template_read}

-- # Answers

-- what stands in an answer
abbrev in_answer : {A : Type 0} → A → Read A → A
in_answer other (Ok x) = x
in_answer other (Err s) = other

pub ok_same : {A : Type 0} (x y : A) → (let r : Read A = Ok x in r ≡ Ok y) → x ≡ y
ok_same x y e = ap (in_answer x) e

-- whether there is an answer
abbrev Answers : {A : Type 0} → Read A → Type 0
Answers (Ok x) = Unit {0}
Answers (Err s) = ⊥

pub err_ok : {A : Type 0} (s : Shape) (y : A) → (let r : Read A = Err s in r ≡ Ok y) → ⊥
err_ok s y e = subst Answers (sym e) tt

-- two steps gave an answer: so did the first, and the second for what the first gave
pub record IsBound {A B : Type 0} (r : Read A) (f : A → Read B) (y : B) : Type 0 where
  pub first : A
  pub is : r ≡ Ok first
  pub rest : f first ≡ Ok y

pub bound : {A B : Type 0} (r : Read A) (f : A → Read B) (y : B) → (r >>= f) ≡ Ok y → IsBound r f y
bound (Ok x) f y e = record { first = x; is = refl; rest = e }
bound (Err s) f y e = absurd (err_ok s y e)

-- two answers of one reading are one
pub same_read : {A : Type 0} (r : Read A) (x y : A) → r ≡ Ok x → r ≡ Ok y → x ≡ y
same_read r x y a b = ok_same x y (sym a ∙ b)

-- what is read is meant, and what is meant is read: so a reading is refused exactly where nothing is meant
pub refused_where_nothing : {A : Type 0} (r : Read A) (Means : A → Type 0) → ((x : A) → r ≡ Ok x → Means x) → ((x : A) → Means x → r ≡ Ok x) → IsRefusedWhereNothing r Means
refused_where_nothing (Ok x) Means means read =
    record { refused = λ s y e m. err_ok s x (sym e); nothing = λ none. absurd (none x (means x refl)) }
refused_where_nothing (Err s) Means means read =
    record { refused = λ t y e m. err_ok s y (read y m); nothing = λ none. (s, refl) }

-- # Integers

layer_integer_means : (width : Width) (object : Data) (l : Data-F Data) (n : ℕ) → object ≡ roll-Data l → layer_meaning width l ≡ Some n → IsInteger width object n
layer_integer_means width object (layer.Int m) n is e =
    let same : at_width width m ≡ n = cc in
    subst (λ o. IsInteger width o n) (sym (is ∙ rolls-Int m)) (subst (λ x. IsInteger width (Int m) x) same (is_constant m))
layer_integer_means width object layer.Ones n is e =
    let same : all_ones width ≡ n = cc in
    subst (λ o. IsInteger width o n) (sym (is ∙ rolls-Ones)) (subst (λ x. IsInteger width Ones x) same is_ones)
layer_integer_means width object layer.Revision n is e = absurd cc
layer_integer_means width object (layer.Text text) n is e = absurd cc
layer_integer_means width object (layer.Buffer b) n is e = absurd cc
layer_integer_means width object (layer.Package count vs) n is e = absurd cc
layer_integer_means width object (layer.VarPackage c) n is e = absurd cc
layer_integer_means width object (layer.Path path) n is e = absurd cc

pub integer_means : (width : Width) (object : Data) (n : ℕ) → meaning object width ≡ Some n → IsInteger width object n
integer_means width object n e = layer_integer_means width object (out-Data object) n (sym (roll-out-Data object)) e

pub integer_read : (width : Width) (object : Data) (n : ℕ) → IsInteger width object n → meaning object width ≡ Some n
integer_read width object n (is_constant m) = rw (outs-Int m) refl
integer_read width object n is_ones = rw outs-Ones refl

-- an object means one integer at most
pub one_number : (width : Width) (object : Data) (m n : ℕ) → IsInteger width object m → IsInteger width object n → m ≡ n
one_number width object m n a b = let same : Some m ≡ Some n = sym (integer_read width object m a) ∙ integer_read width object n b in cc

within_means : (most : ℕ) (at : Place) (o : Option ℕ) (n : ℕ) → number_within most at o ≡ Ok n → (o ≡ Some n) × (n ≤ most)
within_means most at None n e = absurd (err_ok _ n e)
within_means most at (Some m) n e = grind (arith, nat_tests)

within_read : (most : ℕ) (at : Place) (o : Option ℕ) (n : ℕ) → o ≡ Some n → n ≤ most → number_within most at o ≡ Ok n
within_read most at o n e le =
    let small : nat_le n most ≡ true = grind (arith, nat_tests) in
    rw (e, small) refl

pub number_means : (width : Width) (most : ℕ) (at : Place) (object : Data) (n : ℕ) → integer_at width most at object ≡ Ok n → IsNumber width (most + 1) object n
number_means width most at object n e =
    let h = within_means most at (meaning object width) n e in
    record { means = integer_means width object n h.0; fits = omega (arith, h.1) }

pub number_read : (width : Width) (most : ℕ) (at : Place) (object : Data) (n : ℕ) → IsNumber width (most + 1) object n → integer_at width most at object ≡ Ok n
number_read width most at object n h = within_read most at (meaning object width) n (integer_read width object n h.means) (let lt = h.fits in omega arith)

-- a number of 32 bits
pub means_32 : (width : Width) (at : Place) (object : Data) (n : ℕ) → integer_at width most_32 at object ≡ Ok n → IsNumber width (2 ^ 32) object n
unfolding most_32
means_32 width at object n e = let h = number_means width 4294967295 at object n e in record { means = h.means; fits = let lt = h.fits in omega arith }

pub read_32 : (width : Width) (at : Place) (object : Data) (n : ℕ) → IsNumber width (2 ^ 32) object n → integer_at width most_32 at object ≡ Ok n
unfolding most_32
read_32 width at object n h = number_read width 4294967295 at object n (record { means = h.means; fits = let lt = h.fits in omega arith })

-- a number of 64 bits
pub means_64 : (width : Width) (at : Place) (object : Data) (n : ℕ) → integer_at width most_64 at object ≡ Ok n → IsNumber width (2 ^ 64) object n
unfolding most_64
means_64 width at object n e = let h = number_means width 18446744073709551615 at object n e in record { means = h.means; fits = let lt = h.fits in omega arith }

pub read_64 : (width : Width) (at : Place) (object : Data) (n : ℕ) → IsNumber width (2 ^ 64) object n → integer_at width most_64 at object ≡ Ok n
unfolding most_64
read_64 width at object n h = number_read width 18446744073709551615 at object n (record { means = h.means; fits = let lt = h.fits in omega arith })

-- a number that is to be this one
fixed_test : (at : Place) (why : Why) (m wanted n : ℕ) → (let r : Read ℕ = if m == wanted then Ok m else Err (shape at why) in r ≡ Ok n) → (m ≡ wanted) × (n ≡ wanted)
fixed_test at why m wanted n e = grind (arith, nat_tests)

pub fixed_means : (width : Width) (wanted : ℕ) (why : Why) (k i : ℕ) (fields : List Data) (n : ℕ) → fixed_of width wanted why k i fields ≡ Ok n
    → IsNumber width (2 ^ 64) (field fields i) wanted
fixed_means width wanted why k i fields n e =
    let b = bound (number_of width most_64 k i fields) _ n e in
    let same = fixed_test (place k i) why b.first wanted n b.rest in
    subst (λ m. IsNumber width (2 ^ 64) (field fields i) m) same.0 (means_64 width (place k i) (field fields i) b.first b.is)

pub fixed_read : (width : Width) (wanted : ℕ) (why : Why) (k i : ℕ) (fields : List Data) → IsNumber width (2 ^ 64) (field fields i) wanted
    → fixed_of width wanted why k i fields ≡ Ok wanted
fixed_read width wanted why k i fields h =
    let same : (wanted == wanted) ≡ true = grind (arith, nat_tests) in
    rw (read_64 width (place k i) (field fields i) wanted h, same) refl

pub count_means : (width : Width) (k n : ℕ) (object : Data) (m : ℕ) → count_at width k n object ≡ Ok m → IsNumber width (2 ^ 64) object n
count_means width k n object m e =
    let b = bound (integer_at width most_64 (place k 0) object) _ m e in
    let same = fixed_test (place k 0) Count b.first n m b.rest in
    subst (λ x. IsNumber width (2 ^ 64) object x) same.0 (means_64 width (place k 0) object b.first b.is)

pub count_read : (width : Width) (k n : ℕ) (object : Data) → IsNumber width (2 ^ 64) object n → count_at width k n object ≡ Ok n
count_read width k n object h =
    let same : (n == n) ≡ true = grind (arith, nat_tests) in
    rw (read_64 width (place k 0) object n h, same) refl

-- # Packages

layer_elements_means : (at : Place) (object : Data) (l : Data-F Data) (elements : List Data) → object ≡ roll-Data l → layer_elements at l ≡ Ok elements
    → IsPackageOf object elements
layer_elements_means at object (layer.Package count vs) elements is e =
    subst (λ o. IsPackageOf o elements) (sym is) (subst (λ es. IsPackageOf (roll-Data (layer.Package count vs)) es) (ok_same vs elements e)
    (subst (λ o. IsPackageOf o vs) (sym (rolls-Package count vs)) (is_package count vs)))
layer_elements_means at object (layer.VarPackage c) elements is e =
    subst (λ o. IsPackageOf o elements) (sym is) (subst (λ es. IsPackageOf (roll-Data (layer.VarPackage c)) es) (ok_same c.elements elements e)
    (subst (λ o. IsPackageOf o c.elements) (sym (rolls-VarPackage c)) (is_var_package c.count c.elements)))
layer_elements_means at object (layer.Int n) elements is e = absurd (err_ok _ elements e)
layer_elements_means at object layer.Ones elements is e = absurd (err_ok _ elements e)
layer_elements_means at object layer.Revision elements is e = absurd (err_ok _ elements e)
layer_elements_means at object (layer.Text text) elements is e = absurd (err_ok _ elements e)
layer_elements_means at object (layer.Buffer b) elements is e = absurd (err_ok _ elements e)
layer_elements_means at object (layer.Path path) elements is e = absurd (err_ok _ elements e)

pub elements_means : (at : Place) (object : Data) (elements : List Data) → elements_at at object ≡ Ok elements → IsPackageOf object elements
elements_means at object elements e = layer_elements_means at object (out-Data object) elements (sym (roll-out-Data object)) e

pub elements_read : (at : Place) (object : Data) (elements : List Data) → IsPackageOf object elements → elements_at at object ≡ Ok elements
elements_read at object elements (is_package count vs) = rw (outs-Package count vs) refl
elements_read at object elements (is_var_package count vs) = rw (outs-VarPackage (counted_of count vs)) refl

pub counted_means : (at : Place) (n : ℕ) (elements got : List Data) → counted at n elements ≡ Ok got → (length elements ≡ n) × (elements ≡ got)
counted_means at n elements got e = grind (arith, nat_tests)

pub counted_read : (at : Place) (n : ℕ) (elements : List Data) → length elements ≡ n → counted at n elements ≡ Ok elements
counted_read at n elements e =
    let same : (length elements == n) ≡ true = grind (arith, nat_tests) in
    rw same refl

pub fields_means : (k n : ℕ) (object : Data) (fields : List Data) → fields_of k n object ≡ Ok fields → IsPackageOf object fields × (length fields ≡ n)
fields_means k n object fields e =
    let b = bound (elements_at (place k 0) object) _ fields e in
    let c = counted_means (place k 0) n b.first fields b.rest in
    (subst (λ es. IsPackageOf object es) c.1 (elements_means (place k 0) object b.first b.is), subst (λ es. length es ≡ n) c.1 c.0)

pub fields_read : (k n : ℕ) (object : Data) (fields : List Data) → IsPackageOf object fields → length fields ≡ n → fields_of k n object ≡ Ok fields
fields_read k n object fields whole many = rw (elements_read (place k 0) object fields whole, counted_read (place k 0) n fields many) refl

at_least_means : (n : ℕ) (elements got : List Data) → at_least n elements ≡ Ok got → (n ≤ length elements) × (elements ≡ got)
at_least_means n elements got e = grind (arith, nat_tests)

pub whole_means : (n : ℕ) (object : Data) (elements : List Data) → whole_of n object ≡ Ok elements → IsPackageOf object elements × (n ≤ length elements)
whole_means n object elements e =
    let b = bound (elements_at (place 0 0) object) _ elements e in
    let c = at_least_means n b.first elements b.rest in
    (subst (λ es. IsPackageOf object es) c.1 (elements_means (place 0 0) object b.first b.is), subst (λ es. n ≤ length es) c.1 c.0)

pub whole_read : (n : ℕ) (object : Data) (elements : List Data) → IsPackageOf object elements → n ≤ length elements → whole_of n object ≡ Ok elements
whole_read n object elements whole le =
    let enough : nat_lt (length elements) n ≡ false = grind (arith, nat_tests) in
    rw (elements_read (place 0 0) object elements whole, enough) refl

-- # Registers and strings

register_in_means : (at : Place) (held : Result Register RegisterFault) (r : Register) → register_in at held ≡ Ok r → held ≡ Ok r
register_in_means at (Ok x) r e = ap (λ y. Ok y) (ok_same x r e)
register_in_means at (Err fault) r e = absurd (err_ok _ r e)

layer_register_means : (at : Place) (object : Data) (l : Data-F Data) (r : Register) → object ≡ roll-Data l → layer_register at l ≡ Ok r → IsRegisterObject object r
layer_register_means at object (layer.Buffer b) r is e =
    record {
      size = b.size;
      bytes = b.bytes;
      buffer = is ∙ rolls-Buffer b;
      template = template_means (content b.size b.bytes) r (register_in_means at (register_of (content b.size b.bytes)) r e);
    }
layer_register_means at object (layer.Int n) r is e = absurd (err_ok _ r e)
layer_register_means at object layer.Ones r is e = absurd (err_ok _ r e)
layer_register_means at object layer.Revision r is e = absurd (err_ok _ r e)
layer_register_means at object (layer.Text text) r is e = absurd (err_ok _ r e)
layer_register_means at object (layer.Package count vs) r is e = absurd (err_ok _ r e)
layer_register_means at object (layer.VarPackage c) r is e = absurd (err_ok _ r e)
layer_register_means at object (layer.Path path) r is e = absurd (err_ok _ r e)

pub register_means : (at : Place) (object : Data) (r : Register) → register_at at object ≡ Ok r → IsRegisterObject object r
register_means at object r e = layer_register_means at object (out-Data object) r (sym (roll-out-Data object)) e

pub register_read : (at : Place) (object : Data) (r : Register) → IsRegisterObject object r → register_at at object ≡ Ok r
register_read at object r h = rw (h.buffer, outs-Buffer (buffer_of h.size h.bytes), template_read (content h.size h.bytes) r h.template) refl

-- a register isn't an integer
pub no_integer : (width : Width) (object : Data) (r : Register) → IsRegisterObject object r → meaning object width ≡ None
no_integer width object r h = rw (h.buffer, outs-Buffer (buffer_of h.size h.bytes)) refl

layer_text_means : (at : Place) (object : Data) (l : Data-F Data) (text : List ℕ) → object ≡ roll-Data l → layer_text at l ≡ Ok text → object ≡ Text text
layer_text_means at object (layer.Text t) text is e = is ∙ rolls-Text t ∙ ap (λ x. Text x) (ok_same t text e)
layer_text_means at object (layer.Int n) text is e = absurd (err_ok _ text e)
layer_text_means at object layer.Ones text is e = absurd (err_ok _ text e)
layer_text_means at object layer.Revision text is e = absurd (err_ok _ text e)
layer_text_means at object (layer.Buffer b) text is e = absurd (err_ok _ text e)
layer_text_means at object (layer.Package count vs) text is e = absurd (err_ok _ text e)
layer_text_means at object (layer.VarPackage c) text is e = absurd (err_ok _ text e)
layer_text_means at object (layer.Path path) text is e = absurd (err_ok _ text e)

pub text_means : (at : Place) (object : Data) (text : List ℕ) → text_at at object ≡ Ok text → object ≡ Text text
text_means at object text e = layer_text_means at object (out-Data object) text (sym (roll-out-Data object)) e

pub text_read : (at : Place) (object : Data) (text : List ℕ) → object ≡ Text text → text_at at object ≡ Ok text
text_read at object text e = rw (e, outs-Text text) refl

-- # Rows

-- rows that are read are those that the objects mean, where that holds of each row
pub rows_means : {A : Type 0} (row : ℕ → Data → Read A) (Means : Data → A → Type 0) → ((k : ℕ) (object : Data) (x : A) → row k object ≡ Ok x → Means object x)
    → (k : ℕ) (objects : List Data) (xs : List A) → rows_from row k objects ≡ Ok xs → AreRows Means objects xs
rows_means row Means each k [] xs e = subst (λ ys. AreRows Means [] ys) (ok_same [] xs e) tt
rows_means row Means each k (object ∷ objects) xs e =
    let b = bound (row k object) _ xs e in
    let c = bound (rows_from row (k + 1) objects) _ xs b.rest in
    subst (λ ys. AreRows Means (object ∷ objects) ys) (ok_same (b.first ∷ c.first) xs c.rest)
    (each k object b.first b.is, rows_means row Means each (k + 1) objects c.first c.is)

pub rows_read : {A : Type 0} (row : ℕ → Data → Read A) (Means : Data → A → Type 0) → ((k : ℕ) (object : Data) (x : A) → Means object x → row k object ≡ Ok x)
    → (k : ℕ) (objects : List Data) (xs : List A) → AreRows Means objects xs → rows_from row k objects ≡ Ok xs
rows_read row Means each k [] [] h = refl
rows_read row Means each k [] (x ∷ xs) h = absurd h
rows_read row Means each k (object ∷ objects) [] h = absurd h
rows_read row Means each k (object ∷ objects) (x ∷ xs) h = rw (each k object x h.0, rows_read row Means each (k + 1) objects xs h.1) refl
