-- Rows that are read, or whose objects are made, one after the other.
use Rattle.std.proofs.Common.{◌≡◌, ℕ, ◌+◌, ◌<◌, List, [], ◌∷◌, ◌++◌, length, map, take, drop, get_or, Result, Ok, Err, append_assoc, drop-cons, suc, refl, sym, ap, subst, ◌∙◌, arith}
use Rattle.std.proofs.lemmas.List.{map-append, take_more}
use Rattle.aml_data.specs.declared.data.Data.{Data}
use Rattle.pw_base.specs.Answers.{◌>>=◌}
use Rattle.acpi_values.specs.declared.fault.ReadFault.{ReadFault}
use Rattle.acpi_values.specs.declared.fault.ReadFault.TheVariants.{Shape as misshapen, Memory}
use Rattle.acpi_fields.specs.Reading.{Gives, Read, rows_from}

-- rows with others in front
abbrev pub ahead : {A : Type 0} → List A → Read (List A) → Read (List A)
ahead front (Ok rows) = Ok (front ++ rows)
ahead front (Err s) = Err s

ahead_more : {A : Type 0} (front : List A) (x : A) (read : Read (List A)) → ahead (front ++ x ∷ []) read ≡ ahead front (read >>= λ others. Ok (x ∷ others))
ahead_more front x (Ok rows) = ap Ok (append_assoc front (x ∷ []) rows)
ahead_more front x (Err s) = refl

-- a row that is read joins those in front
pub rows_more : {A : Type 0} (row : ℕ → Data → Read A) (front : List A) (k : ℕ) (x : A) (object : Data) (objects : List Data) → row k object ≡ Ok x
    → ahead (front ++ x ∷ []) (rows_from row (k + 1) objects) ≡ ahead front (rows_from row k (object ∷ objects))
rows_more row front k x object objects e = rw e (ahead_more front x (rows_from row (k + 1) objects))

-- an object, and those behind it
first_row : (objects : List Data) (i : ℕ) (object : Data) → i < length objects → object ≡ get_or objects i object → drop i objects ≡ object ∷ drop (i + 1) objects
first_row objects i object lt is =
    let next : suc i ≡ i + 1 = omega arith in
    let cons : drop i objects ≡ get_or objects i object ∷ drop (i + 1) objects = subst (λ n. drop i objects ≡ get_or objects i object ∷ drop n objects) next (drop-cons objects i object lt) in
    cons ∙ ap (λ o. o ∷ drop (i + 1) objects) (sym is)

-- the same, where the rows are those from one on of a list
pub rows_step : {A : Type 0} (row : ℕ → Data → Read A) (front : List A) (k i : ℕ) (x : A) (object : Data) (objects : List Data) → i < length objects
    → object ≡ get_or objects i object → row (k + 1) object ≡ Ok x
    → ahead (front ++ x ∷ []) (rows_from row (k + 1 + 1) (drop (i + 1) objects)) ≡ ahead front (rows_from row (k + 1) (drop i objects))
rows_step row front k i x object objects lt is e =
    rw (first_row objects i object lt is) (rows_more row front (k + 1) x object (drop (i + 1) objects) e)

-- the object of a row joins those of the rows before it
pub objects_step : {A : Type 0} (object_of : A → Data) (front made : List Data) (i : ℕ) (row : A) (rows : List A) (object : Data) → i < length rows
    → row ≡ get_or rows i row → object ≡ object_of row → made ≡ front ++ map object_of (take i rows) → made ++ object ∷ [] ≡ front ++ map object_of (take (i + 1) rows)
objects_step object_of front made i row rows object lt at is so_far =
    let next : take (i + 1) rows ≡ take i rows ++ row ∷ [] = take_more rows i row lt ∙ ap (λ r. take i rows ++ r ∷ []) (sym at) in
    rw (next, map-append object_of (take i rows) (row ∷ []), is, so_far) (append_assoc front (map object_of (take i rows)) (object_of row ∷ []))

-- a row that isn't read refuses all of them
pub rows_refused : {A X : Type 0} (view : X → List A) (row : ℕ → Data → Read A) (front : List A) (k i : ℕ) (fault : ReadFault) (object : Data) (objects : List Data) (whole : Read (List A))
    → i < length objects → object ≡ get_or objects i object → (let r : Result A ReadFault = Err fault in Gives (λ x. x) r (row k object))
    → ahead front (rows_from row k (drop i objects)) ≡ whole → (let r : Result X ReadFault = Err fault in Gives view r whole)
rows_refused view row front k i (misshapen place why) object objects whole lt is e so_far = sym so_far ∙ rw (first_row objects i object lt is, e) refl
rows_refused view row front k i Memory object objects whole lt is e so_far = tt
