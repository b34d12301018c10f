-- Functions that read a row of a table, or make the object of one.
use Rattle.std.specs.Prelude.{◌≡◌, ℕ, Result, IfOk}
use denote.Ref.{Bor}
use Rattle.aml_data.specs.declared.data.Data.{Data}
use Rattle.acpi_values.specs.declared.fault.ReadFault.{ReadFault}
use Rattle.acpi_fields.specs.Reading.{Gives, Read}

-- By what it says of its answers, it reads of element k what `row` reads, unless memory ran out.
abbrev pub ReadsRow : {A : Type 0} → (Bor Data → ℕ → Result A ReadFault → Type 0) → (ℕ → Data → Read A) → Type 0
ReadsRow {A} post row = (object : Bor Data) (k : ℕ) (answer : Result A ReadFault) → post object k answer
    → Gives (λ x. x) answer (row k object.now)

-- By what it says of its answers, it makes the object of a row, unless memory ran out.
abbrev pub MakesObject : {A E : Type 0} → (Bor A → Result Data E → Type 0) → (A → Data) → Type 0
MakesObject {A} {E} post object_of = (row : Bor A) (answer : Result Data E) → post row answer
    → IfOk answer (λ object. object ≡ object_of row.now)
