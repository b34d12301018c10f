-- A `_CSD` that is read has no more entries than 32 bits can count.
use Rattle.std.proofs.Common.{◌≡◌, ℕ, ◌+◌, ◌<◌, ◌^◌, List, [], ◌∷◌, length, Option, Some, None, Result, Ok, Err, IfOk, sym, ap, subst, arith}
use Rattle.std.specs.Prelude.{IfSome}
use Rattle.aml_data.specs.declared.data.Data.{Data, Data-F, out-Data}
use Rattle.aml_data.specs.declared.data.Data.TheOpen as layer
use Rattle.aml_data.specs.declared.data.Width.{Width}
use Rattle.aml_data.specs.Countable.{IsCountable, LayerIsCountable}
use Rattle.acpi_values.specs.declared.dependency.CDependency.{CDependency}
use Rattle.acpi_values.specs.declared.fault.Place.{Place as place_in}
use Rattle.acpi_values.specs.declared.fault.ReadFault.{ReadFault}
use Rattle.acpi_fields.specs.Reading.{Gives, Read, elements_at, layer_elements, place, rows_from}
use Rattle.acpi_fields.proofs.Inversion.{bound, err_ok, ok_same}
use Rattle.acpi_idle.specs.CStates.{csd_of, csd_row}
use Rattle.acpi_space.specs.Places.{Place}
use Rattle.pw_base.specs.declared.failure.Memory.{Memory}
use Rattle.acpi_values.specs.declared.fault.ReadFault.TheVariants.{Shape as misshapen, Memory as no_memory}
use Rattle.acpi_build.specs.declared.said.Said.{Said}
use Rattle.acpi_build.specs.Building.{Remarks, built, done}
use Rattle.acpi_build.specs.inner.Answers.{IsTold}

told_value : {A : Type 0} {x y : A} {before remarks : Remarks} → done (Some x) before ≡ built (Some y) remarks → x ≡ y
told_value e = cc

rows_count : {A : Type 0} (row : ℕ → Data → Read A) (k : ℕ) (objects : List Data) (xs : List A) → rows_from row k objects ≡ Ok xs → length xs ≡ length objects
rows_count row k [] xs e = ap length (sym (ok_same [] xs e))
rows_count row k (object ∷ objects) xs e =
    let b = bound (row k object) _ xs e in
    let c = bound (rows_from row (k + 1) objects) _ xs b.rest in
    let whole = ap length (ok_same (b.first ∷ c.first) xs c.rest) in
    let rest = rows_count row (k + 1) objects c.first c.is in
    omega (arith, whole, rest)

layer_few : (at : place_in) (l : Data-F Data) (elements : List Data) → LayerIsCountable l → layer_elements at l ≡ Ok elements → length elements < 2 ^ 32
layer_few at (layer.Package count vs) elements few e = subst (λ es. length es < 2 ^ 32) (ok_same vs elements e) few
layer_few at (layer.VarPackage c) elements few e = subst (λ es. length es < 2 ^ 32) (ok_same c.elements elements e) few
layer_few at (layer.Int n) elements few e = absurd (err_ok _ elements e)
layer_few at layer.Ones elements few e = absurd (err_ok _ elements e)
layer_few at layer.Revision elements few e = absurd (err_ok _ elements e)
layer_few at (layer.Text text) elements few e = absurd (err_ok _ elements e)
layer_few at (layer.Buffer b) elements few e = absurd (err_ok _ elements e)
layer_few at (layer.Path path) elements few e = absurd (err_ok _ elements e)

csd_few : (width : Width) (object : Data) (es : List CDependency) → IsCountable object → csd_of width object ≡ Ok es → length es < 2 ^ 32
unfolding csd_of
csd_few width object es few e =
    let b = bound (elements_at (place 0 0) object) _ es e in
    let elements = layer_few (place 0 0) (out-Data object) b.first few b.is in
    let rows = rows_count (csd_row width) 1 b.first es b.rest in
    omega (arith, elements, rows)

pub told_few : {V : Type 0} (items : V → List CDependency) (path : Place) (width : Width) (object : Data) (r : Result V ReadFault) (told : Result (Option V) Memory) (old new : Said)
    → IsCountable object → Gives items r (csd_of width object) → IsTold path r told old new → IfOk told (λ o. IfSome o (λ v. length (items v) < 2 ^ 32))
told_few items path width object (Ok x) (Ok (Some v)) old new few gives told = subst (λ y. length (items y) < 2 ^ 32) (told_value told) (csd_few width object (items x) few gives)
told_few items path width object (Ok x) (Ok None) old new few gives told = tt
told_few items path width object (Ok x) (Err memory) old new few gives told = tt
told_few items path width object (Err (misshapen place why)) (Ok (Some v)) old new few gives told = absurd (cc)
told_few items path width object (Err (misshapen place why)) (Ok None) old new few gives told = tt
told_few items path width object (Err (misshapen place why)) (Err memory) old new few gives told = tt
told_few items path width object (Err no_memory) (Ok o) old new few gives told = absurd told
told_few items path width object (Err no_memory) (Err memory) old new few gives told = tt
