-- What functions answer that make parts of a plan.
use Rattle.std.specs.Prelude.{◌≡◌, Option, Some, None, Result, Ok, Err, IfOk}
use Rattle.pw_base.specs.declared.failure.Memory.{Memory}
use Rattle.acpi_values.specs.declared.fault.ReadFault.{ReadFault}
use Rattle.acpi_values.specs.declared.fault.ReadFault.TheVariants.{Shape as misshapen, Memory as no_memory}
use Rattle.acpi_space.specs.Places.{Place}
use Rattle.acpi_build.specs.declared.said.Said.{Said}
use Rattle.acpi_build.specs.Building.{Build, Remarks, built, done, refused}

-- the remarks that were said
abbrev pub remarks_in : Said → Remarks
remarks_in said = record { notes = said.notes.items; faults = said.faults.items }

-- What a function returned, seen by view, and the remarks before and after it, are as it is to be made, unless memory ran out.
abbrev pub Builds : {X Y : Type 0} → (X → Y) → Result X Memory → Said → Said → Build Y → Type 0
Builds view (Ok x) old new build = build (remarks_in old) ≡ built (view x) (remarks_in new)
Builds view (Err memory) old new build = Unit {0}

-- what was read of the object at this path: its value, or that it means nothing
abbrev pub IsTold : {A : Type 0} → Place → Result A ReadFault → Result (Option A) Memory → Said → Said → Type 0
IsTold path (Ok x) told old new = Builds (λ o. o) told old new (done (Some x))
IsTold path (Err (misshapen place why)) told old new = Builds (λ o. o) told old new (refused path place why None)
IsTold path (Err no_memory) told old new = IfOk told (λ _. ⊥)
