-- Making parts of a plan, while it is remarked what counts as absent: what is made, and all remarks after it.
use Rattle.std.specs.Prelude.{◌≡◌, List, [], ◌∷◌, ◌++◌, Result, Err}
use Rattle.acpi_values.specs.declared.fault.Place.{Place as place_in}
use Rattle.acpi_values.specs.declared.fault.Why.{Why}
use Rattle.acpi_space.specs.Places.{Place}
use Rattle.acpi_build.specs.declared.fault.BuildFault.{BuildFault}
use Rattle.acpi_build.specs.declared.fault.BuildFault.TheVariants.{Object, Limit, Memory}
use Rattle.acpi_build.specs.declared.fault.ObjectFault.{ObjectFault}
use Rattle.acpi_build.specs.declared.note.Note.{Note}
use Rattle.acpi_build.specs.declared.note.NoteKind.{NoteKind}

-- what was remarked so far: notes, and which objects mean nothing, each in order
pub record Remarks : Type 0 where
  pub notes : List Note
  pub faults : List ObjectFault

-- these notes alone
abbrev pub noting : List Note → Remarks
noting notes = record { notes = notes; faults = [] }

-- what is made, and all remarks then
pub data Made (A : Type 0) : Type 0 where
  built : A → Remarks → Made A

-- behind these remarks
abbrev pub Build : Type 0 → Type 0
Build A = Remarks → Made A

abbrev pub after : {A B : Type 0} → Made A → (A → Build B) → Made B
after (built x remarks) f = f x remarks

-- one thing and then the next
infixl 10 ◌>>=◌
abbrev pub ◌>>=◌ : {A B : Type 0} → Build A → (A → Build B) → Build B
m >>= f = λ before. after (m before) f

abbrev pub done : {A : Type 0} → A → Build A
done x before = built x before

abbrev pub note_at : Place → NoteKind → Note
note_at path kind = record { path = record { segs = path }; kind = kind }

-- one note more
abbrev pub noted : {A : Type 0} → Place → NoteKind → A → Build A
noted path kind x before =
    built x (record { notes = before.notes ++ note_at path kind ∷ []; faults = before.faults })

abbrev pub fault_at : Place → place_in → Why → ObjectFault
fault_at path place why = record { path = record { segs = path }; place = place; why = why }

-- the object at this path means nothing, at this place in it first: one fault more
abbrev pub refused : {A : Type 0} → Place → place_in → Why → A → Build A
refused path place why x before =
    built x (record { notes = before.notes; faults = before.faults ++ fault_at path place why ∷ [] })

-- of each in order
abbrev pub each : {X A : Type 0} → (X → Build A) → List X → Build (List A)
each f [] = done []
each f (x ∷ xs) = f x >>= λ y. each f xs >>= λ ys. done (y ∷ ys)

-- the fault is the one that is found, unless memory ran out
abbrev pub IsFault : {A : Type 0} → BuildFault → Result A BuildFault → Type 0
IsFault (Object path place why) made = made ≡ Err (Object path place why)
IsFault (Limit which number) made = made ≡ Err (Limit which number)
IsFault Memory made = Unit {0}
