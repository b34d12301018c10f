-- Objects by their numbers, and numbers by places: object k is entry k of the list, counted from 0.
use Rattle.std.specs.Prelude.{ℕ, zero, suc, Bool, List, [], length, take, nat_eq, position, slice_index_or, Option, None, Some}
use Rattle.std.specs.Option.{option_or}
use Rattle.std.specs.Cmp.Lexicographic.{pointwise}
use Rattle.aml_data.specs.declared.data.Width.TheVariants.{W32}
use Rattle.acpi_space.specs.Things.Thing.{device}
use Rattle.acpi_space.specs.Places.{Place}
use Rattle.acpi_space.specs.Namespace.{Entry}

-- what is read past the end, which is never asked for
unfoldable pub no_entry : Entry
no_entry = record { path = []; object = device; width = W32 }

abbrev pub entry_in : List Entry → ℕ → Entry
entry_in entries k = slice_index_or entries k no_entry

abbrev pub path_in : List Entry → ℕ → Place
path_in entries k = (entry_in entries k).path

abbrev pub is_place : Place → Place → Bool
is_place p q = pointwise (pointwise nat_eq) p q

-- the number of the object at a place, where one stands there
unfoldable pub number_at : List Entry → Place → Option ℕ
number_at entries place = position (λ (e : Entry). is_place e.path place) entries

-- the label of the object of a number, where there is one that has a label
abbrev pub label_of : List (Option ℕ) → Option ℕ → Option ℕ
label_of labels None = None
label_of labels (Some k) = slice_index_or labels k None

-- the label of the object at a place, where one stands there that has one
abbrev pub label_at : List Entry → List (Option ℕ) → Place → Option ℕ
label_at entries labels place = label_of labels (number_at entries place)

-- the label at the longest of the first n beginnings of a place that has one there
unfoldable pub nearest : (Place → Option ℕ) → Place → ℕ → Option ℕ
nearest label place zero = None
nearest label place (suc n) = option_or (label (take n place)) (nearest label place n)

-- the label of the innermost labelled object around a place
abbrev pub label_around : List Entry → List (Option ℕ) → Place → Option ℕ
label_around entries labels place = nearest (label_at entries labels) place (length place)
