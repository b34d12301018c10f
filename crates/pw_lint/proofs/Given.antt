-- What stands at a place.
use Rattle.std.proofs.Common.{◌≡◌, ◌∙◌, List, None, ap}
use Rattle.std.specs.Prelude.{Bool, true, false, Contains, is_some}
use Rattle.acpi_space.specs.declared.object.Placed.{Placed}
use Rattle.acpi_space.specs.Distinct.{IsDistinct}
use Rattle.acpi_space.specs.Lookup.{no_entry, number_at}
use Rattle.acpi_space.specs.Namespace.{Entry, places_of}
use Rattle.acpi_space.specs.Places.{Place}
use Rattle.acpi_space.specs.Standing.{IsFound}
use Rattle.acpi_space.specs.Things.{Thing, thing}
use Rattle.acpi_space.proofs.Lookups.{numbered, unnumbered}
use Rattle.pw_lint.specs.Tables.{given_as, given_at, given_in, is_there}

pub none_given : (entries : List Entry) (place : Place) → (Contains (places_of entries) place → ⊥) → given_at entries place ≡ None
unfolding given_at
none_given entries place none = ap (given_as entries) (unnumbered entries place none)

pub some_given : (entries : List Entry) (place : Place) (p : Placed) → IsDistinct (places_of entries) → IsFound entries place p
    → given_at entries place ≡ given_in p.width (thing p.object)
unfolding given_at
some_given entries place p distinct found =
    ap (given_as entries) (numbered entries p.index place distinct found.0 (ap (λ (e : Entry). e.path) (found.1 no_entry)))
    ∙ ap (λ (e : Entry). given_in e.width e.object) (found.1 no_entry)

-- whether anything stands there
pub none_stands : (entries : List Entry) (place : Place) → (Contains (places_of entries) place → ⊥) → is_some (number_at entries place) ≡ false
none_stands entries place none = ap is_some (unnumbered entries place none)

pub some_stands : (entries : List Entry) (place : Place) (p : Placed) → IsDistinct (places_of entries) → IsFound entries place p
    → is_some (number_at entries place) ≡ true
some_stands entries place p distinct found =
    ap is_some (numbered entries p.index place distinct found.0 (ap (λ (e : Entry). e.path) (found.1 no_entry)))

-- whether what stands there is of a sort
pub none_there : (test : Thing → Bool) (entries : List Entry) (place : Place) → (Contains (places_of entries) place → ⊥)
    → is_there test entries (number_at entries place) ≡ false
none_there test entries place none = ap (is_there test entries) (unnumbered entries place none)

pub some_there : (test : Thing → Bool) (entries : List Entry) (place : Place) (p : Placed) → IsDistinct (places_of entries) → IsFound entries place p
    → is_there test entries (number_at entries place) ≡ test (thing p.object)
some_there test entries place p distinct found =
    ap (is_there test entries) (numbered entries p.index place distinct found.0 (ap (λ (e : Entry). e.path) (found.1 no_entry)))
    ∙ ap (λ (e : Entry). test e.object) (found.1 no_entry)
