-- What stands after steps: the places that are known, as a tree, and what is placed or passed over, by the number of its place.
use Rattle.std.specs.Prelude.{◌≡◌, ◌≢◌, ◌<◌, ℕ, List, [], ◌++◌, length, map, get_or, Option, Some, None, Result, MatchResult}
use Rattle.acpi_space.specs.declared.object.Placed.{Placed}
use Rattle.acpi_space.specs.declared.building.Building.{Building}
use Rattle.acpi_space.specs.declared.fault.SpaceFault.{SpaceFault}
use Rattle.acpi_space.specs.declared.passed.Passed.{Passed}
use Rattle.acpi_space.specs.declared.passed.PassedOver.{PassedOver}
use Rattle.acpi_space.specs.Distinct.{IsDistinct}
use Rattle.acpi_space.specs.Places.{Place}
use Rattle.acpi_space.specs.Things.{thing}
use Rattle.acpi_space.specs.Steps.{Step, touched}
use Rattle.acpi_space.specs.Namespace.{Entry, entries_of, places_of}
use Rattle.acpi_space.specs.Passed.{passed_of}
use Rattle.acpi_space.specs.Standing.{IsFaultOf}
use Rattle.acpi_space.specs.inner.Trees.{Knows}

-- an object at the place of its number
abbrev pub entry_in : List Place → Placed → Entry
entry_in places p = record { path = get_or places p.name []; object = thing p.object; width = p.width }

abbrev pub entries_at : List Place → List Placed → List Entry
entries_at places placed = map (entry_in places) placed

-- the object that a list tells at the number of a place
abbrev pub told_at : List (Option ℕ) → ℕ → Option ℕ
told_at index k = get_or index k None

-- the list tells by the number of a place which object stands there
pub record IsIndex (places : List Place) (placed : List Placed) (index : List (Option ℕ)) : Type 0 where
  pub within : (i : ℕ) (d : Placed) → i < length placed → (get_or placed i d).name < length places
  pub numbered : (i : ℕ) (d : Placed) → i < length placed → (get_or placed i d).index ≡ i
  pub all : (i : ℕ) (d : Placed) → i < length placed → told_at index (get_or placed i d).name ≡ Some i
  pub only : (k i : ℕ) → told_at index k ≡ Some i → (i < length placed) × ((d : Placed) → (get_or placed i d).name ≡ k)

-- the root and all known places stand in the tree, and no others; and what the steps place is placed
pub record Stands (places : List Place) (placed : List Placed) (index : List (Option ℕ)) (steps : List Step) : Type 0 where
  pub known : Knows places (touched steps)
  pub entries : entries_at places placed ≡ entries_of steps
  pub indexed : IsIndex places placed index
  pub distinct : IsDistinct (places_of (entries_of steps))

-- a term that was passed over, in the place of its number
abbrev pub over_in : List Place → Passed → PassedOver
over_in places p = record { path = record { segs = get_or places p.name [] }; opcode = p.opcode }

abbrev pub over_at : List Place → List Passed → List PassedOver
over_at places passed = map (over_in places) passed

-- these terms are what the steps pass over
pub record ArePassed (places : List Place) (passed : List Passed) (steps : List Step) : Type 0 where
  pub within : (i : ℕ) (d : Passed) → i < length passed → (get_or passed i d).name < length places
  pub told : over_at places passed ≡ passed_of steps

-- this stands in what was built so far
abbrev pub StandsIn : Building → List Step → Type 0
StandsIn b steps = Stands b.tree b.placed.items b.index.items steps × ArePassed b.tree b.passed.items steps

-- what was done to what stood after any steps is a turn, or the fault of the turn
abbrev pub Does : {A : Type 0} → Building → Result A SpaceFault → Building → (List Step → List Step) → Type 0
Does old result new turn =
    (before : List Step) → StandsIn old before → MatchResult result (λ _. StandsIn new (before ++ turn before))
    (λ f. IsFaultOf f (before ++ turn before))

-- this object stands at this place of the list from now on, and all others where they stood
pub record IsNoted (old new : List (Option ℕ)) (place number : ℕ) : Type 0 where
  pub here : told_at new place ≡ Some number
  pub others : (k : ℕ) → k ≢ place → told_at new k ≡ told_at old k
