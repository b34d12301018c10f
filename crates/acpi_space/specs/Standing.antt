-- What the calls of a space answer: its objects, or the first place that is given twice.
use Rattle.std.specs.Prelude.{◌≡◌, ◌<◌, ℕ, List, length, get_or}
use Rattle.acpi_space.specs.declared.object.Placed.{Placed}
use Rattle.acpi_space.specs.declared.fault.SpaceFault.{SpaceFault}
use Rattle.acpi_space.specs.declared.fault.SpaceFault.TheVariants.{Twice, Memory}
use Rattle.aml_block.specs.declared.block.Block.{Block}
use Rattle.acpi_space.specs.Distinct.{IsFirstRepeat}
use Rattle.acpi_space.specs.Places.{Place}
use Rattle.acpi_space.specs.Things.{thing}
use Rattle.acpi_space.specs.Steps.{Step}
use Rattle.acpi_space.specs.Namespace.{Entry, entries_of, places_of, steps_of_blocks}

-- the fault of steps, unless memory ran out: the first place that is given twice
abbrev pub IsFaultOf : SpaceFault → List Step → Type 0
IsFaultOf (Twice path) steps = IsFirstRepeat (places_of (entries_of steps)) path.segs
IsFaultOf Memory steps = Unit {0}

-- the fault of blocks, unless memory ran out
abbrev pub IsFaultIn : SpaceFault → List Block → Type 0
IsFaultIn f blocks = IsFaultOf f (steps_of_blocks blocks)

-- an object at this path
abbrev pub entry_from : Place → Placed → Entry
entry_from path p = record { path = path; object = thing p.object; width = p.width }

-- this is the object at this path, and its index is its place in the list
abbrev pub IsFound : List Entry → Place → Placed → Type 0
IsFound entries path p = (p.index < length entries) × ((d : Entry) → get_or entries p.index d ≡ entry_from path p)

-- these are the objects of the entries, in their order
pub record AreObjects (entries : List Entry) (placed : List Placed) : Type 0 where
  pub count : length placed ≡ length entries
  pub objects : (i : ℕ) (d : Entry) (e : Placed) → i < length placed
      → (thing (get_or placed i e).object ≡ (get_or entries i d).object) × ((get_or placed i e).width ≡ (get_or entries i d).width)
  pub numbered : (i : ℕ) (e : Placed) → i < length placed → (get_or placed i e).index ≡ i
