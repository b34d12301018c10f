-- Who is a processor and who a container, and which container is the parent of an object, in words (ACPI 6.5, 8.4).
use Rattle.std.specs.Prelude.{◌≡◌, ◌⊎◌, ◌<◌, ◌≤◌, ℕ, List, length, take, Contains, Any}
use Rattle.aml_data.specs.declared.data.Data.TheVariants.{Text}
use Rattle.acpi_space.specs.Things.{Thing}
use Rattle.acpi_space.specs.Things.Thing.{data_object, device, processor}
use Rattle.acpi_space.specs.Places.{Place}
use Rattle.acpi_space.specs.Namespace.{Entry}
use Rattle.acpi_space.specs.Lookup.{entry_in, path_in}
use Rattle.acpi_build.specs.declared.names.Name.TheVariants.{Hid}
use Rattle.acpi_build.specs.Finding.{container_id, containers_of, depth_in, place_below, processor_id}

-- # Who is one

-- this stands at this place
abbrev pub StandsAt : List Entry → Place → Thing → Type 0
StandsAt entries place object = Any (λ (e : Entry). (e.path ≡ place) × (e.object ≡ object)) entries

-- the `_HID` of object k is this text itself (ACPI 6.5, 6.1.5)
abbrev pub HasHid : List Entry → ℕ → List ℕ → Type 0
HasHid entries k text = StandsAt entries (place_below entries k Hid) (data_object (Text text))

-- a container is a device whose `_HID` is ACPI0010
pub record IsContainer (entries : List Entry) (k : ℕ) : Type 0 where
  pub among : k < length entries
  pub device : (entry_in entries k).object ≡ device
  pub hid : HasHid entries k container_id

-- a processor is a device whose `_HID` is ACPI0007, or is declared by a term of its own
pub data IsProcessor (entries : List Entry) (k : ℕ) : Type 0 where
  is_device : k < length entries → (entry_in entries k).object ≡ device → HasHid entries k processor_id
      → IsProcessor entries k
  is_declared_one : k < length entries → (entry_in entries k).object ≡ processor → IsProcessor entries k

-- object i has fewer segments than object j, or as many and stands before it
abbrev pub IsOuter : List Entry → ℕ → ℕ → Type 0
IsOuter entries i j = (depth_in entries i < depth_in entries j) ⊎ ((depth_in entries i ≡ depth_in entries j) × (i < j))

-- # Which container is a parent

-- the path of object c begins that of object k, and is shorter
pub record IsAround (entries : List Entry) (k c : ℕ) : Type 0 where
  pub shorter : depth_in entries c < depth_in entries k
  pub begins : take (depth_in entries c) (path_in entries k) ≡ path_in entries c

-- object c is the container with the longest path that begins that of object k and is shorter
pub record IsParent (entries : List Entry) (k c : ℕ) : Type 0 where
  pub container : Contains (containers_of entries) c
  pub around : IsAround entries k c
  pub longest : (b : ℕ) → Contains (containers_of entries) b → IsAround entries k b
      → depth_in entries b ≤ depth_in entries c
