-- What `show` prints: a line for each object of the namespace.
use Rattle.std.specs.Prelude.{ℕ, List, ◌++◌, codes}
use Rattle.std.specs.List.{flat_map}
use Rattle.acpi_space.specs.Things.{Thing}
use Rattle.acpi_space.specs.Things.Thing.{data_object, device, processor, method, alias_of}
use Rattle.acpi_space.specs.Places.{Place}
use Rattle.acpi_space.specs.Namespace.{Entry}
use Rattle.pw_text.specs.Text.{path_text, place_text}
use Rattle.pw_show.specs.Values.{value_text}

-- what stands behind the path of an object: the value of a data object, the target of an alias as it is written (ACPI 6.5,
-- 20.2.5.1), and otherwise what it is
abbrev pub object_text : Thing → List ℕ
object_text (data_object value) = codes " = " ++ value_text value
object_text device = codes " device"
object_text processor = codes " processor"
object_text method = codes " method"
object_text (alias_of target) = codes " alias " ++ path_text target

-- the line of an object: its full path, and what it is
abbrev pub object_line : Place → Thing → List ℕ
object_line path object = place_text path ++ object_text object ++ codes "\n"

-- the line of an object of the namespace
abbrev pub show_line : Entry → List ℕ
show_line entry = object_line entry.path entry.object

-- a line for each object, in order
abbrev pub show_text : List Entry → List ℕ
show_text entries = flat_map show_line entries
