-- What `show --json` prints: the objects of the namespace as one JSON text (RFC 8259), whose objects have their keys in byte order.
use Rattle.std.specs.Prelude.{ℕ, List, ◌++◌, map, codes, encode_utf8_all}
use Rattle.std.specs.List.{join_with_byte}
use Rattle.aml_data.specs.declared.data.Data.{Data, Data-F, fold-Data}
use Rattle.aml_data.specs.declared.data.Data.TheOpen as layer
use Rattle.acpi_space.specs.Things.{Thing}
use Rattle.acpi_space.specs.Things.Thing.{data_object, device, processor, method, alias_of}
use Rattle.acpi_space.specs.Places.{Place}
use Rattle.acpi_space.specs.Namespace.{Entry}
use Rattle.pw_text.specs.Text.{path_text, place_text}
use Rattle.serde_json.specs.Data.{Data as Json, null, number, unsigned, string, array, object, member, no_members}
use Rattle.serde_json.specs.View.{items_of}
use Rattle.serde_json.specs.Written.{compact_text}

-- The text whose characters have these codes. The bytes of a string of a block are 1 to 127 (ACPI 6.5, 20.2.3), and stand as they are.
abbrev pub characters : List ℕ → Json
characters bytes = string (encode_utf8_all bytes)

-- a list of numbers
abbrev pub numbers : List ℕ → Json
numbers values = array (items_of (map (λ (n : ℕ). number (unsigned n)) values))

-- a buffer: the bytes that are given, and its size
abbrev pub buffer_json : ℕ → List ℕ → Json
buffer_json size bytes = object (member (codes "bytes") (numbers bytes) (member (codes "size") (number (unsigned size)) no_members))

-- a package: how many elements it has, and those that are given
abbrev pub package_json : ℕ → List Json → Json
package_json count elements =
    object (member (codes "count") (number (unsigned count)) (member (codes "elements") (array (items_of elements)) no_members))

-- the kind of a data object, and its value
pub record Told : Type 0 where
  pub kind : List ℕ
  pub value : Json

-- an element of a package
abbrev pub element_json : Told → Json
element_json x = object (member (codes "kind") (string x.kind) (member (codes "value") x.value no_members))

-- one layer of a data object, whose elements are told already (ACPI 6.5, 20.2.3)
abbrev pub told_layer : Data-F Told → Told
told_layer (layer.Int n) = record { kind = codes "integer"; value = number (unsigned n) }
told_layer layer.Ones = record { kind = codes "ones"; value = null }
told_layer layer.Revision = record { kind = codes "revision"; value = null }
told_layer (layer.Text text) = record { kind = codes "string"; value = characters text }
told_layer (layer.Buffer buffer) = record { kind = codes "buffer"; value = buffer_json buffer.size buffer.bytes }
told_layer (layer.Package count elements) = record { kind = codes "package"; value = package_json count (map element_json elements) }
told_layer (layer.VarPackage counted) =
    record { kind = codes "varpackage"; value = package_json counted.count (map element_json counted.elements) }
told_layer (layer.Path path) = record { kind = codes "path"; value = string (path_text path) }

-- a data object
unfoldable pub told : Data → Told
told = fold-Data Told told_layer

-- an object of the namespace that has no value, by its kind and its full path
abbrev pub without_value : List ℕ → Place → Json
without_value kind path = object (member (codes "kind") (string kind) (member (codes "path") (string (place_text path)) no_members))

-- one that has a value
abbrev pub with_value : List ℕ → Place → Json → Json
with_value kind path value =
    object (member (codes "kind") (string kind) (member (codes "path") (string (place_text path))
    (member (codes "value") value no_members)))

-- What stands at a place. An alias has its target as it is written (ACPI 6.5, 20.2.5.1).
abbrev pub object_json : Place → Thing → Json
object_json path (data_object value) = with_value (told value).kind path (told value).value
object_json path device = without_value (codes "device") path
object_json path processor = without_value (codes "processor") path
object_json path method = without_value (codes "method") path
object_json path (alias_of target) = with_value (codes "alias") path (string (path_text target))

-- an object of the namespace
abbrev pub entry_json : Entry → Json
entry_json entry = object_json entry.path entry.object

-- its text, without a space
abbrev pub entry_text : Entry → List ℕ
entry_text entry = compact_text (entry_json entry)

-- one line: in brackets the text of each object, in order, with a comma between each two
abbrev pub json_text : List Entry → List ℕ
json_text entries = codes "[" ++ join_with_byte 44 (map entry_text entries) ++ codes "]\n"
