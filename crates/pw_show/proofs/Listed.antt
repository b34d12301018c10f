-- The text of a list of objects is that of one array.
use Rattle.std.proofs.Common.{◌≡◌, List, ◌++◌, map, codes}
use Rattle.acpi_space.specs.Namespace.{Entry}
use Rattle.serde_json.specs.Data.{array}
use Rattle.serde_json.specs.View.{items_of}
use Rattle.serde_json.specs.Written.{compact_text}
use Rattle.pw_show.specs.Json.{entry_json, json_text}
use Rattle.pw_show.proofs.Compact.{array_then}

pub text_of_array : (es : List Entry) → json_text es ≡ compact_text (array (items_of (map entry_json es))) ++ codes "\n"
text_of_array es = array_then entry_json es (codes "\n")
