-- The containers and processors among objects, by their numbers (ACPI 6.5, 8.4).
use Rattle.std.specs.Prelude.{ℕ, ◌+◌, ◌==◌, ◌&&◌, ◌||◌, Bool, true, false, List, [], ◌∷◌, ◌++◌, length, take, filter, fold, codes, nat_eq, nat_lt, Option, Some, None, if◌then◌else◌}
use Rattle.std.specs.List.{flat_map, range_with_len}
use Rattle.std.specs.Option.{option_map, option_or}
use Rattle.std.specs.Cmp.Lexicographic.{pointwise}
use Rattle.aml_data.specs.declared.data.Data.{Data, Data-F, out-Data}
use Rattle.aml_data.specs.declared.data.Data.TheOpen as layer
use Rattle.acpi_space.specs.Things.{Thing}
use Rattle.acpi_space.specs.Things.Thing.{data_object, device, processor, method, alias_of}
use Rattle.acpi_space.specs.Places.{Place}
use Rattle.acpi_space.specs.Namespace.{Entry}
use Rattle.acpi_space.specs.Lookup.{entry_in, is_place, path_in, number_at}
use Rattle.pw_plan.specs.Limits.{in_32_bits}
use Rattle.acpi_build.specs.declared.names.Name.{Name}
use Rattle.acpi_build.specs.declared.names.Name.TheVariants.{Hid}
use Rattle.acpi_build.specs.Names.{segment_of}

-- # Who is one

-- the place of a name right below an object
abbrev pub place_below : List Entry → ℕ → Name → Place
place_below entries k name = path_in entries k ++ segment_of name ∷ []

abbrev pub layer_is_text : List ℕ → Data-F Data → Bool
layer_is_text text (layer.Text t) = pointwise nat_eq t text
layer_is_text text (layer.Int n) = false
layer_is_text text layer.Ones = false
layer_is_text text layer.Revision = false
layer_is_text text (layer.Buffer buffer) = false
layer_is_text text (layer.Package count elements) = false
layer_is_text text (layer.VarPackage counted) = false
layer_is_text text (layer.Path path) = false

-- whether an object is this text itself
abbrev pub is_text : List ℕ → Thing → Bool
is_text text (data_object d) = layer_is_text text (out-Data d)
is_text text device = false
is_text text processor = false
is_text text method = false
is_text text (alias_of name) = false

abbrev pub is_text_at : List Entry → List ℕ → Option ℕ → Bool
is_text_at entries text None = false
is_text_at entries text (Some k) = is_text text (entry_in entries k).object

-- whether the `_HID` of object k is this text (ACPI 6.5, 6.1.5)
abbrev pub has_id : List Entry → List ℕ → ℕ → Bool
has_id entries text k = is_text_at entries text (number_at entries (place_below entries k Hid))

abbrev pub is_device : Thing → Bool
is_device (data_object d) = false
is_device device = true
is_device processor = false
is_device method = false
is_device (alias_of name) = false

-- whether it is declared by a term of its own
abbrev pub is_declared : Thing → Bool
is_declared (data_object d) = false
is_declared device = false
is_declared processor = true
is_declared method = false
is_declared (alias_of name) = false

abbrev pub container_id : List ℕ
container_id = codes "ACPI0010"

abbrev pub processor_id : List ℕ
processor_id = codes "ACPI0007"

abbrev pub is_container : List Entry → ℕ → Bool
is_container entries k = is_device (entry_in entries k).object && has_id entries container_id k

abbrev pub is_processor : List Entry → ℕ → Bool
is_processor entries k = is_declared (entry_in entries k).object
    || (is_device (entry_in entries k).object && has_id entries processor_id k)

-- # Their order

-- the numbers of all objects
abbrev pub numbers_of : List Entry → List ℕ
numbers_of entries = range_with_len 0 (length entries)

-- processors in the order of the objects
unfoldable pub processors_of : List Entry → List ℕ
processors_of entries = filter (is_processor entries) (numbers_of entries)

-- how many segments the path of an object has
abbrev pub depth_in : List Entry → ℕ → ℕ
depth_in entries k = length (path_in entries k)

abbrev pub greater : ℕ → ℕ → ℕ
greater m n = if nat_lt m n then n else m

-- the most segments that the path of one of these has
abbrev pub most_segments : List Entry → List ℕ → ℕ
most_segments entries ks = fold (λ m k. greater m (depth_in entries k)) 0 ks

-- these by the number of their segments, and in their order where that is equal
abbrev pub by_depth : List Entry → List ℕ → List ℕ
by_depth entries ks =
    flat_map (λ n. filter (λ k. depth_in entries k == n) ks) (range_with_len 0 (most_segments entries ks + 1))

-- containers by the number of segments, and in the order of the objects where that is equal
unfoldable pub containers_of : List Entry → List ℕ
containers_of entries = by_depth entries (filter (is_container entries) (numbers_of entries))

-- # Their parents

-- whether the path of object c begins that of object k, and is shorter
abbrev pub is_around : List Entry → ℕ → ℕ → Bool
is_around entries k c =
    nat_lt (depth_in entries c) (depth_in entries k)
    && is_place (take (depth_in entries c) (path_in entries k)) (path_in entries c)

-- the place of the last that passes a test, the first being at place n
abbrev pub last_from : (ℕ → Bool) → ℕ → List ℕ → Option ℕ
last_from test n [] = None
last_from test n (x ∷ xs) = option_or (last_from test (n + 1) xs) (if test x then Some n else None)

-- of object k, the last container in order whose path begins its own and is shorter
unfoldable pub parent_of : List Entry → ℕ → Option ℕ
parent_of entries k = option_map in_32_bits (last_from (is_around entries k) 0 (containers_of entries))
