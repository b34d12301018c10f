-- How the name of a method is read. What it is says `IsMethodName`; a law ties the two.
use Rattle.std.specs.Prelude.{ℕ, ◌==◌, List, length, Option, Some, None, Ok, Err, if◌then◌else◌}
use Rattle.aml_data.specs.declared.path.Path.{Path}
use Rattle.aml_data.specs.inner.Reading.{Read, name_at}
use Rattle.acpi_space.specs.declared.terms.MethodName.{MethodName}

-- a name that was read, where it has a segment
abbrev pub with_a_segment : Read Path → Option Path
with_a_segment (Ok name) = if length name.0.segs == 0 then None else Some name.0
with_a_segment (Err fault) = None

unfoldable pub named_by : List ℕ → Option Path
named_by body = with_a_segment (name_at (length body) body)

-- a name of the code's own kind
abbrev pub path_of : MethodName → Path
path_of name = record { root = name.root; ups = name.ups; segs = name.segs }
