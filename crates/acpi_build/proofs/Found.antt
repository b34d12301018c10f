-- What is found below an object, by its number.
use Rattle.std.proofs.Common.{◌≡◌, List, Option, Some, None, MatchOption, sym, ap}
use Rattle.std.specs.Prelude.{Contains, IfSome}
use Rattle.std.specs.Option.{option_map}
use Rattle.acpi_space.specs.declared.object.Placed.{Placed}
use Rattle.acpi_space.specs.Distinct.{IsDistinct}
use Rattle.acpi_space.specs.Lookup.{entry_in, no_entry, number_at}
use Rattle.acpi_space.specs.Namespace.{Entry, places_of}
use Rattle.acpi_space.specs.Places.{Place}
use Rattle.acpi_space.specs.Standing.{IsFound}
use Rattle.acpi_space.specs.Things.{thing}
use Rattle.acpi_space.proofs.Lookups.{numbered, unnumbered}

pub found_number : {B : Type 0} (now : B → Placed) (entries : List Entry) (place : Place) (r : Option B) → IsDistinct (places_of entries)
    → MatchOption r (Contains (places_of entries) place → ⊥) (λ p. IsFound entries place (now p)) → option_map (λ p. (now p).index) r ≡ number_at entries place
found_number now entries place None distinct none = sym (unnumbered entries place none)
found_number now entries place (Some p) distinct found = sym (numbered entries (now p).index place distinct found.0 (ap (λ (e : Entry). e.path) (found.1 no_entry)))

pub found_object : {B : Type 0} (now : B → Placed) (entries : List Entry) (place : Place) (r : Option B)
    → MatchOption r (Contains (places_of entries) place → ⊥) (λ p. IsFound entries place (now p)) → IfSome r (λ p. thing (now p).object ≡ (entry_in entries (now p).index).object)
found_object now entries place None none = tt
found_object now entries place (Some p) found = sym (ap (λ (e : Entry). e.object) (found.1 no_entry))

pub found_width : {B : Type 0} (now : B → Placed) (entries : List Entry) (place : Place) (r : Option B)
    → MatchOption r (Contains (places_of entries) place → ⊥) (λ p. IsFound entries place (now p)) → IfSome r (λ p. (now p).width ≡ (entry_in entries (now p).index).width)
found_width now entries place None none = tt
found_width now entries place (Some p) found = sym (ap (λ (e : Entry). e.width) (found.1 no_entry))
