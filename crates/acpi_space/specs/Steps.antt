-- What terms do in the namespace, one step after the other: each step opens a place, places an object at it, or passes over a
-- term that stands in it (ACPI 6.5, 5.3 and 20.2.5).
use Rattle.std.specs.Prelude.{◌==◌, ◌&&◌, ℕ, Bool, false, List, [], ◌∷◌, ◌++◌, map, Option, Some, None, if◌then◌else◌}
use Rattle.aml_data.specs.declared.data.Width.{Width}
use Rattle.aml_data.specs.declared.path.Path.{Path}
use Rattle.aml_data.specs.declared.opcode.TheConstants.{ZERO_OP}
use Rattle.aml_block.specs.declared.opcode.TheConstants.{IF_OP, METHOD_OP}
use Rattle.aml_block.specs.declared.term.Term.{Term, Term-F, fold-Term}
use Rattle.aml_block.specs.declared.term.Term.TheOpen as layer
use Rattle.acpi_space.specs.Things.{Thing}
use Rattle.acpi_space.specs.Things.Thing.{data_object, device, processor, method, alias_of}
use Rattle.acpi_space.specs.Places.{Place, place_of, opened}
use Rattle.acpi_space.specs.inner.Naming.{named_by}

-- an object, and the width of its integers
pub record Sized : Type 0 where
  pub object : Thing
  pub width : Width

-- a place, and what is placed there, or the opcode of a term that stands in it and is passed over; neither where it is only
-- opened
pub record Step : Type 0 where
  pub place : Place
  pub given : Option Sized
  pub passed : Option ℕ

abbrev pub opens : Place → Step
opens place = record { place = place; given = None; passed = None }

abbrev pub gives : Width → Place → Thing → Step
gives width place object = record { place = place; given = Some (record { object = object; width = width }); passed = None }

abbrev pub passes : Place → ℕ → Step
passes place opcode = record { place = place; given = None; passed = Some opcode }

-- the places that were opened or given an object; one in which a term is passed over is among them, or the root
abbrev pub touched : List Step → List Place
touched steps = map (λ (s : Step). s.place) steps

-- what is done in a scope, after these steps
abbrev pub Turn : Type 0
Turn = Place → List Step → List Step

-- one turn after the other in a scope
abbrev pub in_order : List Turn → Turn
in_order [] scope before = []
in_order (t ∷ ts) scope before = t scope before ++ in_order ts scope (before ++ t scope before)

-- a step, and then the turns inside: their scope is its place
abbrev pub then_inside : Step → List Turn → List Step → List Step
then_inside step inside before = step ∷ in_order inside step.place (before ++ step ∷ [])

-- A method is placed where its body has a name: `named_by` tells the name that `IsMethodName` says, which is a law.
abbrev pub method_steps : Width → Place → Option Path → List Step
method_steps width scope None = []
method_steps width scope (Some path) = gives width (place_of scope path) method ∷ []

-- whether what is in a term is never run: in an If whose predicate is `Zero` (20.2.5.3)
abbrev pub never_runs : ℕ → List ℕ → Bool
never_runs opcode [] = false
never_runs opcode (b ∷ rest) = opcode == IF_OP && b == ZERO_OP

-- A term whose body isn't read is passed over, unless it is a method or never run.
abbrev pub unread_steps : Width → Place → ℕ → List ℕ → List Step
unread_steps width scope opcode body =
    if opcode == METHOD_OP then method_steps width scope (named_by body) else
    if never_runs opcode body then [] else passes scope opcode ∷ []

-- One layer of a term, the terms in which are turns already. Names, devices, processors, methods and aliases are placed,
-- a device or a processor before its content; a Scope opens a place; other terms but those whose body isn't read do nothing.
abbrev pub steps_layer : Width → Term-F Turn → Turn
steps_layer width (layer.Name path value) scope before = gives width (place_of scope path) (data_object value) ∷ []
steps_layer width (layer.Scope path inside) scope before = then_inside (opens (opened (touched before) scope path)) inside before
steps_layer width (layer.Device path inside) scope before = then_inside (gives width (place_of scope path) device) inside before
steps_layer width (layer.Processor path id block len inside) scope before = then_inside (gives width (place_of scope path) processor) inside
    before
steps_layer width (layer.Unread opcode body) scope before = unread_steps width scope opcode body
steps_layer width (layer.Alias source alias) scope before = gives width (place_of scope alias) (alias_of source) ∷ []
steps_layer width other scope before = []

-- what a term does, where integers have this width
unfoldable pub steps_of : Width → Term → Turn
steps_of width = fold-Term Turn (steps_layer width)

-- what terms do
abbrev pub steps_in : Width → List Term → Turn
steps_in width terms = in_order (map (steps_of width) terms)
