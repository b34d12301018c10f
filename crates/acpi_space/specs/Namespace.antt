-- The objects that definition blocks place in the namespace, or the first place that is given twice (ACPI 6.5, 5.3).
use Rattle.std.specs.Prelude.{List, [], ◌∷◌, map, Option, Some, None}
use Rattle.std.specs.List.{filter_map}
use Rattle.std.specs.Option.{unwrap_or}
use Rattle.aml_data.specs.declared.data.Width.{Width}
use Rattle.aml_block.specs.declared.block.Block.{Block}
use Rattle.aml_block.specs.declared.block.Signature.TheVariants.{Dsdt, Ssdt}
use Rattle.aml_block.specs.Header.{own_width}
use Rattle.acpi_space.specs.Things.{Thing}
use Rattle.acpi_space.specs.Places.{Place}
use Rattle.acpi_space.specs.Steps.{Sized, Step, Turn, in_order, steps_in}

-- an object at its full path, and the width of its integers
pub record Entry : Type 0 where
  pub path : Place
  pub object : Thing
  pub width : Width

-- what a step places
abbrev pub entry_at : Place → Option Sized → Option Entry
entry_at place None = None
entry_at place (Some x) = Some (record { path = place; object = x.object; width = x.width })

abbrev pub entries_of : List Step → List Entry
entries_of steps = filter_map (λ (s : Step). entry_at s.place s.given) steps

-- where objects are placed
abbrev pub places_of : List Entry → List Place
places_of entries = map (λ (e : Entry). e.path) entries

-- the width of the first block that is a DSDT: it is that of all blocks (ACPI 6.5, 5.2.11.1)
abbrev pub dsdt_width : List Block → Option Width
dsdt_width [] = None
dsdt_width (block ∷ blocks) = elim block.header.signature [
  | Dsdt ↦ Some (own_width block.header)
  | Ssdt ↦ dsdt_width blocks
]

-- the width of the integers of a block among these; where none is a DSDT each goes by its own revision, which is this
-- project's profile
abbrev pub width_among : List Block → Block → Width
width_among blocks block = unwrap_or (dsdt_width blocks) (own_width block.header)

-- what a block does: its scope is the root
abbrev pub block_turn : List Block → Block → Turn
block_turn blocks block scope before = steps_in (width_among blocks block) block.terms [] before

-- what blocks do, one after the other; what is known goes on from block to block
abbrev pub steps_of_blocks : List Block → List Step
steps_of_blocks blocks = in_order (map (block_turn blocks) blocks) [] []

-- all that blocks place, in their order
abbrev pub entries_in : List Block → List Entry
entries_in blocks = entries_of (steps_of_blocks blocks)
