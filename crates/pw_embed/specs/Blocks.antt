-- What blocks come to.
use Rattle.std.specs.Prelude.{◌≡◌, ◌++◌, ◌∷◌, [], ℕ, List, length}
use Rattle.std.specs.List.{AllZip}
use Rattle.acpi_values.specs.declared.fault.Place.{Place as place_in}
use Rattle.acpi_values.specs.declared.fault.Why.{Why}
use Rattle.aml_data.specs.declared.path.FullPath.{FullPath}
use Rattle.aml_block.specs.declared.block.Block.{Block as block}
use Rattle.aml_block.specs.declared.fault.BlockFault.{BlockFault}
use Rattle.aml_block.specs.Faults.{BlockFails}
use Rattle.aml_block.specs.Spelling.{BlockSpells}
use Rattle.acpi_space.specs.declared.fault.SpaceFault.TheVariants as space_faults
use Rattle.acpi_space.specs.Namespace.{entries_in}
use Rattle.acpi_space.specs.Standing.{IsFaultIn}
use Rattle.acpi_build.specs.declared.fault.BuildFault.TheVariants as build_faults
use Rattle.acpi_build.specs.declared.note.Note.{Note}
use Rattle.acpi_build.specs.Building.{IsFault}
use Rattle.acpi_build.specs.Planning.{IsPlanFrom, parts_within}
use Rattle.pw_plan.specs.declared.plan.Plan.{Plan}
use Rattle.pw_plan.specs.Limits.{in_32_bits}
use Rattle.pw_text.specs.Text.{place_text}
use Rattle.pw_embed.specs.declared.faults.FaultNumbers.{FaultNumbers}
use Rattle.pw_embed.specs.declared.status.Status.{Status}
use Rattle.pw_embed.specs.declared.status.Status.TheVariants.{Done, NoMemory, Block, Twice, Object, Limit}
use Rattle.pw_embed.specs.Faults.{block_numbers, limit_numbers, object_numbers, twice_numbers}
use Rattle.pw_embed.specs.Paths.{IsOver}

-- the blocks that bytes spell, in their order
abbrev pub AreSpelled : List (List ℕ) → List block → Type 0
AreSpelled sources blocks = AllZip BlockSpells blocks sources

-- The bytes spell a block, and stand behind the others; or they spell none, for this reason; or there was no memory.
unfoldable pub Added : List (List ℕ) → List ℕ → FaultNumbers → List (List ℕ) → FaultNumbers → Status → Type 0
Added old bytes fault new fault' Done = ((b : block) × BlockSpells b bytes) × (new ≡ old ++ bytes ∷ []) × (fault' ≡ fault)
Added old bytes fault new fault' Block = ((f : BlockFault) × BlockFails bytes f × (fault' ≡ block_numbers f)) × (new ≡ old)
Added old bytes fault new fault' NoMemory = (new ≡ old) × (fault' ≡ fault)
Added old bytes fault new fault' _ = ⊥

-- The plan of the blocks that the bytes spell, and how many notes there are.
pub record IsPlanned (sources : List (List ℕ)) (P : Plan) (count : ℕ) : Type 0 where
  pub blocks : List block
  pub spelled : AreSpelled sources blocks
  pub notes : List Note
  pub planned : IsPlanFrom (entries_in blocks) P notes
  pub counted : count ≡ in_32_bits (length notes)

-- The path is written where there is room for it, and its length is told.
abbrev pub ToldPath : FullPath → List ℕ → List ℕ → (ℕ → FaultNumbers) → FaultNumbers → Type 0
ToldPath path room room' numbers fault' =
    IsOver (place_text path.segs) room room' × (fault' ≡ numbers (length (place_text path.segs)))

-- Why blocks make no plan: the first path that is given twice, object that means nothing, or limit that is passed.
unfoldable pub RefusedBy : List block → FaultNumbers → List ℕ → FaultNumbers → List ℕ → Status → Type 0
RefusedBy blocks fault room fault' room' NoMemory = (fault' ≡ fault) × (room' ≡ room)
RefusedBy blocks fault room fault' room' Twice =
    (path : FullPath) × IsFaultIn (space_faults.Twice path) blocks × ToldPath path room room' twice_numbers fault'
RefusedBy blocks fault room fault' room' Object =
    (path : FullPath) × (place : place_in) × (why : Why)
    × IsFault (build_faults.Object path place why) (parts_within (entries_in blocks) [])
    × ToldPath path room room' (object_numbers place why) fault'
RefusedBy blocks fault room fault' room' Limit =
    (which : ℕ) × (number : ℕ) × IsFault (build_faults.Limit which number) (parts_within (entries_in blocks) [])
    × (fault' ≡ limit_numbers which number) × (room' ≡ room)
RefusedBy blocks fault room fault' room' _ = ⊥

-- why bytes make no plan
unfoldable pub Refused : List (List ℕ) → FaultNumbers → List ℕ → FaultNumbers → List ℕ → Status → Type 0
Refused sources fault room fault' room' NoMemory = (fault' ≡ fault) × (room' ≡ room)
Refused sources fault room fault' room' s = (blocks : List block) × AreSpelled sources blocks × RefusedBy blocks fault room fault' room' s

-- why blocks, or bytes, make no plan, where nothing more is told of it
abbrev pub UnplannedBy : List block → Status → Type 0
UnplannedBy blocks s = (fault fault' : FaultNumbers) × (room room' : List ℕ) × RefusedBy blocks fault room fault' room' s

abbrev pub Unplanned : List (List ℕ) → Status → Type 0
Unplanned sources s = (fault fault' : FaultNumbers) × (room room' : List ℕ) × Refused sources fault room fault' room' s
