-- The definition blocks that files hold under names, in the order of the names, and what is first at fault there.
use Rattle.std.specs.Prelude.{◌≡◌, ◌≤◌, ◌<◌, ℕ, ◌+◌, ◌-◌, List, [], ◌∷◌, length, take, get_or, map, Option, Some, None}
use Rattle.std.specs.List.{sum_by}
use Rattle.std.specs.Borrow.{Bor}
use Rattle.pw_base.specs.Outside.{Rose}
use Rattle.aml_data.specs.Decoded.{AreBytes}
use Rattle.aml_block.specs.declared.block.Block.{Block}
use Rattle.aml_block.specs.declared.fault.BlockFault.{BlockFault}
use Rattle.aml_block.specs.declared.fault.BlockFault.TheVariants.{ReadFault as unread, Memory as no_memory}
use Rattle.aml_block.specs.Spelling.{BlockSpells}
use Rattle.aml_block.specs.Faults.{BlockFails}
use Rattle.aml_block.specs.declared.blocks_reading.TheConstants.{LARGEST_SUM}
use Rattle.aml_block.specs.declared.blocks_fault.BlocksFault.{BlocksFault}
use Rattle.aml_block.specs.declared.blocks_fault.BlocksFault.TheVariants.{Block as in_block, Large, ReadFault, Memory}

-- the bytes of each name
abbrev pub names_of : List (Bor (List ℕ)) → List (List ℕ)
names_of names = map (λ n. n.now) names

-- What is held spells this block, by so many bytes.
pub record IsBlock (held : Option (List ℕ)) (block : Block) (size : ℕ) : Type 0 where
  pub bytes : List ℕ
  pub is : held ≡ Some bytes
  pub spelled : BlockSpells block bytes
  pub counted : size ≡ length bytes

-- What is held spells no block, for this first fault.
pub record HasFault (held : Option (List ℕ)) (fault : BlockFault) : Type 0 where
  pub bytes : List ℕ
  pub is : held ≡ Some bytes
  pub fails : BlockFails bytes fault

-- These are the blocks under these names, each name's in its turn. Together with what was read before they have at most
-- 16,777,216 bytes, which is this project's own limit.
pub data AreBlocks (holds : List ℕ → Option (List ℕ)) : (before : ℕ) → List (List ℕ) → List Block → Type 0 where
  no_block : {before : ℕ} → AreBlocks holds before [] []
  one_block : {before size : ℕ} {name : List ℕ} {names : List (List ℕ)} {block : Block} {blocks : List Block}
      → IsBlock (holds name) block size → before + size ≤ LARGEST_SUM
      → AreBlocks holds (before + size) names blocks → AreBlocks holds before (name ∷ names) (block ∷ blocks)

-- This is first at fault under these names, the blocks of which are counted from this number on: a block, or that there
-- are too many bytes. The bytes are added up behind each block, before the next one is looked at.
pub data IsFirstFault (holds : List ℕ → Option (List ℕ)) : (number before : ℕ) → List (List ℕ) → BlocksFault → Type 0 where
  in_this : {number before : ℕ} {name : List ℕ} {names : List (List ℕ)} {fault : BlockFault}
      → HasFault (holds name) fault → IsFirstFault holds number before (name ∷ names) (in_block number fault)
  too_large : {number before size : ℕ} {name : List ℕ} {names : List (List ℕ)} {block : Block}
      → IsBlock (holds name) block size → LARGEST_SUM < before + size → IsFirstFault holds number before (name ∷ names) Large
  behind_this : {number before size : ℕ} {name : List ℕ} {names : List (List ℕ)} {block : Block} {fault : BlocksFault}
      → IsBlock (holds name) block size → before + size ≤ LARGEST_SUM
      → IsFirstFault holds (number + 1) (before + size) names fault → IsFirstFault holds number before (name ∷ names) fault

-- files that hold these blocks under these names
abbrev pub HoldBlocks : (List ℕ → Option (List ℕ)) → List (List ℕ) → List Block → Type 0
HoldBlocks holds names blocks = AreBlocks holds 0 names blocks

-- files in which this is first at fault under these names
abbrev pub FailFirst : (List ℕ → Option (List ℕ)) → List (List ℕ) → BlocksFault → Type 0
FailFirst holds names fault = IsFirstFault holds 1 0 names fault

-- # What a fault of reading says

-- The file of this number, from 1, is one of them, and the files before it hold blocks.
pub record HoldBefore (holds : List ℕ → Option (List ℕ)) (names : List (List ℕ)) (number : ℕ) : Type 0 where
  pub some : 1 ≤ number
  pub within : number ≤ length names
  pub blocks : List Block
  pub held : HoldBlocks holds (take (number - 1) names) blocks

-- the name of this number, from 1
abbrev pub name_at : List (List ℕ) → ℕ → List ℕ
name_at names number = get_or names (number - 1) []

-- Nothing is held under the name of this number, and the files before it hold blocks.
pub record IsAbsent (holds : List ℕ → Option (List ℕ)) (names : List (List ℕ)) (number : ℕ) : Type 0 where
  pub before : HoldBefore holds names number
  pub absent : holds (name_at names number) ≡ None

-- what is held consists of bytes
abbrev pub HoldBytes : (List ℕ → Option (List ℕ)) → Type 0
HoldBytes holds = (name bytes : List ℕ) → holds name ≡ Some bytes → AreBytes bytes

-- Of files that tell: what is first at fault; where a file couldn't be read, that the files before it hold blocks. Want of
-- memory may come at any time.
abbrev pub IsCauseOf : (List ℕ → Option (List ℕ)) → List (List ℕ) → BlocksFault → Type 0
IsCauseOf holds names (in_block number fault) = FailFirst holds names (in_block number fault)
IsCauseOf holds names Large = FailFirst holds names Large
IsCauseOf holds names (ReadFault number) = HoldBefore holds names number
IsCauseOf holds names Memory = Unit {0}

-- The file of this number, from 1, is one of them, and it is one of which a read failed: the count of its name rose.
pub record IsUnread (names : List (List ℕ)) (number : ℕ) (old new : List ℕ → ℕ) : Type 0 where
  pub some : 1 ≤ number
  pub within : number ≤ length names
  pub rose : Rose (old (name_at names number)) (new (name_at names number))

-- a file couldn't be read only where a read of this very file failed
abbrev pub RoseIfUnread : List (List ℕ) → BlocksFault → (List ℕ → ℕ) → (List ℕ → ℕ) → Type 0
RoseIfUnread names (ReadFault number) old new = IsUnread names number old new
RoseIfUnread names fault old new = Unit {0}

-- a block is refused for what its bytes are
abbrev pub IsOfBytes : BlockFault → Type 0
IsOfBytes unread = ⊥
IsOfBytes no_memory = ⊥
IsOfBytes fault = Unit {0}

abbrev pub IsOwn : BlocksFault → Type 0
IsOwn (in_block number fault) = IsOfBytes fault
IsOwn fault = Unit {0}

-- # The same in whole lists

-- each of the blocks is spelled by the bytes at its place
abbrev pub SpellEach : List Block → List (List ℕ) → Type 0
SpellEach [] [] = Unit {0}
SpellEach (block ∷ blocks) (bytes ∷ contents) = BlockSpells block bytes × SpellEach blocks contents
SpellEach [] (bytes ∷ contents) = ⊥
SpellEach (block ∷ blocks) [] = ⊥

-- The names are held, what they hold spells the blocks in order, and all of it has at most 16,777,216 bytes.
pub record AreHeld (holds : List ℕ → Option (List ℕ)) (names : List (List ℕ)) (blocks : List Block) : Type 0 where
  pub contents : List (List ℕ)
  pub held : map holds names ≡ map (λ c. Some c) contents
  pub spelled : SpellEach blocks contents
  pub few : sum_by length contents ≤ LARGEST_SUM
