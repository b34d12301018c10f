-- What a command works on, step by step, and why a step refuses it.
use Rattle.std.specs.Prelude.{◌≡◌, ℕ, false, List, [], length, Err}
use Rattle.std.proofs.Common.{◌⊎◌}
use Rattle.pw_base.specs.Seen.{FilesSeen, OfFiles}
use Rattle.aml_block.specs.declared.block.Block.{Block}
use Rattle.acpi_space.specs.Distinct.{IsDistinct, IsFirstRepeat}
use Rattle.acpi_space.specs.Namespace.{Entry, entries_in, places_of}
use Rattle.acpi_space.specs.Places.{Place}
use Rattle.acpi_build.specs.declared.fault.BuildFault.{BuildFault}
use Rattle.acpi_build.specs.declared.fault.BuildFault.TheVariants.{Object, Limit, Memory as no_memory}
use Rattle.acpi_build.specs.Planning.{parts_within}
use Rattle.pw_check.specs.Refusals.{refusal_line}
use Rattle.aml_block.specs.declared.blocks_fault.BlocksFault.{BlocksFault}
use Rattle.aml_block.specs.declared.blocks_fault.BlocksFault.TheVariants.{ReadFault, Memory}
use Rattle.aml_block.specs.Held.{FailFirst, HoldBefore, HoldBlocks, IsOwn, IsUnread}
use Rattle.pw_load.specs.Ends.{Work}
use Rattle.pw_load.specs.Lines.{blocks_line, twice_line}

-- # Files to blocks

-- blocks that the files of these names hold, where the files tell
abbrev pub AreHeldBy : FilesSeen → List (List ℕ) → List Block → Type 0
AreHeldBy files names blocks = OfFiles files (λ holds. HoldBlocks holds names blocks)

-- it is a fault of blocks, and neither of the outside nor want of memory
abbrev pub IsOfBlocks : BlocksFault → Type 0
IsOfBlocks (ReadFault number) = ⊥
IsOfBlocks Memory = ⊥
IsOfBlocks fault = IsOwn fault

-- the status where no blocks were read
abbrev pub fault_status : BlocksFault → ℕ
fault_status (ReadFault number) = 3
fault_status Memory = 6
fault_status fault = 1

-- No blocks are spelled under these names, for this reason: it is what is first at fault, where the files tell.
pub record IsUnspelled (files : FilesSeen) (names : List (List ℕ)) (status : ℕ) (line : List ℕ) : Type 0 where
  pub is : status ≡ 1
  pub fault : BlocksFault
  pub of_blocks : IsOfBlocks fault
  pub first : OfFiles files (λ holds. FailFirst holds names fault)
  pub says : line ≡ blocks_line (length names) fault

-- A file of these names couldn't be read: a read of it failed. Where the files tell, those before it hold blocks.
pub record IsOneUnread (before after : FilesSeen) (names : List (List ℕ)) : Type 0 where
  pub number : ℕ
  pub failed : IsUnread names number before.faults after.faults
  pub held : OfFiles before (λ holds. HoldBefore holds names number)

-- to load blocks
abbrev pub loading : FilesSeen → FilesSeen → List (List ℕ) → Work
loading before after names = record {
  text = λ text. ⊥;
  refusal = IsUnspelled before names;
  read_fault = IsOneUnread before after names;
  in_pieces = false;
}

-- # Blocks to objects

-- The objects of a namespace aren't apart, for this place, which is the first that is given a second object.
pub record IsGivenTwice (entries : List Entry) (status : ℕ) (line : List ℕ) : Type 0 where
  pub is : status ≡ 1
  pub at : Place
  pub first : IsFirstRepeat (places_of entries) at
  pub says : line ≡ twice_line at

-- to place objects
abbrev pub placing : List Entry → Work
placing entries = record { text = λ text. ⊥; refusal = IsGivenTwice entries; read_fault = ⊥; in_pieces = false }

-- # Objects to a plan

-- the status where no plan was made
abbrev pub plan_status : BuildFault → ℕ
plan_status (Object path place why) = 1
plan_status (Limit which number) = 1
plan_status no_memory = 6

-- Objects make no plan, for this reason: the first table that means nothing, or else the first limit that is passed.
pub record IsUnplanned (entries : List Entry) (status : ℕ) (line : List ℕ) : Type 0 where
  pub is : status ≡ 1
  pub fault : BuildFault
  pub first : parts_within entries [] ≡ Err fault
  pub says : line ≡ refusal_line fault

-- Blocks make no plan: a place is given twice, or else their objects make none.
abbrev pub IsNoPlanOf : List Block → ℕ → List ℕ → Type 0
IsNoPlanOf blocks status line =
    IsGivenTwice (entries_in blocks) status line
    ⊎ (IsDistinct (places_of (entries_in blocks)) × IsUnplanned (entries_in blocks) status line)

-- to make a plan
abbrev pub planning : List Entry → Work
planning entries = record { text = λ text. ⊥; refusal = IsUnplanned entries; read_fault = ⊥; in_pieces = false }
