-- What a task prints of blocks, or why it refuses them.
use Rattle.std.specs.Prelude.{◌≡◌, ℕ, Bool, true, false, List}
use Rattle.std.specs.List.{flat_map}
use Rattle.pw_base.specs.Seen.{FilesSeen}
use Rattle.aml_block.specs.declared.block.Block.{Block}
use Rattle.aml_block.specs.Written.{written_block}
use Rattle.acpi_space.specs.Distinct.{IsDistinct}
use Rattle.acpi_space.specs.Namespace.{Entry, entries_in, places_of}
use Rattle.acpi_space.specs.Passed.{passed_in}
use Rattle.acpi_space.specs.declared.passed.PassedOver.{PassedOver}
use Rattle.acpi_build.specs.declared.note.Note.{Note}
use Rattle.acpi_build.specs.Planning.{IsPlanFrom}
use Rattle.pw_plan.specs.declared.plan.Plan.{Plan}
use Rattle.pw_show.specs.Show.{show_text}
use Rattle.pw_show.specs.Json.{json_text}
use Rattle.pw_check.specs.CheckText.{check_text}
use Rattle.pw_findings.specs.declared.finding.Finding.{Finding}
use Rattle.pw_findings.specs.Words.{findings_text}
use Rattle.pw_lint.specs.Machine.{AreFindings}
use Rattle.pw_words.specs.declared.command.Task.{Task}
use Rattle.pw_words.specs.declared.command.Task.TheVariants.{Show, ShowAsJson, Rewrite, Check, Lint}
use Rattle.pw_load.specs.Ends.{Work}
use Rattle.pw_load.specs.Steps.{AreHeldBy, IsGivenTwice, IsNoPlanOf, IsOneUnread, IsUnplanned, IsUnspelled}

-- # Over objects

-- The text of the plan that objects tell of, with its notes.
pub record IsCheckText (entries : List Entry) (text : List ℕ) : Type 0 where
  pub plan : Plan
  pub notes : List Note
  pub made : IsPlanFrom entries plan notes
  pub says : text ≡ check_text plan notes

-- to check objects
abbrev pub checking : List Entry → Work
checking entries = record { text = IsCheckText entries; refusal = IsUnplanned entries; read_fault = ⊥; in_pieces = false }

-- The text of what is found of objects, beside terms that were passed over.
pub record IsLintText (entries : List Entry) (passed : List PassedOver) (text : List ℕ) : Type 0 where
  pub found : List Finding
  pub made : AreFindings entries passed found
  pub says : text ≡ findings_text found

-- to lint objects beside such terms
abbrev pub linting : List Entry → List PassedOver → Work
linting entries passed =
    record { text = IsLintText entries passed; refusal = λ status line. ⊥; read_fault = ⊥; in_pieces = false }

-- # Over blocks

-- This is the text that the task makes of blocks: to show them, the lines of the objects that they place, or the JSON of
-- these, if they place none where one was placed before; to rewrite them, their shortest spellings one after the other; to
-- check them, the plan of their objects; to lint them, what is found of these and of the terms that they pass over.
abbrev pub IsTextOf : Task → List Block → List ℕ → Type 0
IsTextOf Show blocks text = IsDistinct (places_of (entries_in blocks)) × (text ≡ show_text (entries_in blocks))
IsTextOf ShowAsJson blocks text = IsDistinct (places_of (entries_in blocks)) × (text ≡ json_text (entries_in blocks))
IsTextOf Rewrite blocks text = text ≡ flat_map written_block blocks
IsTextOf Check blocks text = IsDistinct (places_of (entries_in blocks)) × IsCheckText (entries_in blocks) text
IsTextOf Lint blocks text = IsDistinct (places_of (entries_in blocks)) × IsLintText (entries_in blocks) (passed_in blocks) text

-- The task refuses blocks that are spelled: to show or lint them, where a place is given twice; to rewrite them, never; to
-- check them, where a place is given twice, or else where the objects make no plan.
abbrev pub IsRefusalOf : Task → List Block → ℕ → List ℕ → Type 0
IsRefusalOf Show blocks status line = IsGivenTwice (entries_in blocks) status line
IsRefusalOf ShowAsJson blocks status line = IsGivenTwice (entries_in blocks) status line
IsRefusalOf Rewrite blocks status line = ⊥
IsRefusalOf Check blocks status line = IsNoPlanOf blocks status line
IsRefusalOf Lint blocks status line = IsGivenTwice (entries_in blocks) status line

-- JSON takes memory while it is printed, for a piece of a string at a time
abbrev pub is_in_pieces : Task → Bool
is_in_pieces Show = false
is_in_pieces ShowAsJson = true
is_in_pieces Rewrite = false
is_in_pieces Check = false
is_in_pieces Lint = false

abbrev pub work_over : Task → List Block → Work
work_over task blocks =
    record { text = IsTextOf task blocks; refusal = IsRefusalOf task blocks; read_fault = ⊥; in_pieces = is_in_pieces task }

-- # On files

-- The files hold blocks under the names, where they tell, and this is the task's text of them.
pub record IsTextOn (task : Task) (names : List (List ℕ)) (files : FilesSeen) (text : List ℕ) : Type 0 where
  pub blocks : List Block
  pub held : AreHeldBy files names blocks
  pub made : IsTextOf task blocks text

-- The files hold no blocks under the names, or blocks that the task refuses.
pub data IsRefusalOn (task : Task) (names : List (List ℕ)) (files : FilesSeen) (status : ℕ) (line : List ℕ) : Type 0 where
  unspelled : IsUnspelled files names status line → IsRefusalOn task names files status line
  unusable : (blocks : List Block) → AreHeldBy files names blocks → IsRefusalOf task blocks status line
      → IsRefusalOn task names files status line

-- a task on the blocks in the files of these names
abbrev pub work_on : Task → List (List ℕ) → FilesSeen → FilesSeen → Work
work_on task names before after = record {
  text = IsTextOn task names before;
  refusal = IsRefusalOn task names before;
  read_fault = IsOneUnread before after names;
  in_pieces = is_in_pieces task;
}
