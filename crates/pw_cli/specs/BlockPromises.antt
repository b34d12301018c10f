-- What `show`, `rewrite` and `check` promise, in the words of AML and of the machine: `docs/PROMISES.md` has the same in sentences.
use Rattle.std.specs.Prelude.{◌≡◌, ◌≤◌, ℕ, Bool, true, false, List, length, Contains}
use Rattle.std.specs.List.{flat_map}
use Rattle.pw_base.specs.Seen.{FilesSeen, Grew}
use Rattle.aml_block.specs.declared.block.Block.{Block}
use Rattle.aml_block.specs.Spelling.{BlockSpells}
use Rattle.aml_block.specs.Written.{IsInRange, written_block}
use Rattle.acpi_space.specs.Distinct.{IsDistinct}
use Rattle.acpi_space.specs.Namespace.{Entry, entries_in, places_of}
use Rattle.acpi_build.specs.declared.note.Note.{Note}
use Rattle.acpi_build.specs.Causes.{AreNotesOfCauses}
use Rattle.pw_plan.specs.declared.plan.Plan.{Plan}
use Rattle.pw_show.specs.Json.{json_text}
use Rattle.pw_show.specs.Show.{show_text}
use Rattle.pw_check.specs.CheckText.{check_text}
use Rattle.pw_load.specs.Seen.{Seen}
use Rattle.pw_load.specs.Steps.{AreHeldBy}
use Rattle.pw_cli.specs.Machines.{IsMachineOf}

-- The files hold these blocks under these names, where they tell, and their bytes spell no others.
pub record AreTheBlocks (files : FilesSeen) (names : List (List ℕ)) (blocks : List Block) : Type 0 where
  pub held : AreHeldBy files names blocks
  pub only : (other : List Block) → AreHeldBy files names other → other ≡ blocks

-- the text of objects at their paths: a line for each, or one JSON array
abbrev pub text_of_objects : (json : Bool) → List Entry → List ℕ
text_of_objects false entries = show_text entries
text_of_objects true entries = json_text entries

-- What `show` promises, with `--json` or without, where it ends with status 0, and files that tell.
pub record KeepsShow (json : Bool) (names : List (List ℕ)) (before after : Seen) : Type 0 where
  pub blocks : List Block
  pub spelled : AreTheBlocks before.files names blocks
  -- the objects that they place stand apart, and these were printed
  pub apart : IsDistinct (places_of (entries_in blocks))
  pub printed : Grew before.outputs.out after.outputs.out (text_of_objects json (entries_in blocks))
  pub still : after.regs ≡ before.regs

-- What `rewrite` promises.
pub record KeepsRewrite (names : List (List ℕ)) (before after : Seen) : Type 0 where
  pub blocks : List Block
  pub spelled : AreTheBlocks before.files names blocks
  -- bytes of each block were printed, one after the other, that spell the same block, and no shorter bytes do
  pub printed : Grew before.outputs.out after.outputs.out (flat_map written_block blocks)
  pub same : (b : Block) → Contains blocks b → IsInRange b.header → BlockSpells b (written_block b)
  pub shortest : (b : Block) (bytes : List ℕ) → BlockSpells b bytes → length (written_block b) ≤ length bytes
  pub still : after.regs ≡ before.regs

-- What `check` promises.
pub record KeepsCheck (names : List (List ℕ)) (before after : Seen) : Type 0 where
  pub blocks : List Block
  pub spelled : AreTheBlocks before.files names blocks
  -- the plan is that of the machine which they describe, and the notes are those of the causes that there are
  pub plan : Plan
  pub machine : IsMachineOf blocks plan
  pub notes : List Note
  pub noted : AreNotesOfCauses (entries_in blocks) plan notes
  pub printed : Grew before.outputs.out after.outputs.out (check_text plan notes)
  pub still : after.regs ≡ before.regs
