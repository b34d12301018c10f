-- What `show`, `rewrite` and `check` promise follows from what each task does.
use Rattle.std.proofs.Common.{◌≡◌, ◌∷◌, ℕ, zero, suc, true, false, List, Option, refl, subst, arith}
use Rattle.std.specs.Prelude.{Contains}
use Rattle.pw_base.specs.Seen.{FilesSeen, Grew}
use Rattle.aml_block.specs.declared.block.Block.{Block}
use Rattle.aml_block.specs.Held.{AreBlocks, no_block, one_block}
use Rattle.aml_block.specs.Written.{IsWritableBlock}
use Rattle.aml_block.proofs.OneReading.{same_blocks}
use Rattle.aml_block.proofs.WrittenBlocks.{block_least, block_spelled, block_writable}
use Rattle.acpi_space.specs.Namespace.{entries_in}
use Rattle.acpi_build.specs.declared.note.Note.{Note}
use Rattle.acpi_build.specs.Causes.{AreNotesOfCauses}
use Rattle.acpi_build.specs.Planning.{IsPlanFrom}
use Rattle.acpi_space.specs.Distinct.{IsDistinct}
use Rattle.acpi_space.specs.Namespace.{Entry, places_of}
use Rattle.pw_plan.specs.declared.plan.Plan.{Plan}
use Rattle.pw_turns.specs.declared.close.Sealed.{Sealed}
use Rattle.pw_words.specs.declared.command.Task.{Task}
use Rattle.pw_words.specs.declared.command.Task.TheVariants.{Check, Rewrite, Show, ShowAsJson}
use Rattle.pw_words.specs.Words.{AskFor}
use Rattle.pw_words.specs.Words.Asked.{on_blocks}
use Rattle.pw_load.specs.Seen.{Seen}
use Rattle.pw_load.specs.Steps.{AreHeldBy}
use Rattle.pw_tasks.specs.Tasks.{IsTextOn}
use Rattle.pw_cli.specs.Runs.{Ran}
use Rattle.pw_cli.specs.BlockPromises.{AreTheBlocks, KeepsCheck, KeepsRewrite, KeepsShow}
use Rattle.pw_cli.proofs.Machining.{ObjectLaws, machine_of}
use Rattle.pw_cli.proofs.Promising.{does_whole, obeyed}

-- # Blocks

-- blocks that files hold under names are the only ones
the_blocks : (files : FilesSeen) (names : List (List ℕ)) (blocks : List Block) → files.told ≡ true → AreHeldBy files names blocks → AreTheBlocks files names blocks
the_blocks files names blocks tells held =
    record { held = held; only = λ other is. same_blocks files.holds 0 names other blocks (is tells) (held tells) }

-- each of them can be written
each_writable : (holds : List ℕ → Option (List ℕ)) (before : ℕ) (names : List (List ℕ)) (blocks : List Block) → AreBlocks holds before names blocks
    → (b : Block) → Contains blocks b → IsWritableBlock b
each_writable holds before _ _ no_block b (k, lt, is) = absurd (omega (arith, lt))
each_writable holds before _ _ (one_block {block = first} p few rest) b (zero, lt, is) = subst IsWritableBlock is (block_writable first p.bytes p.spelled)
each_writable holds before (name ∷ names) (first ∷ blocks) (one_block {size = size} p few rest) b (suc k, lt, is) =
    each_writable holds _ names blocks rest b (k, omega (arith, lt), is)

-- # Tasks

module _ (words : List (List ℕ)) (names : List (List ℕ)) (sealed : Option Sealed) (before after : Seen) (tells : before.files.told ≡ true) (ran : Ran words sealed before after 0) where
  -- what it printed, and that it operated nothing
  text_on : (task : Task) → AskFor words (on_blocks task names) → IsTextOn task names before.files ran.text × (after.regs ≡ before.regs)
  text_on task asks =
      let o = obeyed (on_blocks task names) asks ran.way refl in
      (does_whole (on_blocks task names) before after 0 ran.text ran.line o.0 refl, o.1)

  pub keeps_show : AskFor words (on_blocks Show names) → KeepsShow false names before after
  keeps_show asks =
      let (on, still) = text_on Show asks in
      record {
        blocks = on.blocks;
        spelled = the_blocks before.files names on.blocks tells on.held;
        apart = on.made.0;
        printed = subst (Grew before.outputs.out after.outputs.out) on.made.1 ran.on_out;
        still = still;
      }

  pub keeps_json : AskFor words (on_blocks ShowAsJson names) → KeepsShow true names before after
  keeps_json asks =
      let (on, still) = text_on ShowAsJson asks in
      record {
        blocks = on.blocks;
        spelled = the_blocks before.files names on.blocks tells on.held;
        apart = on.made.0;
        printed = subst (Grew before.outputs.out after.outputs.out) on.made.1 ran.on_out;
        still = still;
      }

  pub keeps_rewrite : AskFor words (on_blocks Rewrite names) → KeepsRewrite names before after
  keeps_rewrite asks =
      let (on, still) = text_on Rewrite asks in
      record {
        blocks = on.blocks;
        spelled = the_blocks before.files names on.blocks tells on.held;
        printed = subst (Grew before.outputs.out after.outputs.out) on.made ran.on_out;
        same = λ b within in_range. block_spelled b (each_writable before.files.holds 0 names on.blocks (on.held tells) b within) in_range;
        shortest = block_least;
        still = still;
      }

  pub keeps_check : ObjectLaws
      → ((entries : List Entry) (P : Plan) (notes : List Note) → IsDistinct (places_of entries) → IsPlanFrom entries P notes → AreNotesOfCauses entries P notes)
      → AskFor words (on_blocks Check names) → KeepsCheck names before after
  keeps_check laws caused asks =
      let (on, still) = text_on Check asks in
      let made = on.made.1 in
      record {
        blocks = on.blocks;
        spelled = the_blocks before.files names on.blocks tells on.held;
        plan = made.plan;
        machine = machine_of laws on.blocks made.plan made.notes on.made.0 made.made;
        notes = made.notes;
        noted = caused (entries_in on.blocks) made.plan made.notes on.made.0 made.made;
        printed = subst (Grew before.outputs.out after.outputs.out) made.says ran.on_out;
        still = still;
      }
