-- Blocks that were rewritten are held where the blocks are that they were made of.
use Rattle.std.proofs.Common.{◌≡◌, ◌≤◌, ◌+◌, ℕ, List, [], ◌∷◌, length, Option, Some, refl, arith}
use Rattle.aml_block.specs.declared.block.Block.{Block}
use Rattle.aml_block.specs.Held.{AreBlocks, IsBlock, no_block, one_block}
use Rattle.aml_block.specs.Spelling.{BlockSpells}
use Rattle.aml_block.specs.Written.{written_block, IsInRange, IsWritableBlock}
use Rattle.pw_tasks.specs.Rewritten.{AreRewritten, no_name, one_name}

-- what is known of the written form of a block
abbrev pub AreSpelled : Type 0
AreSpelled = (b : Block) → IsWritableBlock b → IsInRange b.header → BlockSpells b (written_block b)

abbrev pub AreLeast : Type 0
AreLeast = (b : Block) (bytes : List ℕ) → BlockSpells b bytes → length (written_block b) ≤ length bytes

abbrev pub AreWritable : Type 0
AreWritable = (b : Block) (bytes : List ℕ) → BlockSpells b bytes → IsWritableBlock b

-- they take no more bytes than before, so that they are few enough
pub rewritten_held : AreSpelled → AreLeast → AreWritable
    → (holds other : List ℕ → Option (List ℕ)) (before start : ℕ) (names others : List (List ℕ)) (blocks : List Block)
    → AreBlocks holds before names blocks → AreRewritten other others blocks → start ≤ before → AreBlocks other start others blocks
rewritten_held spelled least writable holds other before start [] [] [] held r l = no_block
rewritten_held spelled least writable holds other before start (name ∷ names) [] [] held r l = elim held [ ]
rewritten_held spelled least writable holds other before start names [] (block ∷ blocks) held r l = elim r [ ]
rewritten_held spelled least writable holds other before start names (new ∷ others) [] held r l = elim r [ ]
rewritten_held spelled least writable holds other before start [] (new ∷ others) (block ∷ blocks) held r l = elim held [ ]
rewritten_held spelled least writable holds other before start (name ∷ names) (new ∷ others) (block ∷ blocks)
    (one_block {size = size} is few more) (one_name e range rest) l =
    let no_longer : length (written_block block) ≤ size = (let s = least block is.bytes is.spelled in let c = is.counted in omega arith) in
    let within : start + length (written_block block) ≤ before + size = omega arith in
    one_block (record {
      bytes = written_block block;
      is = e;
      spelled = spelled block (writable block is.bytes is.spelled) range;
      counted = refl;
    }) (omega (arith, few, within))
    (rewritten_held spelled least writable holds other (before + size) (start + length (written_block block)) names others blocks more rest within)
