use Rattle.std.proofs.Common.{◌≡◌, subst, arith}
use Rattle.std.specs.Prelude.{ℕ, List}
use Rattle.aml_block.specs.declared.block.Block.{Block}
use Rattle.pw_tasks.specs.Tasks.{IsTextOf}
use Rattle.pw_tasks.proofs.Rewriting.{rewritten_held}
use Rattle.pw_tasks.proofs.laws.rewritten_blocks_are_read_alike.Goals as goal

pub returns : goal.returns
returns c = λ t names others files rewritten blocks text told held new made.
    let same : made.blocks ≡ blocks = c.one_list.ensures files.holds names made.blocks blocks (made.held told) (held told) in
    record {
      blocks = blocks;
      held = λ tells. rewritten_held c.written_blocks.ensures.spelled c.written_blocks.ensures.least c.written_blocks.ensures.writable
          files.holds rewritten.holds 0 0 names others blocks (held told) new (omega arith);
      made = subst (λ (bs : List Block). IsTextOf t bs text) same made.made;
    }
