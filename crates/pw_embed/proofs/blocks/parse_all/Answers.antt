use Rattle.std.proofs.Common.{◌≡◌, ◌+◌, suc, sym, arith}
use Rattle.std.proofs.lemmas.List.Elements.{All-push}
use Rattle.std.proofs.Math.Seq.{take-suc}
use Rattle.aml_block.specs.Spelling.{BlockSpells}
use Rattle.aml_block.specs.Written.{IsWritableBlock}
use Rattle.pw_embed.proofs.Writing.{AllZip-snoc}
use Rattle.pw_embed.proofs.blocks.parse_all.Goals as goal

pub loop-source-preserved : goal.loop-source-preserved
loop-source-preserved c =
    let i = c.loop-source.source-index in
    let one : i + 1 ≡ suc i = omega arith in
    let next = take-suc c.args.sources.now i c.source-item.result c.loop-source-test.true in
    record {
      spelled = rw (c.in_ok-push.ensures.items, one, next, sym c.source-item.is)
          (AllZip-snoc BlockSpells c.loop-source.blocks.items _ c.in_ok-block.block c.source-item.result c.loop-source.invariant.spelled
          (rw c.as_slice.ensures at c.in_ok-block.ensures.found));
      writable = rw c.in_ok-push.ensures.items
          (All-push IsWritableBlock c.loop-source.blocks.items c.in_ok-block.block c.loop-source.invariant.writable c.in_ok-block.ensures.writable);
    }
