use Rattle.std.proofs.Common.{All, take}
use Rattle.aml_block.specs.Written.{IsWritableBlock}
use Rattle.pw_embed.specs.Blocks.{AreSpelled}
use Rattle.pw_embed.proofs.blocks.parse_all.Given as goal

abbrev pub invariant-loop-source : goal.invariant-loop-source
invariant-loop-source l = record {
  spelled : AreSpelled (take l.source-index l.sources) l.blocks.items;
  writable : All IsWritableBlock l.blocks.items;
}
