use Rattle.std.proofs.Common.{◌≡◌, take}
use Rattle.std.specs.List.{flat_map}
use Rattle.aml_block.specs.Written.{written_block}
use Rattle.aml_block.proofs.blocks_writing.encode_blocks.Given as goal

abbrev pub invariant-loop-block : goal.invariant-loop-block
invariant-loop-block l = l.bytes.items ≡ flat_map written_block (take l.block-index l.blocks)
