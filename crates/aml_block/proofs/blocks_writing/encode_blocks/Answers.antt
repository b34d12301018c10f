use Rattle.std.proofs.Common.{◌≡◌, ◌∙◌, ◌+◌, ◌<◌, ◌++◌, ◌∷◌, [], List, ℕ, ap, refl, sym, arith, get_or, length, take}
use Rattle.std.specs.List.{flat_map}
use Rattle.std.proofs.lemmas.Bool.{eqb-true}
use Rattle.std.proofs.lemmas.Grind.{flat_map-append}
use Rattle.std.proofs.lemmas.List.{append-nil, nil_from_length, take_more}
use Rattle.aml_block.specs.Written.{written_block}
use Rattle.aml_block.specs.declared.block.Block.{Block}
use Rattle.aml_block.proofs.blocks_writing.encode_blocks.Goals as goal
use Rattle.aml_block.proofs.blocks_writing.encode_blocks.Goals.{then-is_empty, else-is_empty+in_ok-extend_from_slice}

-- one more block is written behind those before it
one_more : (blocks : List Block) (i : ℕ) (block : Block) (before written : List ℕ) → i < length blocks → block ≡ get_or blocks i block
    → before ≡ flat_map written_block (take i blocks) → written ≡ written_block block → before ++ written ≡ flat_map written_block (take (i + 1) blocks)
one_more blocks i block before written inside is same new =
    rw (take_more blocks i block inside, ← is, flat_map-append written_block (take i blocks) (block ∷ []), ← same, new, append-nil (written_block block)) refl

pub loop-block-preserved : goal.loop-block-preserved
loop-block-preserved c =
    let before = c.loop-block.bytes in
    let more = one_more c.args.blocks.now c.loop-block.block-index c.block-item.result before.items c.in_ok-written.written.items (omega arith)
    c.block-item.is c.loop-block.invariant c.in_ok-written.ensures.value in
    elim c.if-is_empty.branch [
      | then-is_empty w ↦
          let none = nil_from_length before.items (sym before.ok.0 ∙ eqb-true _ 0 (sym w.if-is_empty.ensures)) in
          ap (λ b. b.items) w.bytes-is ∙ rw none at more
      | else-is_empty+in_ok-extend_from_slice w ↦
          ap (λ b. b.items) w.bytes-is ∙ w.in_ok-extend_from_slice.ensures.items ∙ ap (λ l. before.items ++ l) w.as_slice.ensures.value ∙ more
    ]
