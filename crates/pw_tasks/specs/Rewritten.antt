-- Blocks as `rewrite` prints them.
use Rattle.std.specs.Prelude.{◌≡◌, ℕ, List, [], ◌∷◌, Option, Some}
use Rattle.aml_block.specs.declared.block.Block.{Block}
use Rattle.aml_block.specs.Written.{IsInRange, written_block}

-- Under these names are the bytes that `rewrite` prints of these blocks, each name's in its turn.
pub data AreRewritten (holds : List ℕ → Option (List ℕ)) : List (List ℕ) → List Block → Type 0 where
  no_name : AreRewritten holds [] []
  one_name : {name : List ℕ} {names : List (List ℕ)} {block : Block} {blocks : List Block}
      → holds name ≡ Some (written_block block) → IsInRange block.header
      → AreRewritten holds names blocks → AreRewritten holds (name ∷ names) (block ∷ blocks)
