-- Blocks that are held one after the other are held as a whole, and the other way round.
use Rattle.std.proofs.Common.{◌≡◌, ◌≤◌, ℕ, ◌+◌, List, [], ◌∷◌, length, map, Option, Some, refl, arith}
use Rattle.std.specs.List.{sum_by}
use Rattle.std.proofs.lemmas.List.Sums.{sum_by-cons}
use Rattle.aml_block.specs.declared.block.Block.{Block}
use Rattle.aml_block.specs.declared.blocks_reading.TheConstants.{LARGEST_SUM}
use Rattle.aml_block.specs.Held.{AreBlocks, no_block, one_block, SpellEach, AreHeld}

-- the same behind so many bytes
record AreHeldBehind (holds : List ℕ → Option (List ℕ)) (before : ℕ) (names : List (List ℕ)) (blocks : List Block) : Type 0 where
  contents : List (List ℕ)
  held : map holds names ≡ map (λ c. Some c) contents
  spelled : SpellEach blocks contents
  few : before + sum_by length contents ≤ LARGEST_SUM

together : (holds : List ℕ → Option (List ℕ)) (before : ℕ) (names : List (List ℕ)) (blocks : List Block) → before ≤ LARGEST_SUM
    → AreBlocks holds before names blocks → AreHeldBehind holds before names blocks
together holds before _ _ small no_block = record { contents = []; held = refl; spelled = tt; few = omega (arith, small) }
together holds before (name ∷ names) (block ∷ blocks) small (one_block {size = size} p few more) =
    let rest = together holds (before + size) names blocks few more in
    let counted = p.counted in
    let under = rest.few in
    let all = sum_by-cons length p.bytes rest.contents in
    record {
      contents = p.bytes ∷ rest.contents;
      held = rw (p.is, rest.held) refl;
      spelled = (p.spelled, rest.spelled);
      few = omega (arith, counted, under, all);
    }

apart : (holds : List ℕ → Option (List ℕ)) (before : ℕ) (names : List (List ℕ)) (blocks : List Block) (contents : List (List ℕ))
    → map holds names ≡ map (λ c. Some c) contents → SpellEach blocks contents → before + sum_by length contents ≤ LARGEST_SUM → AreBlocks holds before names blocks
apart holds before [] [] [] held spelled few = no_block
apart holds before (name ∷ names) (block ∷ blocks) (bytes ∷ contents) held spelled few =
    let all = sum_by-cons length bytes contents in
    one_block {size = length bytes} (record { bytes = bytes; is = cc; spelled = spelled.0; counted = refl }) (omega (arith, few, all))
    (apart holds (before + length bytes) names blocks contents (cc) spelled.1 (omega (arith, few, all)))
apart holds before [] blocks (bytes ∷ contents) held spelled few = absurd cc
apart holds before (name ∷ names) blocks [] held spelled few = absurd cc
apart holds before [] (block ∷ blocks) [] held spelled few = absurd spelled
apart holds before (name ∷ names) [] (bytes ∷ contents) held spelled few = absurd spelled

pub whole_of : (holds : List ℕ → Option (List ℕ)) (names : List (List ℕ)) (blocks : List Block) → AreBlocks holds 0 names blocks → AreHeld holds names blocks
whole_of holds names blocks p =
    let w = together holds 0 names blocks (omega arith) p in
    record { contents = w.contents; held = w.held; spelled = w.spelled; few = (let f = w.few in omega (arith, f)) }

pub of_whole : (holds : List ℕ → Option (List ℕ)) (names : List (List ℕ)) (blocks : List Block) → AreHeld holds names blocks → AreBlocks holds 0 names blocks
of_whole holds names blocks w = apart holds 0 names blocks w.contents w.held w.spelled (let f = w.few in omega (arith, f))
