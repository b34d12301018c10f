-- Under names stands at most one list of blocks or one first fault.
use Rattle.std.proofs.Common.{◌≡◌, ℕ, ◌+◌, List, [], ◌∷◌, length, Option, Some, refl, sym, ap, subst, ◌∙◌, arith}
use Rattle.aml_block.specs.declared.block.Block.{Block}
use Rattle.aml_block.specs.declared.fault.BlockFault.{BlockFault}
use Rattle.aml_block.specs.Spelling.{BlockSpells}
use Rattle.aml_block.specs.Faults.{BlockFails}
use Rattle.aml_block.proofs.Blocks.{same_block, same_fault, no_fault}
use Rattle.aml_block.specs.declared.blocks_fault.BlocksFault.{BlocksFault}
use Rattle.aml_block.specs.declared.blocks_fault.BlocksFault.TheVariants.{Block as in_block}
use Rattle.aml_block.specs.Held.{IsBlock, HasFault, AreBlocks, no_block, one_block, IsFirstFault, in_this, too_large, behind_this}

some_is : {X : Type 0} (a b : X) (o : Option X) → o ≡ Some a → o ≡ Some b → a ≡ b
some_is a b o p q = let e : Some a ≡ Some b = sym p ∙ q in cc

pub one_is_block : {held : Option (List ℕ)} {a b : Block} {m n : ℕ} → IsBlock held a m → IsBlock held b n → (a ≡ b) × (m ≡ n)
one_is_block {held} {a} {b} p q =
    let e = some_is p.bytes q.bytes held p.is q.is in
    (same_block a b q.bytes (subst (BlockSpells a) e p.spelled) q.spelled, p.counted ∙ ap length e ∙ sym q.counted)

pub not_at_fault : {held : Option (List ℕ)} {a : Block} {m : ℕ} {f : BlockFault} → IsBlock held a m → HasFault held f → ⊥
not_at_fault {held} {a} {m} {f} p q =
    let e = some_is p.bytes q.bytes held p.is q.is in
    no_fault a q.bytes f (subst (BlockSpells a) e p.spelled) q.fails

one_has_fault : {held : Option (List ℕ)} {f g : BlockFault} → HasFault held f → HasFault held g → f ≡ g
one_has_fault {held} {f} {g} p q =
    let e = some_is p.bytes q.bytes held p.is q.is in
    same_fault q.bytes f g (subst (λ (l : List ℕ). BlockFails l f) e p.fails) q.fails

pub same_blocks : (holds : List ℕ → Option (List ℕ)) (before : ℕ) (names : List (List ℕ)) (a b : List Block) → AreBlocks holds before names a → AreBlocks holds before names b → a ≡ b
same_blocks holds before _ _ _ no_block no_block = refl
same_blocks holds before _ (_ ∷ _) [] (one_block p _ ps) q = elim q [ ]
same_blocks holds before (name ∷ names) (a ∷ us) (b ∷ bs) (one_block p _ ps) (one_block {size = n} q _ qs) =
    let e = one_is_block p q in
    let rest = same_blocks holds (before + n) names us bs (subst (λ (m : ℕ). AreBlocks holds (before + m) names us) e.1 ps) qs in
    rw (e.0, rest) refl

pub blocks_not_fault : (holds : List ℕ → Option (List ℕ)) (number before : ℕ) (names : List (List ℕ)) (a : List Block) (f : BlocksFault)
    → AreBlocks holds before names a → IsFirstFault holds number before names f → ⊥
blocks_not_fault holds number before [] a f p q = elim q [ ]
blocks_not_fault holds number before (name ∷ names) [] f p q = elim p [ ]
blocks_not_fault holds number before (name ∷ names) (a ∷ us) _ (one_block p _ ps) (in_this h) = not_at_fault p h
blocks_not_fault holds number before (name ∷ names) (a ∷ us) _ (one_block p few ps) (too_large q many) = let e = (one_is_block p q).1 in omega (arith, few, many, e)
blocks_not_fault holds number before (name ∷ names) (a ∷ us) f (one_block p _ ps) (behind_this {size = n} q _ more) =
    let e = one_is_block p q in
    blocks_not_fault holds (number + 1) (before + n) names us f (subst (λ (m : ℕ). AreBlocks holds (before + m) names us) e.1 ps) more

pub same_first_fault : (holds : List ℕ → Option (List ℕ)) (number before : ℕ) (names : List (List ℕ)) (f g : BlocksFault)
    → IsFirstFault holds number before names f → IsFirstFault holds number before names g → f ≡ g
same_first_fault holds number before [] f g p q = elim p [ ]
same_first_fault holds number before (name ∷ names) _ _ (in_this h) (in_this i) = ap (λ x. in_block number x) (one_has_fault h i)
same_first_fault holds number before (name ∷ names) _ _ (in_this h) (too_large q _) = absurd (not_at_fault q h)
same_first_fault holds number before (name ∷ names) _ _ (in_this h) (behind_this q _ _) = absurd (not_at_fault q h)
same_first_fault holds number before (name ∷ names) _ _ (too_large p _) (in_this i) = absurd (not_at_fault p i)
same_first_fault holds number before (name ∷ names) _ _ (too_large p _) (too_large q _) = refl
same_first_fault holds number before (name ∷ names) _ _ (too_large p many) (behind_this q few _) = let e = (one_is_block p q).1 in absurd (omega (arith, few, many, e))
same_first_fault holds number before (name ∷ names) _ _ (behind_this p _ _) (in_this i) = absurd (not_at_fault p i)
same_first_fault holds number before (name ∷ names) _ _ (behind_this p few _) (too_large q many) = let e = (one_is_block p q).1 in absurd (omega (arith, few, many, e))
same_first_fault holds number before (name ∷ names) f g (behind_this p _ more) (behind_this {size = n} q _ other) =
    let e = (one_is_block p q).1 in
    same_first_fault holds (number + 1) (before + n) names f g (subst (λ (m : ℕ). IsFirstFault holds (number + 1) (before + m) names f) e more) other
