-- Under names stand blocks, or something is first at fault, or a file isn't there.
use Rattle.std.proofs.Common.{◌≡◌, ◌≤◌, ◌<◌, ℕ, zero, suc, ◌+◌, ◌-◌, List, [], ◌∷◌, length, take, get_or, Option, Some, None, refl, sym, subst, ◌∙◌, arith, inl, inr, ◌⊎◌}
use Rattle.std.proofs.lemmas.Bool.{cases_lt}
use Rattle.aml_block.specs.declared.block.Block.{Block}
use Rattle.aml_block.specs.declared.fault.BlockFault.{BlockFault}
use Rattle.aml_block.specs.Spelling.{BlockSpells}
use Rattle.aml_block.specs.Faults.{BlockFails}
use Rattle.aml_block.proofs.Blocks.{spelled_or_fault}
use Rattle.aml_block.specs.declared.blocks_reading.TheConstants.{LARGEST_SUM}
use Rattle.aml_block.specs.declared.blocks_fault.BlocksFault.{BlocksFault}
use Rattle.aml_block.specs.declared.blocks_fault.BlocksFault.TheVariants.{Block as in_block, Large}
use Rattle.aml_block.proofs.OneReading.{one_is_block, not_at_fault}
use Rattle.aml_block.specs.Held.{IsBlock, AreBlocks, no_block, one_block, IsFirstFault, in_this, too_large, behind_this, HoldBlocks, FailFirst, HoldBytes, IsAbsent}

-- the file of this place isn't there, and those before it hold blocks
record IsMissing (holds : List ℕ → Option (List ℕ)) (before : ℕ) (names : List (List ℕ)) (k : ℕ) : Type 0 where
  within : k < length names
  absent : holds (get_or names k []) ≡ None
  blocks : List Block
  held : AreBlocks holds before (take k names) blocks

data Reading (holds : List ℕ → Option (List ℕ)) (number before : ℕ) (names : List (List ℕ)) : Type 0 where
  are_blocks : (blocks : List Block) → AreBlocks holds before names blocks → Reading holds number before names
  at_fault : (f : BlocksFault) → IsFirstFault holds number before names f → Reading holds number before names
  missing : (k : ℕ) → IsMissing holds before names k → Reading holds number before names

-- behind one more block
behind : {holds : List ℕ → Option (List ℕ)} {number before size : ℕ} {name : List ℕ} {names : List (List ℕ)} {block : Block} → IsBlock (holds name) block size
    → before + size ≤ LARGEST_SUM → Reading holds (number + 1) (before + size) names → Reading holds number before (name ∷ names)
behind {block = block} is few (are_blocks blocks more) = are_blocks (block ∷ blocks) (one_block is few more)
behind is few (at_fault f more) = at_fault f (behind_this is few more)
behind {block = block} is few (missing k m) = missing (suc k) (record {
  within = (let w = m.within in omega (arith, w));
  absent = m.absent;
  blocks = block ∷ m.blocks;
  held = one_block is few m.held;
})

read_on : (holds : List ℕ → Option (List ℕ)) (number before : ℕ) (name : List ℕ) (names : List (List ℕ)) (bytes : List ℕ) → holds name ≡ Some bytes
    → ((b : Block) × BlockSpells b bytes) ⊎ ((f : BlockFault) × BlockFails bytes f) → ((size : ℕ) → before + size ≤ LARGEST_SUM → Reading holds (number + 1) (before + size) names)
    → Reading holds number before (name ∷ names)
read_on holds number before name names bytes is (inr (f, fails)) next = at_fault (in_block number f) (in_this (record { bytes = bytes; is = is; fails = fails }))
read_on holds number before name names bytes is (inl (b, spells)) next =
    let held : IsBlock (holds name) b (length bytes) = record { bytes = bytes; is = is; spelled = spells; counted = refl } in
    elim (cases_lt LARGEST_SUM (before + length bytes)) [
      | inl many ↦ at_fault Large (too_large held many)
      | inr few ↦ behind held (omega (arith, few)) (next (length bytes) (omega (arith, few)))
    ]

by_content : (holds : List ℕ → Option (List ℕ)) (number before : ℕ) (name : List ℕ) (names : List (List ℕ)) (o : Option (List ℕ)) → HoldBytes holds → holds name ≡ o
    → ((size : ℕ) → before + size ≤ LARGEST_SUM → Reading holds (number + 1) (before + size) names) → Reading holds number before (name ∷ names)
by_content holds number before name names None bytes is next = missing 0 (record { within = omega arith; absent = is; blocks = []; held = no_block })
by_content holds number before name names (Some content) bytes is next = read_on holds number before name names content is (spelled_or_fault content (bytes name content is)) next

some_reading : (holds : List ℕ → Option (List ℕ)) (number before : ℕ) (names : List (List ℕ)) → HoldBytes holds → Reading holds number before names
some_reading holds number before [] bytes = are_blocks [] no_block
some_reading holds number before (name ∷ names) bytes =
    by_content holds number before name names (holds name) bytes refl (λ size few. some_reading holds (number + 1) (before + size) names bytes)

of_reading : (holds : List ℕ → Option (List ℕ)) (names : List (List ℕ)) → Reading holds 1 0 names
    → ((blocks : List Block) × HoldBlocks holds names blocks) ⊎ ((f : BlocksFault) × FailFirst holds names f) ⊎ ((n : ℕ) × IsAbsent holds names n)
of_reading holds names (are_blocks blocks p) = inl (blocks, p)
of_reading holds names (at_fault f p) = inr (inl (f, p))
of_reading holds names (missing k m) = inr (inr (
  k + 1,
  record {
    before = record {
      some = omega arith;
      within = (let w = m.within in omega (arith, w));
      blocks = m.blocks;
      held = subst (λ n. AreBlocks holds 0 (take n names) m.blocks) (omega arith) m.held;
    };
    absent = subst (λ n. holds (get_or names n []) ≡ None) (omega arith) m.absent;
  },
))

pub held_or_fault : (holds : List ℕ → Option (List ℕ)) (names : List (List ℕ)) → HoldBytes holds
    → ((blocks : List Block) × HoldBlocks holds names blocks) ⊎ ((f : BlocksFault) × FailFirst holds names f) ⊎ ((n : ℕ) × IsAbsent holds names n)
held_or_fault holds names bytes = of_reading holds names (some_reading holds 1 0 names bytes)

-- ---- a file that isn't there

never : {held : Option (List ℕ)} {bytes : List ℕ} → held ≡ Some bytes → held ≡ None → ⊥
never e f = absurd (let g = sym e ∙ f in cc)

all_held : (holds : List ℕ → Option (List ℕ)) (before : ℕ) (names : List (List ℕ)) (blocks : List Block) (k : ℕ) → AreBlocks holds before names blocks → k < length names
    → holds (get_or names k []) ≡ None → ⊥
all_held holds before [] blocks k p l e = absurd (omega (arith, l))
all_held holds before (name ∷ names) [] k p l e = elim p [ ]
all_held holds before (name ∷ names) (block ∷ blocks) zero (one_block p few more) l e = never p.is e
all_held holds before (name ∷ names) (block ∷ blocks) (suc k) (one_block {size = size} p few more) l e = all_held holds (before + size) names blocks k more (omega (arith, l)) e

none_before : (holds : List ℕ → Option (List ℕ)) (number before : ℕ) (names : List (List ℕ)) (blocks : List Block) (f : BlocksFault) (k : ℕ) → IsFirstFault holds number before names f
    → AreBlocks holds before (take k names) blocks → k < length names → holds (get_or names k []) ≡ None → ⊥
none_before holds number before [] blocks f k p q l e = absurd (omega (arith, l))
none_before holds number before (name ∷ names) blocks _ zero (in_this h) q l e = never h.is e
none_before holds number before (name ∷ names) blocks _ zero (too_large p many) q l e = never p.is e
none_before holds number before (name ∷ names) blocks f zero (behind_this p few more) q l e = never p.is e
none_before holds number before (name ∷ names) [] f (suc k) p q l e = elim q [ ]
none_before holds number before (name ∷ names) (block ∷ blocks) _ (suc k) (in_this h) (one_block q _ qs) l e = not_at_fault q h
none_before holds number before (name ∷ names) (block ∷ blocks) _ (suc k) (too_large p many) (one_block q few qs) l e = let same = (one_is_block p q).1 in omega (arith, few, many, same)
none_before holds number before (name ∷ names) (block ∷ blocks) f (suc k) (behind_this {size = size} p few more) (one_block q _ qs) l e =
    let same = (one_is_block q p).1 in
    none_before holds (number + 1) (before + size) names blocks f k more (subst (λ (m : ℕ). AreBlocks holds (before + m) (take k names) blocks) same qs) (omega (arith, l)) e

pub absent_alone : (holds : List ℕ → Option (List ℕ)) (names : List (List ℕ)) (n : ℕ) → IsAbsent holds names n
    → ((blocks : List Block) → HoldBlocks holds names blocks → ⊥) × ((f : BlocksFault) → FailFirst holds names f → ⊥)
absent_alone holds names n is =
    let some = is.before.some in
    let within = is.before.within in (
      λ blocks p. all_held holds 0 names blocks (n - 1) p (omega (arith, some, within)) is.absent,
      λ f p. none_before holds 1 0 names is.before.blocks f (n - 1) p is.before.held (omega (arith, some, within)) is.absent,
    )
