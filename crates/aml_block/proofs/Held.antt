-- A content and its first 4,194,305 bytes, one more than a block may have, are one block, or have one fault.
use Rattle.std.proofs.Common.{◌≡◌, ◌≢◌, ◌<◌, ◌≤◌, ◌+◌, ℕ, Bool, true, false, List, [], ◌++◌, length, take, drop, Option, Some, None, Result, Ok, Err, refl, sym, ap, subst, ◌∙◌, inl, inr, ◌⊎◌, ltb, arith}
use Rattle.std.specs.Prelude.{IfOk, IfErr, IsSomeAnd}
use Rattle.std.proofs.lemmas.Bool.{ltb-true, ltb-false}
use Rattle.std.proofs.lemmas.List.{length-take, take-append-drop, append-nil}
use Rattle.std.proofs.Math.ListN.{drop_of_length-le}
use Rattle.pw_base.specs.Answers.{IsUnless, FailsUnless}
use Rattle.aml_block.specs.declared.block.Block.{Block}
use Rattle.aml_block.specs.declared.fault.HeaderFault.TheVariants.{Large}
use Rattle.aml_block.specs.declared.fault.BlockFault.{BlockFault}
use Rattle.aml_block.specs.declared.fault.BlockFault.TheVariants.{Header as in_header, ReadFault, Memory}
use Rattle.aml_block.specs.declared.header.TheConstants.{LARGEST}
use Rattle.aml_block.specs.Spelling.{BlockSpells}
use Rattle.aml_block.specs.Faults.{BlockFails, fails_in_header}
use Rattle.aml_block.specs.Answers.{IsUnlessUnread, FailsUnlessUnread}
use Rattle.aml_block.proofs.Blocks.{same_fault}

-- a content that a block may have is read whole
pub uncut : (content : List ℕ) → length content ≤ LARGEST → take (LARGEST + 1) content ≡ content
uncut content h =
    let none : drop (LARGEST + 1) content ≡ [] = drop_of_length-le content {i = LARGEST + 1} (omega arith) in
    sym (append-nil (take (LARGEST + 1) content)) ∙ ap (λ l. take (LARGEST + 1) content ++ l) (sym none) ∙ take-append-drop (LARGEST + 1) content

pub short_of : (content : List ℕ) → length (take (LARGEST + 1) content) ≤ LARGEST → length content ≤ LARGEST
short_of content h = let e = length-take (LARGEST + 1) content in omega arith

cut_spells : (content : List ℕ) (b : Block) → BlockSpells b (take (LARGEST + 1) content) → BlockSpells b content
cut_spells content b s = subst (BlockSpells b) (uncut content (short_of content s.size.1)) s

spells_cut : (content : List ℕ) (b : Block) → BlockSpells b content → BlockSpells b (take (LARGEST + 1) content)
spells_cut content b s = subst (BlockSpells b) (sym (uncut content s.size.1)) s

large : (bytes : List ℕ) → LARGEST < length bytes → BlockFails bytes (in_header Large)
large bytes h = fails_in_header h

large_cut : (content : List ℕ) → LARGEST < length content → BlockFails (take (LARGEST + 1) content) (in_header Large)
large_cut content h = large (take (LARGEST + 1) content) (let e = length-take (LARGEST + 1) content in omega arith)

which : (content : List ℕ) (b : Bool) → ltb LARGEST (length content) ≡ b → (length content ≤ LARGEST) ⊎ (LARGEST < length content)
which content true e = inr (ltb-true LARGEST (length content) e)
which content false e = inl (ltb-false LARGEST (length content) e)

cut_fails : (content : List ℕ) (f : BlockFault) → BlockFails (take (LARGEST + 1) content) f → BlockFails content f
cut_fails content f s =
    elim (which content _ refl) [
      | inl h ↦ subst (λ (l : List ℕ). BlockFails l f) (uncut content h) s
      | inr h ↦ subst (λ (g : BlockFault). BlockFails content g) (same_fault (take (LARGEST + 1) content) (in_header Large) f (large_cut content h) s) (large content h)
    ]

fails_cut : (content : List ℕ) (f : BlockFault) → BlockFails content f → BlockFails (take (LARGEST + 1) content) f
fails_cut content f s =
    elim (which content _ refl) [
      | inl h ↦ subst (λ (l : List ℕ). BlockFails l f) (sym (uncut content h)) s
      | inr h ↦ subst (λ (g : BlockFault). BlockFails (take (LARGEST + 1) content) g) (same_fault content (in_header Large) f (large content h) s) (large_cut content h)
    ]

-- what an answer on the bytes that were read says of the bytes that are held
pub held_found : (r : Result Block BlockFault) (Told : Type 0) (held : Option (List ℕ)) (bytes : List ℕ) → (Told → IsSomeAnd held (λ content. bytes ≡ take (LARGEST + 1) content))
    → IfOk r (λ b. BlockSpells b bytes) → IfOk r (λ b. Told → IsSomeAnd held (BlockSpells b))
held_found (Err e) Told held bytes read found = tt
held_found (Ok b) Told None bytes read found = read
held_found (Ok b) Told (Some content) bytes read found = λ t. cut_spells content b (subst (BlockSpells b) (read t) found)

pub held_fault : (r : Result Block BlockFault) (Told : Type 0) (held : Option (List ℕ)) (bytes : List ℕ) → (Told → IsSomeAnd held (λ content. bytes ≡ take (LARGEST + 1) content))
    → IfErr r (λ f. f ≢ Memory → BlockFails bytes f) → IfErr r (λ f. f ≢ Memory → f ≢ ReadFault → Told → IsSomeAnd held (λ content. BlockFails content f))
held_fault (Ok b) Told held bytes read fault = tt
held_fault (Err f) Told None bytes read fault = λ m n. read
held_fault (Err f) Told (Some content) bytes read fault = λ m n t. cut_fails content f (subst (λ (l : List ℕ). BlockFails l f) (read t) (fault m))

-- what is held is what was read of it
pub read_of : (held : Option (List ℕ)) (bytes content : List ℕ) → held ≡ Some content → IsSomeAnd held (λ c. bytes ≡ take (LARGEST + 1) c) → bytes ≡ take (LARGEST + 1) content
read_of None bytes content e read = absurd read
read_of (Some other) bytes content e read = let q : other ≡ content = cc in read ∙ ap (take (LARGEST + 1)) q

is_unread : (r : Result Block BlockFault) (b : Block) → IsUnless Memory r b → IsUnlessUnread r b
is_unread (Ok x) b e = e
is_unread (Err f) b e = inl e

fails_unread : (r : Result Block BlockFault) (f : BlockFault) → FailsUnless Memory r f → FailsUnlessUnread r f
fails_unread (Ok x) f e = e
fails_unread (Err g) f e = λ m n. e m

pub held_only : (r : Result Block BlockFault) (bytes content : List ℕ) → bytes ≡ take (LARGEST + 1) content → ((b : Block) → BlockSpells b bytes → IsUnless Memory r b)
    → (b : Block) → BlockSpells b content → IsUnlessUnread r b
held_only r bytes content e only b s = is_unread r b (only b (subst (BlockSpells b) (sym e) (spells_cut content b s)))

pub held_refused : (r : Result Block BlockFault) (bytes content : List ℕ) → bytes ≡ take (LARGEST + 1) content → ((f : BlockFault) → BlockFails bytes f → FailsUnless Memory r f)
    → (f : BlockFault) → BlockFails content f → FailsUnlessUnread r f
held_refused r bytes content e refused f s = fails_unread r f (refused f (subst (λ (l : List ℕ). BlockFails l f) (sym e) (fails_cut content f s)))

pub never_read : (r : Result Block BlockFault) (Rises : Type 0) → IfErr r (λ f. f ≢ ReadFault) → IfErr r (λ f. f ≡ ReadFault → Rises)
never_read (Ok b) Rises never = tt
never_read (Err f) Rises never = λ e. absurd (never e)
