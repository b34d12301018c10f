-- How far the blocks under names were read, and what one more adds.
use Rattle.std.proofs.Common.{◌≡◌, ◌≢◌, ◌≤◌, ◌<◌, ℕ, zero, suc, ◌+◌, ◌-◌, List, [], ◌∷◌, ◌++◌, length, drop}
use Rattle.std.proofs.Common.{get_or, take, Bool, true, Option, refl, sym, ap, subst, ◌∙◌, arith, append_assoc}
use Rattle.std.specs.Prelude.{All}
use Rattle.std.specs.Borrow.{Bor}
use Rattle.std.proofs.lemmas.List.{append-nil, length-append, drop_more, take_at}
use Rattle.std.proofs.lemmas.List.Elements.{All-append}
use Rattle.std.proofs.Math.ListN.{drop_of_length-le}
use Rattle.std.proofs.Math.Seq.{get_or-append_seam}
use Rattle.pw_base.specs.Outside.{KeepsFiles, Rose}
use Rattle.aml_block.specs.declared.block.Block.{Block}
use Rattle.aml_block.specs.declared.fault.BlockFault.{BlockFault}
use Rattle.aml_block.specs.declared.fault.BlockFault.TheVariants.{Header as header, Data as data_fault, BadTerm, ReadFault as unread, Memory as no_memory}
use Rattle.aml_block.specs.Written.{IsWritableBlock}
use Rattle.aml_block.specs.declared.blocks_reading.TheConstants.{LARGEST_SUM}
use Rattle.aml_block.specs.declared.blocks_fault.BlocksFault.{BlocksFault}
use Rattle.aml_block.specs.declared.blocks_fault.BlocksFault.TheVariants.{Large}
use Rattle.aml_block.specs.BlocksCauses.{numbered}
use Rattle.aml_block.specs.Held.{IsBlock, HasFault, AreBlocks, no_block, one_block, IsFirstFault, in_this, too_large, behind_this}
use Rattle.aml_block.specs.Held.{HoldBlocks, FailFirst, HoldBefore, IsCauseOf, name_at, names_of, RoseIfUnread}
use Rattle.pw_base.proofs.Facts.{subst2}

-- These blocks were read, of so many bytes, and these names are left: what stands under these stands behind those.
pub record SoFar (holds : List ℕ → Option (List ℕ)) (Told : Type 0) (names rest : List (List ℕ)) (done : List Block) (total : ℕ) : Type 0 where
  pub front : List (List ℕ)
  pub parts : names ≡ front ++ rest
  pub count : length front ≡ length done
  pub small : total ≤ LARGEST_SUM
  pub writable : All IsWritableBlock done
  pub found : Told → (others : List (List ℕ)) (more : List Block) → AreBlocks holds total others more → HoldBlocks holds (front ++ others) (done ++ more)
  pub fault : Told → (f : BlocksFault) → IsFirstFault holds (length done + 1) total rest f → FailFirst holds names f

-- what holds of an element holds of each of a list of it alone
only : (block : Block) (k : ℕ) (d : Block) → IsWritableBlock block → k < 1 → IsWritableBlock (get_or (block ∷ []) k d)
only block zero d can below = can
only block (suc k) d can below = absurd (omega (arith, below))

pub one_more : {holds : List ℕ → Option (List ℕ)} {Told : Type 0} {names rest : List (List ℕ)} {done : List Block} {total size : ℕ} (name : List ℕ) (block : Block)
    → SoFar holds Told names (name ∷ rest) done total → (Told → IsBlock (holds name) block size) → IsWritableBlock block → total + size ≤ LARGEST_SUM
    → SoFar holds Told names rest (done ++ block ∷ []) (total + size)
one_more {holds} {Told} {names} {rest} {done} {total} {size} name block so is can few = record {
  front = so.front ++ name ∷ [];
  parts = so.parts ∙ sym (append_assoc so.front (name ∷ []) rest);
  count = (let e = length-append done (block ∷ []) in let f = length-append so.front (name ∷ []) in let g = so.count in omega arith);
  small = few;
  writable = All-append IsWritableBlock done (block ∷ []) so.writable (λ k d below. only block k d can below);
  found = λ t others more p. subst2 (HoldBlocks holds) (sym (append_assoc so.front (name ∷ []) others)) (sym (append_assoc done (block ∷ []) more))
      (so.found t (name ∷ others) (block ∷ more) (one_block (is t) few p));
  fault = λ t f p. so.fault t f (behind_this (is t) few
      (subst (λ (n : ℕ). IsFirstFault holds n (total + size) rest f) (let e = length-append done (block ∷ []) in omega arith) p));
}

-- all names are done
pub all_done : {holds : List ℕ → Option (List ℕ)} {Told : Type 0} {names : List (List ℕ)} {done : List Block} {total : ℕ}
    (words : List (Bor (List ℕ))) (i : ℕ)
    → SoFar holds Told names (names_of (drop i words)) done total → length words ≤ i → Told → HoldBlocks holds names done
all_done {holds} {names = names} {done = done} {total = total} words i so end = λ t.
    (let none = ap names_of (drop_of_length-le words {i = i} end) in
    let all = so.parts ∙ ap (λ r. so.front ++ r) none in
    subst2 (HoldBlocks holds) (sym all) (append-nil done) (so.found t [] [] no_block))

-- there are too many bytes
pub is_large : {holds : List ℕ → Option (List ℕ)} {Told : Type 0} {names rest : List (List ℕ)} {done : List Block} {total size : ℕ} (name : List ℕ) (block : Block)
    → SoFar holds Told names (name ∷ rest) done total → (Told → IsBlock (holds name) block size) → LARGEST_SUM < total + size → Told → FailFirst holds names Large
is_large name block so is many = λ t. so.fault t Large (too_large (is t) many)

-- the files before the next one hold the blocks that were read
before_this : {holds : List ℕ → Option (List ℕ)} {Told : Type 0} {names rest : List (List ℕ)} {done : List Block} {total : ℕ} (k : ℕ) (name : List ℕ)
    → SoFar holds Told names (name ∷ rest) done total → k ≡ length done → Told → HoldBefore holds names (k + 1)
before_this {holds} {Told} {names} {rest} {done} k name so here t =
    let whole = ap length so.parts ∙ length-append so.front (name ∷ rest) in
    let count = so.count in
    let first : take ((k + 1) - 1) names ≡ so.front = ap (take ((k + 1) - 1)) so.parts ∙ take_at so.front (name ∷ rest) ((k + 1) - 1) (omega arith) in
    record {
      some = omega arith;
      within = omega (arith, whole);
      blocks = done;
      held = subst2 (HoldBlocks holds) (append-nil so.front ∙ sym first) (append-nil done) (so.found t [] [] no_block);
    }

-- the next block is at fault, or isn't read
pub is_fault : {holds : List ℕ → Option (List ℕ)} {Told : Type 0} {names rest : List (List ℕ)} {done : List Block} {total : ℕ} (k : ℕ) (name : List ℕ) (f : BlockFault)
    → SoFar holds Told names (name ∷ rest) done total → k ≡ length done → (f ≢ no_memory → f ≢ unread → Told → HasFault (holds name) f)
    → Told → IsCauseOf holds names (numbered (k + 1) f)
is_fault k name unread so here has = λ t. before_this k name so here t
is_fault k name no_memory so here has = λ t. tt
is_fault k name (header why) so here has = λ t. so.fault t _ (rw here (in_this (has (λ e. cc) (λ e. cc) t)))
is_fault k name (data_fault why) so here has = λ t. so.fault t _ (rw here (in_this (has (λ e. cc) (λ e. cc) t)))
is_fault k name (BadTerm at opcode) so here has = λ t. so.fault t _ (rw here (in_this (has (λ e. cc) (λ e. cc) t)))

-- it is a read fault only where a read of the next file failed
pub is_unread : {holds : List ℕ → Option (List ℕ)} {Told : Type 0} {names rest : List (List ℕ)} {done : List Block} {total : ℕ} (k : ℕ) (name : List ℕ) (f : BlockFault)
    (old mid new : List ℕ → ℕ) → SoFar holds Told names (name ∷ rest) done total → k ≡ length done → old name ≤ mid name
    → (f ≡ unread → Rose (mid name) (new name)) → RoseIfUnread names (numbered (k + 1) f) old new
is_unread {names = names} {rest = rest} k name unread old mid new so here kept rose =
    let whole = ap length so.parts ∙ length-append so.front (name ∷ rest) in
    let count = so.count in
    let place : (k + 1) - 1 ≡ length so.front = omega arith in
    let this : name_at names (k + 1) ≡ name = ap (λ l. get_or l ((k + 1) - 1) []) so.parts ∙ ap (λ i. get_or (so.front ++ name ∷ rest) i []) place
    ∙ get_or-append_seam so.front name rest [] in
    record {
      some = omega arith;
      within = omega (arith, whole);
      rose = rw this (λ below. (let more = rose refl below in omega (arith, kept, more)));
    }
is_unread k name no_memory old mid new so here kept rose = tt
is_unread k name (header why) old mid new so here kept rose = tt
is_unread k name (data_fault why) old mid new so here kept rose = tt
is_unread k name (BadTerm at opcode) old mid new so here kept rose = tt

-- what one read says, where the files hold what they held before
pub held_before : {S : Type 0} (told : S → Bool) (holds : S → List ℕ → Option (List ℕ)) (faults : S → List ℕ → ℕ) (a b : S) (name : List ℕ) (P : Option (List ℕ) → Type 0)
    → KeepsFiles told holds faults a b → (told b ≡ true → P (holds b name)) → told a ≡ true → P (holds a name)
held_before told holds faults a b name P keeps known = λ t. subst P (keeps.same_content name) (known (keeps.same_told ∙ t))

-- the name that is read next
abbrev pub name_here : List (Bor (List ℕ)) → ℕ → List ℕ
name_here words i = (get_or words i (record { ref_ptr = (0, 0); now = [] })).now

-- it is the first of those that are left
pub at_next : {holds : List ℕ → Option (List ℕ)} {Told : Type 0} {names : List (List ℕ)} {done : List Block} {total : ℕ}
    (words : List (Bor (List ℕ))) (i : ℕ) → SoFar holds Told names (names_of (drop i words)) done total → i < length words
    → SoFar holds Told names (name_here words i ∷ names_of (drop (i + 1) words)) done total
at_next {holds} {Told} {names} {done} {total} words i so inside =
    subst (λ (l : List (List ℕ)). SoFar holds Told names l done total)
    (ap names_of (drop_more words i (record { ref_ptr = (0, 0); now = [] }) inside)) so
