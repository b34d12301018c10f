-- What was read of a file, and what it holds.
use Rattle.std.proofs.Common.{◌≡◌, ◌≢◌, ◌≤◌, ◌+◌, ℕ, List, length, take, Option, Some, None, refl, sym, ap, subst, ◌∙◌}
use Rattle.std.specs.Prelude.{IsSomeAnd, Result, Ok, Err, IfErr, IsErrAnd}
use Rattle.aml_block.specs.declared.block.Block.{Block}
use Rattle.aml_block.specs.declared.fault.BlockFault.{BlockFault}
use Rattle.aml_block.specs.declared.fault.BlockFault.TheVariants.{Memory, ReadFault}
use Rattle.aml_block.specs.declared.header.TheConstants.{LARGEST}
use Rattle.aml_block.specs.Spelling.{BlockSpells}
use Rattle.aml_block.specs.Faults.{BlockFails}
use Rattle.aml_block.proofs.Held.{uncut, short_of, held_fault}
use Rattle.aml_block.specs.Held.{IsBlock, HasFault}

-- a block that the bytes spell is the one that is held, by so many bytes
pub is_block : (Told : Type 0) (held : Option (List ℕ)) (bytes : List ℕ) (b : Block) (size : ℕ) → (Told → IsSomeAnd held (λ content. bytes ≡ take (LARGEST + 1) content))
    → BlockSpells b bytes → size ≡ length bytes → Told → IsBlock held b size
is_block Told None bytes b size read spelled counted = λ t. absurd (read t)
is_block Told (Some content) bytes b size read spelled counted = λ t.
    (let e : bytes ≡ take (LARGEST + 1) content = read t in
    let all = uncut content (short_of content (subst (λ (l : List ℕ). length l ≤ LARGEST) e spelled.size.1)) in
    record { bytes = content; is = refl; spelled = subst (BlockSpells b) (e ∙ all) spelled; counted = counted ∙ ap length (e ∙ all) })

-- a fault of the bytes is one of what is held
held_has : (held : Option (List ℕ)) (f : BlockFault) → IsSomeAnd held (λ content. BlockFails content f) → HasFault held f
held_has None f fails = absurd fails
held_has (Some content) f fails = record { bytes = content; is = refl; fails = fails }

of_err : {A : Type 0} (r : Result A BlockFault) (f : BlockFault) (P : BlockFault → Type 0) → r ≡ Err f → IfErr r P → P f
of_err {A} r f P e p = subst (λ (x : Result A BlockFault). IfErr x P) e p

to_err : {A : Type 0} (r : Result A BlockFault) (f : BlockFault) (P : BlockFault → Type 0) → IsErrAnd r (λ e. e ≡ f) → P f → IfErr r P
to_err (Ok x) f P e p = tt
to_err (Err g) f P e p = subst P (sym e) p

pub has_fault : {A : Type 0} (Told : Type 0) (held : Option (List ℕ)) (bytes : List ℕ) (r : Result Block BlockFault) (f : BlockFault) (s : Result A BlockFault)
    → r ≡ Err f → (Told → IsSomeAnd held (λ content. bytes ≡ take (LARGEST + 1) content)) → IfErr r (λ f. f ≢ Memory → BlockFails bytes f) → IsErrAnd s (λ e. e ≡ f)
    → IfErr s (λ f. f ≢ Memory → f ≢ ReadFault → Told → HasFault held f)
has_fault Told held bytes r f s was read fails same =
    let known = of_err r f (λ f. f ≢ Memory → f ≢ ReadFault → Told → IsSomeAnd held (λ content. BlockFails content f)) was (held_fault r Told held bytes read fails) in
    to_err s f (λ f. f ≢ Memory → f ≢ ReadFault → Told → HasFault held f) same (λ m n t. held_has held f (known m n t))
