-- What terms give, as a part of a block.
use Rattle.std.proofs.Common.{◌≡◌, Result, Ok, Err, refl, ap}
use Rattle.aml_block.specs.declared.term_fault.TermFault.{TermFault}
use Rattle.aml_block.specs.declared.fault.BlockFault.{BlockFault}
use Rattle.aml_block.specs.Causes.{term_cause}
use Rattle.aml_block.specs.inner.Reading.{terms_part}

-- terms that are read, and terms that fail
pub terms_ok : {A : Type 0} (r : Result A TermFault) (x : A) → terms_part r ≡ Ok x → r ≡ Ok x
terms_ok (Ok y) x e = let q : y ≡ x = cc in ap (λ z. Ok z) q
terms_ok (Err d) x e = absurd cc

pub terms_err : {A : Type 0} (r : Result A TermFault) (f : BlockFault) → terms_part r ≡ Err f → (d : TermFault) × (r ≡ Err d) × (term_cause d ≡ f)
terms_err (Ok y) f e = absurd cc
terms_err (Err d) f e = (d, refl, cc)
