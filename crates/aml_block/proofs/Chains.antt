-- What a chain of steps says of its parts.
use Rattle.std.proofs.Common.{◌≡◌, ℕ, List, Result, Ok, Err, refl, ap, inl, inr, ◌⊎◌}
pub use Rattle.pw_base.proofs.Answers.{done, failed, bind_ok, bind_err, ok_is, err_is}
use Rattle.aml_data.specs.declared.fault.DataFault.{DataFault}
use Rattle.aml_block.specs.declared.term.Term.{Term}
use Rattle.aml_block.specs.declared.term_fault.TermFault.{TermFault}
use Rattle.aml_block.specs.declared.term_fault.TermFault.TheVariants.{Data as in_data}
use Rattle.aml_data.specs.inner.Reading.{Read as ReadPart}
use Rattle.aml_block.specs.inner.TermReading.{part, term_of}

-- a part that is read, and one that fails
pub part_ok : {A : Type 0} (r : Result A DataFault) (x : A) → part r ≡ Ok x → r ≡ Ok x
part_ok (Ok y) x e = let q : y ≡ x = cc in ap (λ z. Ok z) q
part_ok (Err d) x e = absurd cc

pub part_err : {A : Type 0} (r : Result A DataFault) (f : TermFault) → part r ≡ Err f → (d : DataFault) × (r ≡ Err d) × (in_data d ≡ f)
part_err (Ok y) f e = absurd cc
part_err (Err d) f e = (d, refl, cc)

-- a term that a layout makes, and a layout that fails
pub made_ok : {A : Type 0} (make : A → Term) (r : ReadPart A) (x : Term × List ℕ) → term_of make r ≡ Ok x → (v : A × List ℕ) × (r ≡ Ok v) × (done {E = TermFault} (make v.0, v.1) ≡ done x)
made_ok make (Ok v) x e = (v, refl, e)
made_ok make (Err d) x e = absurd cc

pub made_err : {A : Type 0} (make : A → Term) (r : ReadPart A) (f : TermFault) → term_of make r ≡ Err f → (d : DataFault) × (r ≡ Err d) × (in_data d ≡ f)
made_err make (Ok v) f e = absurd cc
made_err make (Err d) f e = (d, refl, cc)
