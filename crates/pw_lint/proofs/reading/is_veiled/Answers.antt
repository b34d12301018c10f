use Rattle.std.proofs.Common.{inl, inr, refl}
use Rattle.pw_lint.proofs.reading.is_veiled.Goals as goal

pub returns-in-Method : goal.returns-in-Method
returns-in-Method c = elim c.in-Method.is [
  | inl e ↦ rw e refl
  | inr e ↦ rw e.1 refl
]

pub returns-in-Data : goal.returns-in-Data
returns-in-Data c = elim c.in-Data.is [
  | inl e ↦ rw e.1 refl
  | inr (inl e) ↦ rw e refl
  | inr (inr e) ↦ rw e refl
]
