use Rattle.std.proofs.Common.{inl, inr, refl}
use Rattle.pw_lint.proofs.devices.is_device_itself.Goals as goal

pub returns-in-Device : goal.returns-in-Device
returns-in-Device c = rw c.in-Device.is refl

pub returns-in-Data : goal.returns-in-Data
returns-in-Data c = elim c.in-Data.is [
  | inl e ↦ rw e.1 refl
  | inr (inl e) ↦ rw e refl
  | inr (inr (inl e)) ↦ rw e refl
  | inr (inr (inr e)) ↦ rw e.1 refl
]
