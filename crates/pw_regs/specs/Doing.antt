-- What operations do to registers.
use Rattle.std.specs.Prelude.{◌≡◌, ◌≤◌, ◌+◌, ℕ, true, List, Option, None, is_some}
use Rattle.acpi_values.specs.declared.operation.Op.{Op}
use Rattle.pw_base.specs.Outside.{Rose}
use Rattle.pw_regs.specs.Seen.{Operated, RegistersSeen}

-- These operations, at most so many, were done on registers, up to one that failed where there is one.
pub record Did (most : ℕ) (ops : List Op) (stopped : Option ℕ) (old new : RegistersSeen) : Type 0 where
  pub same_told : new.told ≡ old.told
  pub count : old.faults ≤ new.faults
  pub log : Operated old new ops
  pub fault : is_some stopped ≡ true → Rose old.faults new.faults
  pub promised : most ≤ old.room → (stopped ≡ None) × (new.faults ≡ old.faults)
  pub left : old.room ≤ new.room + most
