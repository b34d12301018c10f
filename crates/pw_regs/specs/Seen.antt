-- What a call sees of registers at one moment.
use Rattle.std.specs.Prelude.{◌≡◌, ℕ, Bool, true, List, ◌++◌}
use Rattle.acpi_values.specs.declared.operation.Op.{Op}
use Rattle.pw_regs.specs.declared.registers.Registers.{Ghosts as Registers}

-- registers at one moment: whether they tell, which operations were done on them, how many more are sure to be done, and how
-- often one failed
pub record RegistersSeen : Type 0 where
  pub told : Bool
  pub log : List Op
  pub room : ℕ
  pub faults : ℕ

-- what is seen of registers of some type, of which `R.Registers` says what they tell, log, have room for and count
abbrev pub registers_seen : {S : Type 0} → Registers S → S → RegistersSeen
registers_seen by s = record { told = by.told s; log = by.log s; room = by.room s; faults = by.faults s }

-- where the registers tell, their log grew by these operations
abbrev pub Operated : RegistersSeen → RegistersSeen → List Op → Type 0
Operated old new ops = old.told ≡ true → new.log ≡ old.log ++ ops
