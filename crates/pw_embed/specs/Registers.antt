-- Registers that nobody operates.
use Rattle.std.specs.Prelude.{◌^◌, ℕ, Bool, false, List, []}
use Rattle.acpi_values.specs.declared.operation.Op.{Op}
use Rattle.pw_regs.specs.declared.registers.Registers.{Ghosts as Registers}
use Rattle.pw_embed.specs.declared.registers.NoRegisters.{NoRegisters}

abbrev pub tells_nothing : NoRegisters → Bool
tells_nothing r = false

abbrev pub no_log : NoRegisters → List Op
no_log r = []

-- room for more operations than any list has
abbrev pub whole_room : NoRegisters → ℕ
whole_room r = 2 ^ 32

abbrev pub no_faults : NoRegisters → ℕ
no_faults r = 0

-- what contracts see of them
abbrev pub by_none : Registers NoRegisters
by_none = record { told = tells_nothing; log = no_log; room = whole_room; faults = no_faults }
