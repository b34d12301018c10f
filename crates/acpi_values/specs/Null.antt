-- The null register, which stands for none (ACPI 6.5, 8.4.6.1).
use Rattle.std.specs.Prelude.{◌==◌, ◌&&◌, Bool}
use Rattle.acpi_values.specs.declared.register.Register.{Register}

-- in system memory at address 0, with no bits and an access size that isn't defined
abbrev pub null_register : Register
null_register = record { space = 0; width = 0; offset = 0; access = 0; address = 0 }

-- whether a register is null: all its fields are 0
abbrev pub is_null : Register → Bool
is_null r = (r.space == 0) && (r.width == 0) && (r.offset == 0) && (r.access == 0) && (r.address == 0)
