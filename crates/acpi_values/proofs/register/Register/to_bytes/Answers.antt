use Rattle.std.proofs.Common.{◌≡◌, ℕ, Ok, ap}
use Rattle.std.specs.Int.{w64, from_le_bytes, to_le_bytes}
use Rattle.acpi_values.specs.declared.register.Register.{Register}
use Rattle.acpi_values.specs.Registers.{register_bytes, register_of}
use Rattle.acpi_values.proofs.register.Register.to_bytes.Goals as goal

-- what was written is read
read_back : (r : Register) (n : ℕ) → from_le_bytes w64 (to_le_bytes w64 r.address) ≡ n → register_of (register_bytes r) ≡ Ok (record r { address = n })
unfolding register_of
read_back r n e = ap (λ a. Ok (record r { address = a })) e

pub returns-clause-read : goal.returns-clause-read
returns-clause-read c = rw c.address_bytes.ensures.value (read_back c.args.self.now c.args.self.now.address (rw c.address_bytes.ensures.value at c.address_bytes.ensures.read))
