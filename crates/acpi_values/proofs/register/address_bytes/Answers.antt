use Rattle.std.proofs.Common.{rules}
use Rattle.std.proofs.lemmas.Nat.{from_le_bytes-to_le_bytes_8}
use Rattle.acpi_values.proofs.register.address_bytes.Goals as goal

pub returns-clause-read : goal.returns-clause-read
returns-clause-read c = rw c.to_le_bytes.ensures (from_le_bytes-to_le_bytes_8 c.args.address (search (rules, c.ranges.address)))
