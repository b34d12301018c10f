use Rattle.std.proofs.Common.{◌≡◌, ◌≢◌, ℕ, false, List, length, Err, ◌==◌, refl, arith}
use Rattle.std.proofs.lemmas.Bool.Decides.{nat_tests}
use Rattle.acpi_values.specs.Registers.{register_of}
use Rattle.acpi_values.specs.declared.register.RegisterFault.TheVariants.{Length}
use Rattle.acpi_fields.proofs.reading.register_in.Goals as goal

-- bytes of another number are no register
too_many : (bytes : List ℕ) → length bytes ≢ 17 → register_of bytes ≡ Err (Length (length bytes))
unfolding register_of
too_many bytes other = let no : (length bytes == 17) ≡ false = grind (arith, nat_tests) in rw no refl

pub returns-in-None : goal.returns-in-None
returns-in-None c = rw (too_many _ c.in-None.ensures) refl
