-- Which elements of `_CPC` are registers that aren't null.
use Rattle.std.proofs.Common.{◌≡◌, ◌≢◌, Option, Some, None, refl, ap}
use Rattle.acpi_values.specs.declared.performance.CpcEntry.{CpcEntry}
use Rattle.acpi_values.specs.declared.performance.CpcEntry.TheVariants.{Number, Register}
use Rattle.acpi_values.specs.declared.register.Register.{Register as register}
use Rattle.acpi_values.specs.Null.{null_register}
use Rattle.acpi_values.proofs.Null.{taken_from, taken_to}
use Rattle.acpi_build.proofs.Parents.{none_some}
use Rattle.pw_cppc.specs.Parts.{register_in}

pub register_to : (e : Option CpcEntry) (r : register) → register_in e ≡ Some r → (e ≡ Some (Register r)) × (r ≢ null_register)
register_to None r e = absurd (none_some e)
register_to (Some (Number n)) r e = absurd (none_some e)
register_to (Some (Register s)) r e = let taken = taken_to s r e in (ap (λ x. Some (Register x)) taken.0, taken.1)

pub register_from : (e : Option CpcEntry) (r : register) → (e ≡ Some (Register r)) × (r ≢ null_register) → register_in e ≡ Some r
register_from e r is = rw is.0 (taken_from r r (refl, is.1))
