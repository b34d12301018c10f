-- One register is null.
use Rattle.std.proofs.Common.{◌≡◌, ◌≢◌, ◌==◌, ◌&&◌, ℕ, Bool, true, false, Option, Some, None, refl, sym, ap, ◌∙◌, arith}
use Rattle.std.specs.Prelude.{cond}
use Rattle.std.proofs.lemmas.Bool.{false≢true}
use Rattle.std.proofs.lemmas.Bool.Decides.{nat_tests}
use Rattle.acpi_values.specs.declared.register.Register.{Register}
use Rattle.acpi_values.specs.Null.{is_null, null_register}

same_fields : (r : Register) (space width offset access address : ℕ) → r.space ≡ space → r.width ≡ width → r.offset ≡ offset → r.access ≡ access → r.address ≡ address
    → r ≡ record { space = space; width = width; offset = offset; access = access; address = address }
same_fields r space width offset access address a b c d e = rw (← a, ← b, ← c, ← d, ← e) refl

pub is_to : (r : Register) → is_null r ≡ true → r ≡ null_register
is_to r e = same_fields r 0 0 0 0 0 (grind (arith, nat_tests)) (grind (arith, nat_tests)) (grind (arith, nat_tests)) (grind (arith, nat_tests)) (grind (arith, nat_tests))

pub is_from : (r : Register) → r ≡ null_register → is_null r ≡ true
is_from r e = rw e refl

-- a register that is taken unless it is null
pub taken_to : (r s : Register) → cond (is_null r) None (Some r) ≡ Some s → (r ≡ s) × (s ≢ null_register)
taken_to r s = by (is_null r) refl
  where
    by : (b : Bool) → is_null r ≡ b → cond b None (Some r) ≡ Some s → (r ≡ s) × (s ≢ null_register)
    by true is e = absurd (let none : None ≡ Some s = e in cc)
    by false is e = let same : r ≡ s = cc in (same, λ null. false≢true (sym is ∙ is_from r (same ∙ null)))

pub taken_from : (r s : Register) → (r ≡ s) × (s ≢ null_register) → cond (is_null r) None (Some r) ≡ Some s
taken_from r s taken = by (is_null r) refl
  where
    by : (b : Bool) → is_null r ≡ b → cond b None (Some r) ≡ Some s
    by true is = absurd (taken.1 (sym taken.0 ∙ is_to r is))
    by false is = ap Some taken.0
