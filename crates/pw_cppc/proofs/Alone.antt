-- Where members stand by the kind of their domain's coordination.
use Rattle.std.proofs.Common.{◌≡◌, ◌≢◌, ℕ, true, cond, map, refl, ap, arith, inl, inr}
use Rattle.acpi_values.specs.declared.dependency.Coord.{Coord}
use Rattle.acpi_values.specs.declared.dependency.Coord.TheVariants.{SwAll, SwAny, HwAll}
use Rattle.pw_plan.specs.Groups.{is_software}
use Rattle.pw_cppc.specs.declared.numbers.CppcNumbers.{CppcNumbers}
use Rattle.pw_cppc.specs.declared.plan.CppcPlan.{CppcPlan}
use Rattle.pw_cppc.specs.Laws.{IsNearest}
use Rattle.pw_cppc.specs.Planning.{domain_at}
use Rattle.pw_cppc.specs.States.{ask_of, maximum_of, minimum_of, standing, stands_at, within}

soft : (x : Coord) → x ≢ HwAll → is_software x ≡ true
soft SwAll e = refl
soft SwAny e = refl
soft HwAll e = absurd (e refl)

module _ (P : CppcPlan) (S : CppcNumbers) (d p : ℕ) where
  pub stands_together : (q : ℕ) → (domain_at P d).coord ≢ HwAll → standing P S d p ≡ standing P S d q
  stands_together q e = let software = soft (domain_at P d).coord e in rw software refl

  own_standing : (domain_at P d).coord ≡ HwAll → standing P S d p ≡ within (ask_of S p) (minimum_of S p) (maximum_of S p)
  own_standing hardware = ap (λ (x : Coord). cond (is_software x) (stands_at (map (ask_of S) (domain_at P d).members) (map (minimum_of S) (domain_at P d).members)
      (map (maximum_of S) (domain_at P d).members)) (within (ask_of S p) (minimum_of S p) (maximum_of S p))) hardware

  pub stands_nearest : (domain_at P d).coord ≡ HwAll → IsNearest (ask_of S p) (minimum_of S p) (maximum_of S p) (standing P S d p)
  stands_nearest hardware =
      let is = own_standing hardware in
      record {
        asked = λ a b. omega (arith, is, a, b);
        raised = λ a b. omega (arith, is, a, b);
        lowered = λ e. elim e [ inl a ↦ omega (arith, is, a) | inr a ↦ omega (arith, is, a) ];
      }
