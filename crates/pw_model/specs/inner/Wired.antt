-- What the proofs use of a plan, from what it tells.
use Rattle.std.specs.Prelude.{◌≡◌, ◌<◌, ◌==◌, ℕ, true, length}
use Rattle.std.specs.List.{AllByRecursion}
use Rattle.acpi_values.specs.declared.idle.IdleKind.TheVariants.{Cst}
use Rattle.pw_plan.specs.declared.domain.Child.{Child}
use Rattle.pw_plan.specs.declared.domain.Domain.{Domain}
use Rattle.pw_plan.specs.declared.plan.Plan.{Plan}
use Rattle.pw_plan.specs.Groups.{has_member, is_link}
use Rattle.pw_plan.specs.Orderly.{is_same}
use Rattle.pw_plan.specs.Places.{children_at, cpu_at, domain_at, group_at, group_of}
use Rattle.pw_plan.specs.inner.Once.{Once}

-- Children and members stand once in their lists; who is in a group has C states and is in no other group; the members of
-- an idle domain that software coordinates are in one group.
pub record IsWired (P : Plan) : Type 0 where
  pub children : (n : ℕ) (c : Child) → Once (is_same c) (children_at P n)
  pub members : (d p : ℕ) → Once (λ q. q == p) (domain_at P d).members
  pub grouped : (g p : ℕ) → Once (λ q. q == p) (group_at P g).members
  pub kind : (g p : ℕ) → g < length P.groups → has_member (group_at P g).members p ≡ true → (cpu_at P p).idle.kind ≡ Cst
  pub one_group : (g p : ℕ) → g < length P.groups → has_member (group_at P g).members p ≡ true → group_of P p ≡ g
  pub together : AllByRecursion (λ (d : Domain). (p q : ℕ) → is_link d ≡ true → has_member d.members p ≡ true
      → has_member d.members q ≡ true
      → (group_of P p < length P.groups) × (has_member (group_at P (group_of P p)).members q ≡ true)) P.domains
