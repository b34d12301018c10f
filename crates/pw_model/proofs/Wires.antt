-- What the laws use of a plan, from what it tells.
use Rattle.std.proofs.Common.{◌≡◌, ◌<◌, ◌==◌, ℕ, suc, true, false, List, [], ◌∷◌, length, get_or, refl, arith, inl, inr}
use Rattle.std.specs.List.{list_any}
use Rattle.std.proofs.lemmas.Bool.{cases_lt}
use Rattle.std.proofs.lemmas.List.{get_or_past}
use Rattle.std.proofs.lemmas.List.Elements.{recursion_from_All}
use Rattle.acpi_values.specs.declared.idle.IdleKind.{IdleKind}
use Rattle.acpi_values.specs.declared.idle.IdleKind.TheVariants.{Cst, Lpi, Absent}
use Rattle.pw_plan.specs.declared.domain.Child.{Child}
use Rattle.pw_plan.specs.declared.domain.Child.TheVariants.{Cpu}
use Rattle.pw_plan.specs.declared.domain.Domain.{Domain}
use Rattle.pw_plan.specs.declared.plan.Plan.{Plan}
use Rattle.pw_plan.specs.Groups.{has_member, is_link, no_domain}
use Rattle.pw_plan.specs.Places.{children_at, cpu_at, domain_at, group_at, group_of, no_group}
use Rattle.pw_plan.specs.Orderly.{IsOrderly, is_cst, is_same}
use Rattle.pw_plan.specs.inner.Once.{Once}
use Rattle.pw_model.specs.inner.Wired.{IsWired}
use Rattle.pw_plan.proofs.Orders.{same_child}
use Rattle.pw_plan.proofs.Rising.{rises_of, rises_once}

cst_is : (k : IdleKind) → is_cst k ≡ true → k ≡ Cst
cst_is Cst e = refl
cst_is Lpi e = cc
cst_is Absent e = cc

none_same : (c : Child) (xs : List Child) → ((k : ℕ) → k < length xs → is_same c (get_or xs k (Cpu 0)) ≡ false) → list_any (is_same c) xs ≡ false
none_same c [] h = refl
none_same c (x ∷ xs) h = let here = h 0 (omega arith) in let later = none_same c xs (λ k lt. h (suc k) (omega arith)) in rw here later

once_by : (c : Child) (xs : List Child) → ((j k : ℕ) → j < k → k < length xs → is_same (get_or xs j (Cpu 0)) (get_or xs k (Cpu 0)) ≡ false) → Once (is_same c) xs
once_by c [] h = tt
once_by c (x ∷ xs) h = (
  λ e. none_same c xs (λ k lt. let i = same_child c x e in rw i (h 0 (suc k) (omega arith) (omega arith))),
  once_by c xs
      (λ j k a b. h (suc j) (suc k) (omega arith) (omega arith)),
)

module _ (P : Plan) (o : IsOrderly P.containers P.cpus P.children P.domains P.groups) where
  domain_once : (d p : ℕ) → Once (λ q. q == p) (domain_at P d).members
  unfolding no_domain
  domain_once d p = elim (cases_lt d (length P.domains)) [
    | inl lt ↦ rises_once 0 p (domain_at P d).members (rises_of (domain_at P d).members (o.members d no_domain lt))
    | inr le ↦ let none : domain_at P d ≡ no_domain = get_or_past P.domains d no_domain le in rw none tt
  ]

  group_once : (g p : ℕ) → Once (λ q. q == p) (group_at P g).members
  unfolding no_group
  group_once g p = elim (cases_lt g (length P.groups)) [
    | inl lt ↦ rises_once 0 p (group_at P g).members (rises_of (group_at P g).members (o.grouped g no_group lt))
    | inr le ↦ let none : group_at P g ≡ no_group = get_or_past P.groups g no_group le in rw none tt
  ]

  pub wires : IsWired P
  wires = record {
    children = λ n c. once_by c (children_at P n) (o.once n);
    members = domain_once;
    grouped = group_once;
    kind = λ g p lt on. cst_is (cpu_at P p).idle.kind (o.kind g no_group lt p on);
    one_group = o.one_group;
    together = recursion_from_All (λ (d : Domain). (p q : ℕ) → is_link d ≡ true → has_member d.members p ≡ true → has_member d.members q ≡ true
        → (group_of P p < length P.groups) × (has_member (group_at P (group_of P p)).members q ≡ true)) P.domains o.together;
  }
