-- How many operations a request has at most.
use Rattle.std.proofs.Common.{◌≡◌, ◌≤◌, ℕ, length, arith, inl, inr, true, false, Bool, cond}
use Rattle.std.specs.Prelude.{nat_lt}
use Rattle.std.proofs.lemmas.Bool.{cases_lt}
use Rattle.std.proofs.lemmas.List.{get_or_past}
use Rattle.acpi_values.specs.declared.dependency.Coord.{Coord}
use Rattle.acpi_values.specs.declared.dependency.Coord.TheVariants.{SwAll, SwAny, HwAll}
use Rattle.pw_plan.specs.declared.domain.DomainKind.{DomainKind}
use Rattle.pw_plan.specs.declared.domain.DomainKind.TheVariants as kinds
use Rattle.pw_plan.specs.declared.plan.Plan.{Plan}
use Rattle.pw_plan.specs.declared.request.Request.{Request}
use Rattle.pw_plan.specs.declared.request.Request.TheVariants.{Idle, Wake, Perf, Throttle, PerfLimit, ThrottleLimit}
use Rattle.pw_plan.specs.Groups.{no_domain, no_group}
use Rattle.pw_plan.specs.Places.{domain_at, domain_of, group_at, group_of}
use Rattle.pw_plan.specs.Requests.{domain_bound, group_bound, ops_bound, set_count}

pub members_few : (P : Plan) (d : ℕ) → length (domain_at P d).members ≤ 256
unfolding no_domain
members_few P d = elim (cases_lt d (length P.domains)) [
  | inl lt ↦ P.sound.domains.sizes d no_domain lt
  | inr ge ↦ let e : domain_at P d ≡ no_domain = get_or_past P.domains d no_domain ge in rw e (omega arith)
]

pub set_few : (coord : Coord) (n : ℕ) → n ≤ 256 → set_count coord n ≤ 256
set_few SwAll n le = le
set_few SwAny n le = omega arith
set_few HwAll n le = omega arith

pub domain_few : (P : Plan) (kind : DomainKind) (p : ℕ) → domain_bound P kind p ≤ 256
domain_few P kind p = set_few (domain_at P (domain_of P kind p)).coord (length (domain_at P (domain_of P kind p)).members) (members_few P (domain_of P kind p))

pub group_few : (P : Plan) (p : ℕ) → group_bound P p ≤ 256
unfolding no_group
group_few P p = elim (cases_lt (group_of P p) (length P.groups)) [
  | inl lt ↦ step (nat_lt (group_of P p) (length P.groups)) (P.sound.groups.sizes (group_of P p) no_group lt)
  | inr ge ↦ past (nat_lt (group_of P p) (length P.groups)) (get_or_past P.groups (group_of P p) no_group ge)
]
  where
    step : (b : Bool) → length (group_at P (group_of P p)).members ≤ 256 → cond b (length (group_at P (group_of P p)).members) 1 ≤ 256
    step true le = le
    step false le = omega arith

    past : (b : Bool) → group_at P (group_of P p) ≡ no_group → cond b (length (group_at P (group_of P p)).members) 1 ≤ 256
    past true e = rw e (omega arith)
    past false e = omega arith

pub bound_small : (P : Plan) (q : Request) → ops_bound P q ≤ 256
bound_small P (Idle p s t) = group_few P p
bound_small P (Wake p) = omega arith
bound_small P (Perf p i) = domain_few P kinds.Perf p
bound_small P (Throttle p i) = domain_few P kinds.Throttle p
bound_small P (PerfLimit p n) = domain_few P kinds.Perf p
bound_small P (ThrottleLimit p n) = domain_few P kinds.Throttle p
