-- What entries ask, and how many operations that has.
use Rattle.std.proofs.Common.{◌≡◌, ◌≤◌, ◌+◌, ℕ, length, arith, inl, inr}
use Rattle.std.proofs.lemmas.Bool.{cases_lt}
use Rattle.std.proofs.lemmas.List.{get_or_past}
use Rattle.std.proofs.lemmas.Grind.{common_steps}
use Rattle.acpi_values.specs.declared.dependency.Coord.{Coord}
use Rattle.acpi_values.specs.declared.dependency.Coord.TheVariants.{SwAll, SwAny, HwAll}
use Rattle.pw_plan.specs.Requests.{set_count}
use Rattle.pw_cppc.specs.declared.plan.CppcPlan.{CppcPlan}
use Rattle.pw_cppc.specs.declared.request.CppcRequest.{CppcRequest}
use Rattle.pw_cppc.specs.Planning.{domain_at, domain_of}
use Rattle.pw_cppc.specs.Requests.{Has, cpu_of, ops_bound}
use Rattle.pw_cppc.specs.Sound.{no_domain}
use Rattle.pw_cppc.specs.declared.entry.CppcEntry.{CppcEntry}
use Rattle.pw_cppc.specs.History.{StatesRequest, request_of}

members_few : (P : CppcPlan) (d : ℕ) → length (domain_at P d).members ≤ 256
unfolding no_domain
members_few P d = elim (cases_lt d (length P.domains)) [
  | inl lt ↦ P.sound.sizes d no_domain lt
  | inr ge ↦ let e : domain_at P d ≡ no_domain = get_or_past P.domains d no_domain ge in rw e (omega arith)
]

set_few : (coord : Coord) (n : ℕ) → n ≤ 256 → 1 + set_count coord n ≤ 257
set_few SwAll n le = omega (arith, le)
set_few SwAny n le = omega arith
set_few HwAll n le = omega arith

pub bound_small : (P : CppcPlan) (q : CppcRequest) → ops_bound P q ≤ 257
bound_small P q =
    let d = domain_at P (domain_of P (cpu_of q)) in
    set_few d.coord (length d.members) (members_few P (domain_of P (cpu_of q)))

pub entry_cpu : (e : CppcEntry) → cpu_of (request_of e) ≡ e.cpu
entry_cpu e = grind (arith, common_steps)

pub entry_has : (P : CppcPlan) (e : CppcEntry) → StatesRequest P e → Has P (request_of e)
entry_has P e is = rw (entry_cpu e) is.cpu
