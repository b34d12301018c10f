-- Where a domain that software coordinates stands.
use Rattle.std.proofs.Common.{◌≡◌, ℕ, Bool, true, cond, map, ap, sym, subst}
use Rattle.std.proofs.lemmas.List.{length-map}
use Rattle.pw_plan.specs.Groups.{is_software}
use Rattle.pw_cppc.specs.declared.plan.CppcDomain.{CppcDomain}
use Rattle.pw_cppc.specs.declared.plan.CppcPlan.{CppcPlan}
use Rattle.pw_cppc.specs.Parts.{highest_of, lowest_of}
use Rattle.pw_cppc.specs.Planning.{domain_at}
use Rattle.pw_cppc.specs.declared.numbers.CppcNumbers.{CppcNumbers}
use Rattle.pw_cppc.specs.States.{AreNumbers, ask_of, maximum_of, minimum_of, opening, standing, stands_at, within}

pub software_stands : (P : CppcPlan) (S : CppcNumbers) (place cpu : ℕ) (d : CppcDomain) → d ≡ domain_at P place → is_software d.coord ≡ true
    → stands_at (map (ask_of S) d.members) (map (minimum_of S) d.members) (map (maximum_of S) d.members) ≡ standing P S place cpu
software_stands P S place cpu d e soft =
    let together = stands_at (map (ask_of S) d.members) (map (minimum_of S) d.members) (map (maximum_of S) d.members) in
    let alone = within (ask_of S cpu) (minimum_of S cpu) (maximum_of S cpu) in
    subst (λ (x : CppcDomain). together ≡ cond (is_software x.coord) (stands_at (map (ask_of S) x.members) (map (minimum_of S) x.members) (map (maximum_of S) x.members)) alone) e
    (ap (λ (b : Bool). cond b together alone) (sym soft))

pub opening_fits : (P : CppcPlan) → AreNumbers P (opening P)
unfolding opening
opening_fits P = record { asks = length-map P.cpus highest_of; minima = length-map P.cpus lowest_of; maxima = length-map P.cpus highest_of }
