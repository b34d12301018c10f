-- Where a domain that software coordinates stands.
use Rattle.std.proofs.Common.{◌≡◌, ℕ, Bool, true, cond, map, max, ap, sym, subst}
use Rattle.pw_plan.specs.declared.domain.Domain.{Domain}
use Rattle.pw_plan.specs.declared.plan.Plan.{Plan}
use Rattle.pw_plan.specs.Groups.{is_software}
use Rattle.pw_plan.specs.Places.{domain_at}
use Rattle.pw_model.specs.declared.state.State.{State}
use Rattle.pw_model.specs.States.{ask_of, limit_of}
use Rattle.pw_model.specs.Domains.{standing, stands_at}

pub software_stands : (P : Plan) (S : State) (place cpu : ℕ) (d : Domain) → d ≡ domain_at P place → is_software d.coord ≡ true
    → stands_at (map (ask_of d.kind S) d.members) (map (limit_of d.kind S) d.members) ≡ standing P S place cpu
software_stands P S place cpu d e soft =
    let together = stands_at (map (ask_of d.kind S) d.members) (map (limit_of d.kind S) d.members) in
    let alone = max (limit_of d.kind S cpu) (ask_of d.kind S cpu) in
    subst (λ (x : Domain). together ≡ cond (is_software x.coord) (stands_at (map (ask_of x.kind S) x.members) (map (limit_of x.kind S) x.members)) (max (limit_of x.kind S cpu) (ask_of x.kind S cpu)))
    e
    (ap (λ (b : Bool). cond b together alone) (sym soft))
