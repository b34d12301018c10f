-- A processor's own idle domains decide what all domains do.
use Rattle.std.proofs.Common.{◌≡◌, ◌<◌, ◌&&◌, ◌||◌, not, ℕ, Bool, true, false, length, get_or, refl, arith, zero-add}
use Rattle.std.specs.List.{list_all, list_any}
use Rattle.std.proofs.lemmas.List.{get_or-map, length-map}
use Rattle.std.proofs.lemmas.List.Elements.{All-from_recursion}
use Rattle.pw_plan.specs.declared.domain.Domain.{Domain}
use Rattle.pw_plan.specs.declared.domain.DomainKind.TheVariants.{Idle}
use Rattle.pw_plan.specs.declared.index.Membership.{Membership}
use Rattle.pw_plan.specs.declared.plan.Plan.{Plan}
use Rattle.pw_plan.specs.Groups.{no_domain}
use Rattle.pw_plan.specs.Index.{idle_memberships, membership_in}
use Rattle.pw_plan.specs.Places.{domain_at}
use Rattle.pw_plan.specs.Covering.{covers}
use Rattle.pw_plan.specs.Tree.{places_from}
use Rattle.pw_plan.proofs.Lists.{places-each}
use Rattle.pw_plan.proofs.Memberships.{all_own, any_own}
use Rattle.pw_model.specs.Domains.{governs}

governs-own : (p j : ℕ) (d : Domain) → covers Idle p d ≡ false → governs p j d ≡ false
governs-own p j d h = rw h refl

-- each domain that governs a C state passes a test where each own one does
pub all_governing : (P : Plan) (p j : ℕ) (test : Domain → Bool)
    → list_all (λ (s : Membership). not (governs p j (domain_at P s.place)) || test (domain_at P s.place)) (idle_memberships P.domains p)
    ≡ list_all (λ d. not (governs p j d) || test d) P.domains
all_governing P p j test = all_own P p (λ d. not (governs p j d) || test d) (λ d h. rw (governs-own p j d h) refl)

-- each of a processor's idle domains covers it
pub idle_covers : (P : Plan) (p i : ℕ) (d : Membership) → i < length (idle_memberships P.domains p) → covers Idle p (domain_at P (get_or (idle_memberships P.domains p) i d).place) ≡ true
idle_covers P p i d lt =
    let places = places_from (covers Idle p) 0 P.domains in
    let count = length-map places (membership_in P.domains p) in
    let short : i < length places = omega (arith, count) in
    let each = All-from_recursion (λ k. covers Idle p (domain_at P k) ≡ true) places (places-each (λ k. covers Idle p (domain_at P k) ≡ true) (covers Idle p) 0 P.domains no_domain
    (λ k at e. rw zero-add e)) in
    rw (get_or-map (membership_in P.domains p) places i 0 d short) (each i 0 short)

-- one that governs it does where an own one does
pub any_governing : (P : Plan) (p j : ℕ) (test : Domain → Bool)
    → list_any (λ (s : Membership). governs p j (domain_at P s.place) && test (domain_at P s.place)) (idle_memberships P.domains p)
    ≡ list_any (λ d. governs p j d && test d) P.domains
any_governing P p j test = any_own P p (λ d. governs p j d && test d) (λ d h. rw (governs-own p j d h) refl)
