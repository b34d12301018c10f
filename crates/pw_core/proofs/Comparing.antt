-- What the plain programs compute.
use Rattle.std.proofs.Common.{◌≡◌, ◌+◌, ◌==◌, ◌&&◌, ◌||◌, not, ℕ, max, Bool, true, List, [], ◌∷◌, nat_le, refl, ap, sym, ◌∙◌, arith}
use Rattle.std.specs.Prelude.{fold}
use Rattle.std.specs.List.{list_all}
use Rattle.std.proofs.lemmas.Bool.Decides.{nat_tests}
use Rattle.pw_plan.specs.declared.domain.Domain.{Domain}
use Rattle.pw_plan.specs.declared.domain.DomainKind.TheVariants.{Idle}
use Rattle.pw_plan.specs.Groups.{is_software}
use Rattle.pw_plan.specs.Covering.{covers}
use Rattle.pw_plan.proofs.Lists.{and_both}
use Rattle.pw_model.specs.declared.state.State.{State}
use Rattle.pw_model.specs.States.{vote_of}
use Rattle.pw_model.specs.Domains.{governs, is_gathered, state_of}

-- a domain that governs a C state permits it where all members vote for it or a deeper one
pub permits_all : (S : State) (d : Domain) (p level : ℕ) (members : List ℕ) (all : Bool) → covers Idle p d ≡ true → is_software d.coord ≡ true → d.index + 1 ≡ level → members ≡ d.members
    → all ≡ list_all (λ q. nat_le level (vote_of S q).state) members → all ≡ (not (governs p level d) || is_gathered S d)
permits_all S d p level members all covered soft is listed e =
    let test : (state_of d == level) ≡ true = grind (arith, nat_tests) in
    let g : governs p level d ≡ true = and_both (covers Idle p d && is_software d.coord) (state_of d == level) (and_both (covers Idle p d) (is_software d.coord) covered soft) test in
    e
    ∙ ap (λ ms. list_all (λ q. nat_le level (vote_of S q).state) ms) listed
    ∙ ap (λ l. list_all (λ q. nat_le l (vote_of S q).state) d.members) (sym is)
    ∙ ap (λ b. not b || is_gathered S d) (sym g)

max_from : (a b : ℕ) (xs : List ℕ) → fold max (max b a) xs ≡ max (fold max b xs) a
max_from a b [] = refl
max_from a b (x ∷ xs) =
    let same : max (max b a) x ≡ max (max b x) a = omega arith in
    ap (λ m. fold max m xs) same ∙ max_from a (max b x) xs

-- the greatest of a number and a list
pub max_out : (a : ℕ) (xs : List ℕ) → fold max a xs ≡ max (fold max 0 xs) a
max_out a xs = let same : a ≡ max 0 a = omega arith in ap (λ m. fold max m xs) same ∙ max_from a 0 xs
