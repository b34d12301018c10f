-- What is set at the start.
use Rattle.std.proofs.Common.{◌≡◌, ◌<◌, ◌≤◌, ℕ, suc, min, max, true, false, cond, List, [], ◌∷◌, map, length, refl, ap, sym, ◌∙◌, arith}
use Rattle.std.specs.Prelude.{fold, nat_lt, All, Some}
use Rattle.std.specs.List.{AllByRecursion, slice_get}
use Rattle.std.proofs.lemmas.Bool.Decides.{nat_tests}
use Rattle.acpi_values.specs.declared.dependency.Coord.TheVariants.{SwAll, SwAny, HwAll}
use Rattle.pw_plan.specs.declared.domain.Domain.{Domain}
use Rattle.pw_plan.specs.declared.domain.DomainKind.{DomainKind}
use Rattle.pw_plan.specs.declared.domain.DomainKind.TheVariants as kinds
use Rattle.pw_plan.specs.declared.plan.Plan.{Plan}
use Rattle.pw_plan.specs.Groups.{is_idle, is_software, no_domain}
use Rattle.pw_plan.specs.Places.{domain_at}
use Rattle.pw_model.specs.States.{ask_of, limit_of, opening}
use Rattle.pw_model.specs.Domains.{standing, stands_at}
use Rattle.pw_model.specs.Operations.{first_member, opening_at, opening_ops_of, set_on}
use Rattle.pw_model.proofs.Maps.{map_agree}
use Rattle.pw_model.proofs.Opening.{own_limit, opening_ask, opening_own}

-- the slowest limit that these processors open with
abbrev pub slowest : Plan → DomainKind → List ℕ → ℕ
slowest P kind members = fold max 0 (map (own_limit P kind) members)

-- # Where a domain stands at the start

max-from : (a : ℕ) (xs : List ℕ) → a ≤ fold max a xs
max-from a [] = omega arith
max-from a (x ∷ xs) = let le = max-from (max a x) xs in omega (arith, le)

min-from : (a : ℕ) (xs : List ℕ) → fold min a xs ≤ a
min-from a [] = omega arith
min-from a (x ∷ xs) = let le = min-from (min a x) xs in omega (arith, le)

-- where limits and asks are the same, the slowest limit
stands-same : (x : ℕ) (xs : List ℕ) → stands_at (x ∷ xs) (x ∷ xs) ≡ fold max 0 (x ∷ xs)
stands-same x xs =
    let high = max-from (max 0 x) xs in
    let low = min-from (min 255 x) xs in
    omega (arith, high, low)

module _ (P : Plan) (d : ℕ) where
  at_start : (members : List ℕ) (p : ℕ) → (domain_at P d).members ≡ members → is_software (domain_at P d).coord ≡ true → AllByRecursion (λ q. q < length P.cpus) members → 0 < length members
      → standing P (opening P) d p ≡ slowest P (domain_at P d).kind members
  at_start members p is soft exist some =
      let kind = (domain_at P d).kind in
      let asks : map (ask_of kind (opening P)) members ≡ map (own_limit P kind) members = map_agree (λ q. q < length P.cpus) (ask_of kind (opening P)) (own_limit P kind) (opening_ask P kind) members
      exist in
      let limits : map (limit_of kind (opening P)) members ≡ map (own_limit P kind) members = map_agree (λ q. q < length P.cpus) (limit_of kind (opening P)) (own_limit P kind)
      (opening_own P kind) members exist in
      ap (λ b. cond b (stands_at (map (ask_of kind (opening P)) (domain_at P d).members) (map (limit_of kind (opening P)) (domain_at P d).members))
      (max (limit_of kind (opening P) p) (ask_of kind (opening P) p))) soft
      ∙ ap (λ ms. stands_at (map (ask_of kind (opening P)) ms) (map (limit_of kind (opening P)) ms)) is
      ∙ ap (λ xs. stands_at xs (map (limit_of kind (opening P)) members)) asks
      ∙ ap (λ xs. stands_at (map (own_limit P kind) members) xs) limits
      ∙ filled members some
    where
      filled : (ms : List ℕ) → 0 < length ms → stands_at (map (own_limit P (domain_at P d).kind) ms) (map (own_limit P (domain_at P d).kind) ms) ≡ slowest P (domain_at P d).kind ms
      filled [] lt = absurd (omega arith)
      filled (m ∷ ms) lt = stands-same (own_limit P (domain_at P d).kind m) (map (own_limit P (domain_at P d).kind) ms)

  -- on its own, a member stands at its limit
  own_start : (p : ℕ) → p < length P.cpus → (domain_at P d).coord ≡ HwAll → standing P (opening P) d p ≡ own_limit P (domain_at P d).kind p
  own_start p lt hard =
      let kind = (domain_at P d).kind in
      let ask = opening_ask P kind p lt in
      let limit = opening_own P kind p lt in
      ap (λ c. cond (is_software c) (stands_at (map (ask_of kind (opening P)) (domain_at P d).members) (map (limit_of kind (opening P)) (domain_at P d).members))
      (max (limit_of kind (opening P) p) (ask_of kind (opening P) p))) hard
      ∙ omega (arith, ask, limit)

  module _ (kind : is_idle (domain_at P d).kind ≡ false) (fit : nat_lt 0 (domain_at P d).unfit ≡ false) (exist : AllByRecursion (λ q. q < length P.cpus) (domain_at P d).members) where
    opened : opening_ops_of P d ≡ map (λ p. set_on P (domain_at P d).kind (standing P (opening P) d p) p) (opening_at (domain_at P d).coord (domain_at P d).members)
    opened =
        ap (λ b. cond b [] (cond (nat_lt 0 (domain_at P d).unfit) [] (map (λ p. set_on P (domain_at P d).kind (standing P (opening P) d p) p)
        (opening_at (domain_at P d).coord (domain_at P d).members)))) kind
        ∙ ap (λ b. cond b [] (map (λ p. set_on P (domain_at P d).kind (standing P (opening P) d p) p) (opening_at (domain_at P d).coord (domain_at P d).members))) fit

    together : (some : 0 < length (domain_at P d).members) (soft : is_software (domain_at P d).coord ≡ true) (ms : List ℕ)
        → map (λ p. set_on P (domain_at P d).kind (standing P (opening P) d p) p) ms ≡ map (set_on P (domain_at P d).kind (slowest P (domain_at P d).kind (domain_at P d).members)) ms
    together some soft [] = refl
    together some soft (m ∷ ms) =
        let e = at_start (domain_at P d).members m refl soft exist some in
        let here : set_on P (domain_at P d).kind (standing P (opening P) d m) m ≡ set_on P (domain_at P d).kind (slowest P (domain_at P d).kind (domain_at P d).members) m =
        ap (λ s. set_on P (domain_at P d).kind s m) e in
        let later = together some soft ms in
        cc

    pub opens_all : (domain_at P d).coord ≡ SwAll → opening_ops_of P d ≡ map (set_on P (domain_at P d).kind (slowest P (domain_at P d).kind (domain_at P d).members)) (domain_at P d).members
    opens_all all =
        opened
        ∙ ap (λ c. map (λ p. set_on P (domain_at P d).kind (standing P (opening P) d p) p) (opening_at c (domain_at P d).members)) all
        ∙ by (domain_at P d).members refl
      where
        by : (ms : List ℕ) → (domain_at P d).members ≡ ms → map (λ p. set_on P (domain_at P d).kind (standing P (opening P) d p) p) ms
            ≡ map (set_on P (domain_at P d).kind (slowest P (domain_at P d).kind (domain_at P d).members)) ms
        by [] e = refl
        by (m ∷ ms) e = together (rw e (omega arith)) (ap is_software all) (m ∷ ms)

    pub opens_first : (first : ℕ) (later : List ℕ) → (domain_at P d).coord ≡ SwAny → (domain_at P d).members ≡ first ∷ later
        → opening_ops_of P d ≡ set_on P (domain_at P d).kind (slowest P (domain_at P d).kind (domain_at P d).members) first ∷ []
    opens_first first later any is =
        opened
        ∙ ap (λ c. map (λ p. set_on P (domain_at P d).kind (standing P (opening P) d p) p) (opening_at c (domain_at P d).members)) any
        ∙ ap (λ ms. map (λ p. set_on P (domain_at P d).kind (standing P (opening P) d p) p) (first_member ms)) is
        ∙ together (rw is (omega arith)) (ap is_software any) (first ∷ [])

    pub opens_none : (domain_at P d).coord ≡ SwAny → (domain_at P d).members ≡ [] → opening_ops_of P d ≡ []
    opens_none any is =
        opened
        ∙ ap (λ c. map (λ p. set_on P (domain_at P d).kind (standing P (opening P) d p) p) (opening_at c (domain_at P d).members)) any
        ∙ ap (λ ms. map (λ p. set_on P (domain_at P d).kind (standing P (opening P) d p) p) (first_member ms)) is

    pub opens_each : (domain_at P d).coord ≡ HwAll → opening_ops_of P d ≡ map (λ p. set_on P (domain_at P d).kind (own_limit P (domain_at P d).kind p) p) (domain_at P d).members
    opens_each hard =
        opened
        ∙ ap (λ c. map (λ p. set_on P (domain_at P d).kind (standing P (opening P) d p) p) (opening_at c (domain_at P d).members)) hard
        ∙ map_agree (λ p. p < length P.cpus) (λ p. set_on P (domain_at P d).kind (standing P (opening P) d p) p) (λ p. set_on P (domain_at P d).kind (own_limit P (domain_at P d).kind p) p)
        (λ p lt. ap (λ s. set_on P (domain_at P d).kind s p) (own_start p lt hard)) (domain_at P d).members exist

-- an idle or an unfit domain opens nothing
pub opens_nothing : (P : Plan) (d : ℕ) → is_idle (domain_at P d).kind ≡ true → opening_ops_of P d ≡ []
opens_nothing P d kind =
    ap (λ b. cond b [] (cond (nat_lt 0 (domain_at P d).unfit) [] (map (λ p. set_on P (domain_at P d).kind (standing P (opening P) d p) p) (opening_at (domain_at P d).coord (domain_at P d).members))))
    kind

not_idle : (kind : DomainKind) → (kind ≡ kinds.Idle → ⊥) → is_idle kind ≡ false
not_idle kinds.Perf free = refl
not_idle kinds.Throttle free = refl
not_idle kinds.Idle free = absurd (free refl)

is_fit : (unfit : ℕ) → unfit ≤ 0 → nat_lt 0 unfit ≡ false
is_fit unfit le = grind (arith, nat_tests)

pub each_of : {X : Type 0} (Q : X → Type 0) (xs : List X) → All Q xs → AllByRecursion Q xs
each_of Q [] h = tt
each_of Q (x ∷ xs) h = (h 0 x (omega arith), each_of Q xs (λ k d lt. h (suc k) d (omega arith)))

-- what is set on a fit domain D at place d, by its limits
module _ (P : Plan) (d : ℕ) (D : Domain) (ms : List ℕ) (lt : d < length P.domains) (is : D ≡ domain_at P d) (members : ms ≡ D.members) (free : D.kind ≡ kinds.Idle → ⊥) (fit : D.unfit ≤ 0) where
  kind_is : is_idle (domain_at P d).kind ≡ false
  kind_is = rw (← is) (not_idle D.kind free)

  fit_is : nat_lt 0 (domain_at P d).unfit ≡ false
  fit_is = rw (← is) (is_fit D.unfit fit)

  exist : AllByRecursion (λ q. q < length P.cpus) (domain_at P d).members
  exist = each_of (λ q. q < length P.cpus) (domain_at P d).members (P.sound.domains.members d no_domain lt)

  pub sets_all : (limit : ℕ) → D.coord ≡ SwAll → limit ≡ slowest P D.kind ms → map (set_on P D.kind limit) ms ≡ opening_ops_of P d
  sets_all limit coord e = rw (e, members, is) (sym (opens_all P d kind_is fit_is exist (ap (λ (x : Domain). x.coord) (sym is) ∙ coord)))

  pub sets_each : D.coord ≡ HwAll → map (λ p. set_on P D.kind (own_limit P D.kind p) p) ms ≡ opening_ops_of P d
  sets_each coord = rw (members, is) (sym (opens_each P d kind_is fit_is exist (ap (λ (x : Domain). x.coord) (sym is) ∙ coord)))

  pub sets_first : (first limit : ℕ) → D.coord ≡ SwAny → Some first ≡ slice_get ms 0 → limit ≡ slowest P D.kind ms → set_on P D.kind limit first ∷ [] ≡ opening_ops_of P d
  sets_first first limit coord found e = by ms refl found
    where
      by : (xs : List ℕ) → ms ≡ xs → Some first ≡ slice_get xs 0 → set_on P D.kind limit first ∷ [] ≡ opening_ops_of P d
      by [] same found = cc
      by (x ∷ xs) same found =
          let own : first ≡ x = cc in
          let whole : (domain_at P d).members ≡ x ∷ xs = ap (λ (y : Domain). y.members) (sym is) ∙ sym members ∙ same in
          rw (own, e, members, is) (sym (opens_first P d kind_is fit_is exist x xs (ap (λ (y : Domain). y.coord) (sym is) ∙ coord) whole))
