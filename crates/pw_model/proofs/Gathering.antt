-- What C states and the standing of domains amount to.
use Rattle.std.proofs.Common.{◌≡◌, ◌<◌, ◌≤◌, ◌==◌, ◌&&◌, ◌||◌, not, ℕ, max, min, Bool, true, false, List, [], ◌∷◌, map, refl, ap, sym, ◌∙◌, arith, nat_le}
use Rattle.std.specs.Prelude.{fold}
use Rattle.std.specs.List.{list_all, AllByRecursion}
use Rattle.std.proofs.lemmas.Bool.Decides.{nat_tests}
use Rattle.acpi_values.specs.declared.dependency.Coord.TheVariants.{HwAll}
use Rattle.pw_plan.specs.declared.domain.Domain.{Domain}
use Rattle.pw_plan.specs.declared.domain.DomainKind.{DomainKind}
use Rattle.pw_plan.specs.declared.domain.DomainKind.TheVariants.{Perf, Throttle, Idle}
use Rattle.pw_plan.specs.declared.plan.Plan.{Plan}
use Rattle.pw_plan.specs.Groups.{has_member, is_idle, is_software}
use Rattle.pw_plan.specs.Places.{domain_at}
use Rattle.pw_plan.specs.Covering.{covers, same_kind}
use Rattle.pw_plan.proofs.Lists.{and_both, and_first, and_second}
use Rattle.pw_model.specs.declared.state.State.{State}
use Rattle.pw_model.specs.States.{ask_of, limit_of, vote_of}
use Rattle.pw_model.specs.Domains.{c_state, governs, is_gathered, may_enter, standing, stands_at, state_of}
use Rattle.pw_model.specs.Laws.{AsksFrom, IsBehindOwn, LetsEnter, LimitsWithin, MayEnter}
use Rattle.pw_model.proofs.Greatest.{greatest-most, greatest-passes}
use Rattle.pw_model.proofs.Maps.{each_passes, fold_min-each, fold_min-least}
use Rattle.pw_base.proofs.Facts.{weaker}
use Rattle.pw_plan.proofs.TreeLemmas.{all_of}

-- # C states

pub idle_kind : (k : DomainKind) → is_idle k ≡ same_kind k Idle
idle_kind Perf = refl
idle_kind Throttle = refl
idle_kind Idle = refl

module _ (S : State) (p j : ℕ) where
  lets : (d : Domain) → (not (governs p j d) || is_gathered S d) ≡ true → LetsEnter S p j d
  lets d e idle software member about =
      let covered : covers Idle p d ≡ true = and_both (same_kind d.kind Idle) (has_member d.members p) (sym (idle_kind d.kind) ∙ idle) member in
      let same : (state_of d == j) ≡ true = grind (arith, nat_tests) in
      let governed : governs p j d ≡ true = and_both (covers Idle p d && is_software d.coord) (state_of d == j) (and_both (covers Idle p d) (is_software d.coord) covered software) same in
      let gathered : is_gathered S d ≡ true = ap (λ b. not b || is_gathered S d) (sym governed) ∙ e in
      weaker (λ q. nat_le (state_of d) (vote_of S q).state ≡ true) (λ q. j ≤ (vote_of S q).state) (λ q h. grind (arith, nat_tests)) d.members
      (each_passes (λ q. nat_le (state_of d) (vote_of S q).state) d.members gathered)

  lets_by : (d : Domain) → LetsEnter S p j d → (not (governs p j d) || is_gathered S d) ≡ true
  lets_by d h = step (governs p j d) refl
    where
      step : (b : Bool) → governs p j d ≡ b → (not b || is_gathered S d) ≡ true
      step false e = refl
      step true e =
          let first = and_first (covers Idle p d && is_software d.coord) (state_of d == j) e in
          let covered = and_first (covers Idle p d) (is_software d.coord) first in
          let same : (state_of d == j) ≡ true = and_second (covers Idle p d && is_software d.coord) (state_of d == j) e in
          let about : state_of d ≡ j = grind (arith, nat_tests) in
          all_of (λ q. nat_le (state_of d) (vote_of S q).state) d.members
          (weaker (λ q. j ≤ (vote_of S q).state) (λ q. nat_le (state_of d) (vote_of S q).state ≡ true) (λ q le. grind (arith, nat_tests)) d.members
          (h (idle_kind d.kind ∙ and_first (same_kind d.kind Idle) (has_member d.members p) covered) (and_second (covers Idle p d) (is_software d.coord) first)
          (and_second (same_kind d.kind Idle) (has_member d.members p) covered) about))

pub entered_may : (P : Plan) (S : State) (p : ℕ) → 0 < c_state P S p → MayEnter P S p (c_state P S p)
entered_may P S p lt = weaker (λ d. (not (governs p (c_state P S p) d) || is_gathered S d) ≡ true) (LetsEnter S p (c_state P S p)) (lets S p (c_state P S p)) P.domains
    (each_passes (λ d. not (governs p (c_state P S p) d) || is_gathered S d) P.domains (greatest-passes (may_enter P S p) (vote_of S p).state lt))

pub entered_greatest : (P : Plan) (S : State) (p j : ℕ) → j ≤ (vote_of S p).state → MayEnter P S p j → j ≤ c_state P S p
entered_greatest P S p j le h = greatest-most (may_enter P S p) (vote_of S p).state j le
    (all_of (λ d. not (governs p j d) || is_gathered S d) P.domains (weaker (LetsEnter S p j) (λ d. (not (governs p j d) || is_gathered S d) ≡ true) (lets_by S p j) P.domains h))

-- # Where domains stand

max-le : {X : Type 0} (f : X → ℕ) (least : ℕ) (xs : List X) → least ≤ fold max least (map f xs)
max-le f least [] = omega arith
max-le f least (x ∷ xs) = let a = max-le f (max least (f x)) xs in omega (arith, a)

max-each : {X : Type 0} (f : X → ℕ) (least : ℕ) (xs : List X) → AllByRecursion (λ x. f x ≤ fold max least (map f xs)) xs
max-each f least [] = tt
max-each f least (x ∷ xs) = (let a = max-le f (max least (f x)) xs in omega (arith, a), max-each f (max least (f x)) xs)

max-least : {X : Type 0} (f : X → ℕ) (t least : ℕ) (xs : List X) → least ≤ t → AllByRecursion (λ x. f x ≤ t) xs → fold max least (map f xs) ≤ t
max-least f t least [] le a = le
max-least f t least (x ∷ xs) le a = max-least f t (max least (f x)) xs (let b = a.0 in omega (arith, b)) a.1

pub of_member : (Q : ℕ → Type 0) (ms : List ℕ) (q : ℕ) → AllByRecursion Q ms → has_member ms q ≡ true → Q q
of_member Q [] q a e = cc
of_member Q (m ∷ ms) q a e = step (m == q) refl e (of_member Q ms q a.1)
  where
    step : (b : Bool) → (m == q) ≡ b → (b || has_member ms q) ≡ true → (has_member ms q ≡ true → Q q) → Q q
    step true h e later = let same : m ≡ q = grind (arith, nat_tests) in rw same at a.0
    step false h e later = later e

module _ (P : Plan) (S : State) (d p : ℕ) (software : is_software (domain_at P d).coord ≡ true) where
  stands : standing P S d p ≡ stands_at (map (ask_of (domain_at P d).kind S) (domain_at P d).members) (map (limit_of (domain_at P d).kind S) (domain_at P d).members)
  stands = rw software refl

  pub stands_within : LimitsWithin P S d (standing P S d p)
  stands_within = rw stands (weaker (λ q. limit_of (domain_at P d).kind S q ≤ fold max 0 (map (limit_of (domain_at P d).kind S) (domain_at P d).members))
      (λ q. limit_of (domain_at P d).kind S q ≤ stands_at (map (ask_of (domain_at P d).kind S) (domain_at P d).members) (map (limit_of (domain_at P d).kind S) (domain_at P d).members))
      (λ q le. omega (arith, le)) (domain_at P d).members (max-each (limit_of (domain_at P d).kind S) 0 (domain_at P d).members))

  pub stands_fastest : (q t : ℕ) → has_member (domain_at P d).members q ≡ true → ask_of (domain_at P d).kind S q ≤ t → LimitsWithin P S d t → standing P S d p ≤ t
  stands_fastest q t member ask limits =
      let a = max-least (limit_of (domain_at P d).kind S) t 0 (domain_at P d).members (omega arith) limits in
      let b = of_member (λ m. fold min 255 (map (ask_of (domain_at P d).kind S) (domain_at P d).members) ≤ ask_of (domain_at P d).kind S m) (domain_at P d).members q
      (fold_min-each (ask_of (domain_at P d).kind S) 255 (domain_at P d).members) member in
      rw stands (omega (arith, a, b, ask))

  pub stands_asked : (t : ℕ) → t ≤ 255 → AsksFrom P S d t → t ≤ standing P S d p
  stands_asked t le asks =
      let a = fold_min-least (ask_of (domain_at P d).kind S) t 255 (domain_at P d).members le asks in
      rw stands (omega (arith, a))

-- # Domains that hardware coordinates

module _ (P : Plan) (S : State) (d p : ℕ) (hardware : (domain_at P d).coord ≡ HwAll) where
  alone : standing P S d p ≡ max (limit_of (domain_at P d).kind S p) (ask_of (domain_at P d).kind S p)
  alone = let e : is_software (domain_at P d).coord ≡ false = ap is_software hardware in rw e refl

  pub behind_own : IsBehindOwn S (domain_at P d).kind p (standing P S d p)
  behind_own = rw alone (record { limit = omega arith; ask = omega arith })

  pub fastest_own : (t : ℕ) → IsBehindOwn S (domain_at P d).kind p t → standing P S d p ≤ t
  fastest_own t h = let a = h.limit in let b = h.ask in rw alone (omega (arith, a, b))
