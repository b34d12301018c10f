-- Domains of performance and throttling come first.
use Rattle.std.proofs.Common.{◌≡◌, ◌<◌, ◌≤◌, ◌+◌, ◌-◌, ◌==◌, ℕ, suc, zero, Bool, true, false, not, cond, List, [], ◌∷◌, length, get_or, subst, refl, ap, sym, ◌∙◌, arith, eq-eqb, inl, inr, zero-add}
use Rattle.std.proofs.lemmas.Bool.{cases_lt}
use Rattle.std.proofs.Math.Logic.{∥∥₁_elim}
use Rattle.std.specs.Prelude.{count_by, filter, is_some}
use Rattle.std.specs.List.{AllByRecursion, range_with_len}
use Rattle.std.proofs.Math.Bridge.{le_prop}
use Rattle.std.proofs.lemmas.List.{length-map}
use Rattle.std.proofs.lemmas.List.FromFn.{length-range_with_len}
use Rattle.std.proofs.lemmas.List.Elements.{All-from_recursion, recursion_from_All}
use Rattle.std.proofs.lemmas.List.Sums.{count_by-le-length, length-filter, sum_by-cons}
use Rattle.pw_plan.specs.declared.domain.DomainKind.{DomainKind}
use Rattle.pw_plan.specs.declared.domain.DomainKind.TheVariants.{Perf, Throttle, Idle}
use Rattle.pw_plan.specs.declared.plan.Plan.{Plan}
use Rattle.pw_plan.specs.declared.domain.Domain.{Domain}
use Rattle.pw_plan.specs.Covering.{covers, same_kind}
use Rattle.pw_plan.specs.Domains.{IsDomain}
use Rattle.pw_plan.specs.Groups.{group_with, groups_of, has_member, is_idle, labels_of, leads_group, no_domain}
use Rattle.pw_plan.specs.Orderly.{is_scaled}
use Rattle.pw_plan.specs.Parts.{scale_of}
use Rattle.pw_plan.specs.Places.{cpu_at, domain_at, domain_of}
use Rattle.pw_plan.proofs.Lists.{and_both, or_left}
use Rattle.pw_model.specs.Records.{scaled_count}
use Rattle.pw_base.proofs.Facts.{weaker}

module _ {X : Type 0} (t : X → Bool) (d : X) where
  counted : (x : X) (xs : List X) → count_by t (x ∷ xs) ≡ cond (t x) 1 0 + count_by t xs
  counted x xs = sum_by-cons (λ y. cond (t y) 1 0) x xs

  -- those that pass stand below c: then there are at most c
  few : (xs : List X) (c : ℕ) → ((k : ℕ) → k < length xs → t (get_or xs k d) ≡ true → k < c) → count_by t xs ≤ c
  few [] c h = omega arith
  few (x ∷ xs) zero h =
      let r = few xs zero (λ k lt e. let b = h (suc k) (omega (arith, lt)) e in omega (arith, b)) in
      step (t x) refl r
    where
      step : (b : Bool) → t x ≡ b → count_by t xs ≤ 0 → count_by t (x ∷ xs) ≤ 0
      step true e r = let b = h 0 (omega arith) e in absurd (omega (arith, b))
      step false e r = rw (counted x xs, e) (omega (arith, r))
  few (x ∷ xs) (suc c) h =
      let r = few xs c (λ k lt e. let b = h (suc k) (omega (arith, lt)) e in omega (arith, b)) in
      step (t x) refl r
    where
      step : (b : Bool) → t x ≡ b → count_by t xs ≤ c → count_by t (x ∷ xs) ≤ suc c
      step true e r = rw (counted x xs, e) (omega (arith, r))
      step false e r = rw (counted x xs, e) (omega (arith, r))

  -- those that pass stand below their count: then all below it pass
  pub first_pass : (xs : List X) → ((k : ℕ) → k < length xs → t (get_or xs k d) ≡ true → k < count_by t xs)
      → (k : ℕ) → k < count_by t xs → t (get_or xs k d) ≡ true
  first_pass [] h k lt = absurd (omega (arith, lt))
  first_pass (x ∷ xs) h k lt = step (t x) refl k (subst (λ n. k < n) (counted x xs) lt) (first_pass xs)
    where
      step : (b : Bool) → t x ≡ b → (k : ℕ) → k < cond (t x) 1 0 + count_by t xs
          → (((j : ℕ) → j < length xs → t (get_or xs j d) ≡ true → j < count_by t xs) → (j : ℕ) → j < count_by t xs → t (get_or xs j d) ≡ true)
          → t (get_or (x ∷ xs) k d) ≡ true
      step true e zero lt later = e
      step true e (suc k) lt later =
          let more : count_by t (x ∷ xs) ≡ 1 + count_by t xs = counted x xs ∙ ap (λ b. cond b 1 0 + count_by t xs) e in
          let below = rw e at lt in
          later (λ j l p. let b = h (suc j) (omega (arith, l)) p in omega (arith, b, more)) k (omega (arith, below))
      step false e k lt later =
          let same : count_by t (x ∷ xs) ≡ count_by t xs = counted x xs ∙ ap (λ b. cond b 1 0 + count_by t xs) e ∙ zero-add (count_by t xs) in
          let most = few xs (count_by t xs - 1) (λ j l p. let b = h (suc j) (omega (arith, l)) p in omega (arith, b, same)) in
          let below = rw e at lt in
          absurd (omega (arith, most, below))

-- a domain below their count is of performance or throttling, and it is one of the plan
pub scaled_below : (P : Plan) (d : ℕ) → d < scaled_count P → is_idle (domain_at P d).kind ≡ false
scaled_below P d lt = step (is_idle (domain_at P d).kind) (first_pass is_scaled no_domain P.domains P.orderly.scaled_first d lt)
  where
    step : (b : Bool) → not b ≡ true → b ≡ false
    step true e = cc
    step false e = refl

-- one that isn't stands past them
pub scaled_past : (P : Plan) (d : ℕ) → is_scaled (domain_at P d) ≡ false → scaled_count P ≤ d
scaled_past P d e = elim (cases_lt d (scaled_count P)) [
  | inl lt ↦ let clash : not false ≡ false = ap not (sym (scaled_below P d lt)) ∙ e in absurd (cc)
  | inr le ↦ le
]

-- # There are few of them, and few groups

-- the kinds that aren't idle are those of scales
member_first : (ms : List ℕ) → 0 < length ms → has_member ms (get_or ms 0 0) ≡ true
member_first [] lt = absurd (omega (arith, lt))
member_first (m ∷ ms) lt = or_left (m == m) (has_member ms m) (eq-eqb m m refl)

covered : (kind : DomainKind) (p : ℕ) (d : Domain) → d.kind ≡ kind → has_member d.members p ≡ true → covers kind p d ≡ true
covered kind p d e on = and_both (same_kind d.kind kind) (has_member d.members p) (subst (λ k. same_kind d.kind k ≡ true) e (itself d.kind)) on
  where
    itself : (k : DomainKind) → same_kind k k ≡ true
    itself Perf = refl
    itself Throttle = refl
    itself Idle = refl

module _ (P : Plan) where
  unscaled : (b : Bool) → not b ≡ true → b ≡ false
  unscaled true e = cc
  unscaled false e = refl

  scaled_early : AllByRecursion (λ d. 0 < length d.members) P.domains → (k : ℕ) → k < length P.domains → is_scaled (get_or P.domains k no_domain) ≡ true → k < 512
  scaled_early some k lt e =
      let D = domain_at P k in
      let members : 0 < length D.members = All-from_recursion (λ (d : Domain). 0 < length d.members) P.domains some k no_domain lt in
      let p = get_or D.members 0 0 in
      let on : has_member D.members p ≡ true = member_first D.members members in
      let scaled : is_idle D.kind ≡ false = unscaled (is_idle D.kind) e in
      let exists : p < length P.cpus = P.sound.domains.members k no_domain lt 0 0 members in
      let scale : is_some (scale_of D.kind (cpu_at P p)) ≡ true = P.sound.domains.scaled k no_domain lt p scaled on in
      let at : domain_of P D.kind p ≡ k = P.sound.domains.only D.kind k p lt scaled (covered D.kind p D refl on) in
      let early = P.sound.domains.few D.kind p exists scale in
      omega (arith, at, early)

  pub scaled_few : scaled_count P ≤ 512
  scaled_few = ∥∥₁_elim P.planned (hlevel (le_prop)) (λ plan. few is_scaled no_domain P.domains 512 (scaled_early
      (weaker (IsDomain P.cpus) (λ d. 0 < length d.members) (λ d h. h.some) P.domains (recursion_from_All (IsDomain P.cpus) P.domains plan.domains_are.each))))

  pub groups_few : length P.groups ≤ 256
  groups_few = ∥∥₁_elim P.planned (hlevel (le_prop)) (λ plan.
      let n = length P.cpus in
      let firsts = range_with_len 0 n in
      let labels = labels_of P.domains n in
      let a : length (groups_of P.domains n) ≡ length (filter (leads_group P.domains labels) firsts) = length-map (filter (leads_group P.domains labels) firsts) (group_with labels) in
      let b = length-filter (leads_group P.domains labels) firsts in
      let c = count_by-le-length (leads_group P.domains labels) firsts in
      let d = length-range_with_len 0 n in
      let e : length P.groups ≡ length (groups_of P.domains n) = ap length plan.groups_are in
      let small = P.sound.small.cpus in
      omega (arith, a, b, c, d, e, small))

  -- records are few
  pub counts_few : (containers scaled groups : ℕ) → containers ≡ length P.containers → scaled ≡ scaled_count P → groups ≡ length P.groups → containers + scaled + groups ≤ 1024
  counts_few containers scaled groups a b d =
      let few = P.sound.small.containers in
      let some = scaled_few in
      let joined = groups_few in
      omega (arith, few, some, joined, a, b, d)
