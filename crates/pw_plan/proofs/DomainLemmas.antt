-- The domains of a plan: who is in them, and how many there are.
use Rattle.std.proofs.Common.{◌≡◌, ◌<◌, ◌≤◌, ◌*◌, ◌==◌, ◌&&◌, not, ℕ, Bool, true, false, cond, List, [], ◌∷◌, ◌++◌, length, Option, Some, None, refl, ap}
use Rattle.std.proofs.Common.{sym, ◌∙◌, arith, zero-add, length-append}
use Rattle.std.specs.Prelude.{filter, nat_lt, is_some, sum_by, All}
use Rattle.std.specs.List.{list_any, position_or_len, AllByRecursion}
use Rattle.std.proofs.lemmas.List.Elements.{All-from_recursion}
use Rattle.std.proofs.lemmas.List.Sums.{sum_by-append, sum_by-le}
use Rattle.std.proofs.lemmas.Bool.Decides.{nat_tests}
use Rattle.acpi_values.specs.declared.dependency.Coord.{Coord}
use Rattle.acpi_values.specs.declared.dependency.Coord.TheVariants.{SwAll, SwAny, HwAll}
use Rattle.acpi_values.specs.declared.dependency.Dependency.{Dependency}
use Rattle.pw_plan.specs.declared.parts.CpuParts.{CpuParts}
use Rattle.pw_plan.specs.declared.parts.Scale.{Scale}
use Rattle.pw_plan.specs.declared.domain.Domain.{Domain}
use Rattle.pw_plan.specs.declared.domain.DomainKind.{DomainKind}
use Rattle.pw_plan.specs.declared.domain.DomainKind.TheVariants.{Perf, Throttle, Idle}
use Rattle.pw_plan.specs.declared.domains.DomainName.{DomainName}
use Rattle.pw_plan.specs.Parts.{cpu_in, no_cpu, scale_of}
use Rattle.pw_plan.specs.Domains.{declared_of, dependency_in, entry_of, is_alone, is_in}
use Rattle.pw_plan.specs.inner.DomainList.{all_domains, domain_with, domains_of, is_known, led_by, members_of, name_in, named_domains, names_of}
use Rattle.pw_plan.specs.inner.DomainList.{own_domain}
use Rattle.pw_plan.specs.Groups.{has_member, is_idle, no_domain}
use Rattle.pw_plan.specs.Covering.{covers, same_kind}
use Rattle.pw_plan.specs.Opening.{opening_by, opening_count}
use Rattle.pw_plan.specs.Sound.{HasDomains}
use Rattle.pw_plan.proofs.Lists.{any_append_left, any_append_right, any_at, any_flat_map, each_append, each_flat_map, each_map, first_place, length-flat_map-le, or_left, places-each, places-has}
use Rattle.pw_plan.proofs.Lists.{places-length, position-in_first, sum-none}
use Rattle.pw_plan.proofs.Placing.{Registered, Scaled, Shows, all_show, leads_one, only}

-- # Members

abbrev pub Fits : ℕ → Domain → Type 0
Fits n d = AllByRecursion (λ p. p < n) d.members × (length d.members ≤ 256)

module _ (ps : List CpuParts) (few : length ps ≤ 256) where
  own_fits : (kind : DomainKind) (q : ℕ) → q < length ps → AllByRecursion (Fits (length ps)) (own_domain kind ps q)
  own_fits kind q lt = step (is_alone (scale_of kind (cpu_in ps q)))
    where
      step : (b : Bool) → AllByRecursion (Fits (length ps)) (cond b (domain_with kind None ps q (q ∷ []) ∷ []) [])
      step true = (((lt, tt), omega arith), tt)
      step false = tt

  named_fits : (kind : DomainKind) (q : ℕ) (names : List DomainName) → AllByRecursion (Fits (length ps)) (named_domains kind ps q names)
  named_fits kind q names = each_map (Fits (length ps)) (λ d. domain_with kind (Some d) ps q (members_of kind ps d)) (filter (λ d. not (is_known kind ps q d)) names) (λ d. (
    places-each (λ p. p < length ps) (is_in kind d) 0 ps no_cpu (λ i lt e. rw zero-add lt),
    (let n = places-length (is_in kind d) 0 ps in omega (arith, n)),
  ))

  kind_fits : (kind : DomainKind) → AllByRecursion (Fits (length ps)) (domains_of kind ps)
  kind_fits kind = each_flat_map (Fits (length ps)) (led_by kind ps) 0 (length ps) (λ q le lt.
      each_append (Fits (length ps)) (own_domain kind ps q) (named_domains kind ps q (names_of kind (cpu_in ps q))) (own_fits kind q (omega arith)) (named_fits kind q (names_of kind (cpu_in ps q))))

  pub all_fit : AllByRecursion (Fits (length ps)) (all_domains ps)
  all_fit = each_append (Fits (length ps)) (domains_of Perf ps ++ domains_of Throttle ps) (domains_of Idle ps)
      (each_append (Fits (length ps)) (domains_of Perf ps) (domains_of Throttle ps) (kind_fits Perf) (kind_fits Throttle)) (kind_fits Idle)

  -- # At the start

  opening_le : (d : Domain) → length d.members ≤ 256 → opening_count d ≤ 256
  opening_le d le = step (is_idle d.kind) (nat_lt 0 d.unfit) d.coord
    where
      step : (a b : Bool) (c : Coord) → cond a 0 (cond b 0 (opening_by c (length d.members))) ≤ 256
      step true b c = omega arith
      step false true c = omega arith
      step false false SwAll = le
      step false false SwAny = omega arith
      step false false HwAll = le

  weaker : {X : Type 0} (P Q : X → Type 0) → ((x : X) → P x → Q x) → (xs : List X) → AllByRecursion P xs → AllByRecursion Q xs
  weaker P Q h [] a = tt
  weaker P Q h (x ∷ xs) a = (h x a.0, weaker P Q h xs a.1)

  kind_opening : (kind : DomainKind) → sum_by opening_count (domains_of kind ps) ≤ length (domains_of kind ps) * 256
  kind_opening kind = sum_by-le opening_count 256 (domains_of kind ps)
      (All-from_recursion (λ d. opening_count d ≤ 256) (domains_of kind ps) (weaker (Fits (length ps)) (λ d. opening_count d ≤ 256) (λ d f. opening_le d f.1) (domains_of kind ps) (kind_fits kind)))

  idle_own : (q : ℕ) → AllByRecursion (λ d. opening_count d ≡ 0) (own_domain Idle ps q)
  idle_own q = tt

  idle_opening : sum_by opening_count (domains_of Idle ps) ≡ 0
  idle_opening = sum-none opening_count (domains_of Idle ps) (each_flat_map (λ d. opening_count d ≡ 0) (led_by Idle ps) 0 (length ps) (λ q le lt.
      each_append (λ d. opening_count d ≡ 0) (own_domain Idle ps q) (named_domains Idle ps q (names_of Idle (cpu_in ps q))) (idle_own q)
      (each_map (λ d. opening_count d ≡ 0) (λ d. domain_with Idle (Some d) ps q (members_of Idle ps d)) (filter (λ d. not (is_known Idle ps q d)) (names_of Idle (cpu_in ps q))) (λ d. refl))))

  -- # How many domains of scales there are

  perf_few : length (domains_of Perf ps) ≤ length ps
  perf_few = length-flat_map-le (led_by Perf ps) 0 (length ps) (λ q.
      leads_one (cpu_in ps q).perf (domain_with Perf None ps q (q ∷ [])) (λ d. domain_with Perf (Some d) ps q (members_of Perf ps d)) (λ d. not (is_known Perf ps q d)))

  throttle_few : length (domains_of Throttle ps) ≤ length ps
  throttle_few = length-flat_map-le (led_by Throttle ps) 0 (length ps) (λ q.
      leads_one (cpu_in ps q).throttle (domain_with Throttle None ps q (q ∷ [])) (λ d. domain_with Throttle (Some d) ps q (members_of Throttle ps d)) (λ d. not (is_known Throttle ps q d)))

  pub opening_small : sum_by opening_count (all_domains ps) ≤ 131072
  opening_small =
      let p = kind_opening Perf in
      let t = kind_opening Throttle in
      let i = idle_opening in
      let a = perf_few in
      let b = throttle_few in
      rw (
        sum_by-append opening_count (domains_of Perf ps ++ domains_of Throttle ps) (domains_of Idle ps),
        sum_by-append opening_count (domains_of Perf ps)
            (domains_of Throttle ps),
      ) (omega (arith, p, t, i, a, b, few))

  -- # Who has a scale is in a domain

  same : (kind : DomainKind) → same_kind kind kind ≡ true
  same Perf = refl
  same Throttle = refl
  same Idle = refl

  found : (kind : DomainKind) (p : ℕ) (members : List ℕ) (b : Bool) → has_member members p ≡ true → (same_kind kind kind && has_member members p) ≡ true
  found kind p members b e = rw (same kind, e) refl

  -- a name by which the processor is a member is the one that it declares
  the_name : (number : ℕ) (o : Option Dependency) → is_some (declared_of number o) ≡ true → name_in o ≡ record { number = number; index = 0 } ∷ []
  the_name number None e = cc
  the_name number (Some d) e = step (d.domain == number) refl e
    where
      step : (b : Bool) → (d.domain == number) ≡ b → is_some (cond b (Some d) None) ≡ true → name_in (Some d) ≡ record { number = number; index = 0 } ∷ []
      step true h e = let i : d.domain ≡ number = grind (arith, nat_tests) in rw i refl
      step false h e = cc

  module _ (kind : DomainKind)
      (names : (c : CpuParts) → names_of kind c ≡ name_in (dependency_in (scale_of kind c)))
      (entries : (d : DomainName) (c : CpuParts) → entry_of kind d c ≡ declared_of d.number (dependency_in (scale_of kind c))) where
    own_covers : (p : ℕ) → is_alone (scale_of kind (cpu_in ps p)) ≡ true → list_any (covers kind p) (led_by kind ps p) ≡ true
    own_covers p e = any_append_left (covers kind p) (own_domain kind ps p) (named_domains kind ps p (names_of kind (cpu_in ps p)))
        (rw e (or_left (same_kind kind kind && has_member (p ∷ []) p) false (found kind p (p ∷ []) true (or_left (p == p) false (grind (arith, nat_tests))))))

    named_covers : (p q : ℕ) (d : DomainName) → p < length ps → d.index ≡ 0 → is_in kind d (cpu_in ps p) ≡ true → is_in kind d (cpu_in ps q) ≡ true
        → is_known kind ps q d ≡ false → list_any (covers kind p) (led_by kind ps q) ≡ true
    named_covers p q d lt zero_index in_p in_q new =
        let member : has_member (members_of kind ps d) p ≡ true = rw zero-add at (places-has (is_in kind d) 0 ps p no_cpu lt in_p) in
        let declared : is_some (declared_of d.number (dependency_in (scale_of kind (cpu_in ps q)))) ≡ true = ap (λ o. is_some o) (sym (entries d (cpu_in ps q))) ∙ in_q in
        let name : names_of kind (cpu_in ps q) ≡ record { number = d.number; index = 0 } ∷ [] = names (cpu_in ps q) ∙ the_name d.number (dependency_in (scale_of kind (cpu_in ps q))) declared in
        let is : names_of kind (cpu_in ps q) ≡ d ∷ [] = name ∙ ap (λ i. record { number = d.number; index = i } ∷ []) (sym zero_index) in
        any_append_right (covers kind p) (own_domain kind ps q) (named_domains kind ps q (names_of kind (cpu_in ps q)))
        (rw is (rw new (or_left (same_kind kind kind && has_member (members_of kind ps d) p) false (found kind p (members_of kind ps d) true member))))

    declares : (p : ℕ) (e : Dependency) → p < length ps → dependency_in (scale_of kind (cpu_in ps p)) ≡ Some e → list_any (covers kind p) (domains_of kind ps) ≡ true
    declares p e lt dep =
        let d : DomainName = record { number = e.domain; index = 0 } in
        let own : is_in kind d (cpu_in ps p) ≡ true = rw (entries d (cpu_in ps p), dep) (itself (e.domain == e.domain) (grind (arith, nat_tests))) in
        let r = first_place (is_in kind d) ps no_cpu (any_at (is_in kind d) ps p no_cpu lt own) in
        any_flat_map (covers kind p) (led_by kind ps) 0 (length ps) r.0 (omega arith) (omega (arith, r.1)) (named_covers p r.0 d lt refl own r.2 r.3)
      where
        itself : (b : Bool) → b ≡ true → is_some (cond b (Some e) None) ≡ true
        itself true h = refl
        itself false h = cc

    pub covered : (p : ℕ) → p < length ps → is_some (scale_of kind (cpu_in ps p)) ≡ true → list_any (covers kind p) (domains_of kind ps) ≡ true
    covered p lt e = by_scale (scale_of kind (cpu_in ps p)) refl e
      where
        by_dependency : (s : Scale) (o : Option Dependency) → scale_of kind (cpu_in ps p) ≡ Some s → s.dependency ≡ o → list_any (covers kind p) (domains_of kind ps) ≡ true
        by_dependency s None is dep = any_flat_map (covers kind p) (led_by kind ps) 0 (length ps) p (omega arith) (omega arith) (own_covers p (rw (is, dep) refl))
        by_dependency s (Some e) is dep = declares p e lt (rw is dep)

        by_scale : (s : Option Scale) → scale_of kind (cpu_in ps p) ≡ s → is_some s ≡ true → list_any (covers kind p) (domains_of kind ps) ≡ true
        by_scale None is e = cc
        by_scale (Some s) is e = by_dependency s s.dependency is refl

  scaled_covered : (kind : DomainKind) (p : ℕ) → p < length ps → is_some (scale_of kind (cpu_in ps p)) ≡ true → list_any (covers kind p) (domains_of Perf ps ++ domains_of Throttle ps) ≡ true
  scaled_covered Perf p lt e = any_append_left (covers Perf p) (domains_of Perf ps) (domains_of Throttle ps) (covered Perf (λ c. refl) (λ d c. refl) p lt e)
  scaled_covered Throttle p lt e = any_append_right (covers Throttle p) (domains_of Perf ps) (domains_of Throttle ps) (covered Throttle (λ c. refl) (λ d c. refl) p lt e)
  scaled_covered Idle p lt e = cc

  early : (kind : DomainKind) (p : ℕ) → p < length ps → is_some (scale_of kind (cpu_in ps p)) ≡ true
      → position_or_len (covers kind p) (all_domains ps) < length (domains_of Perf ps ++ domains_of Throttle ps)
  early kind p lt e = position-in_first (covers kind p) (domains_of Perf ps ++ domains_of Throttle ps) (domains_of Idle ps) (scaled_covered kind p lt e)

  count : length (domains_of Perf ps ++ domains_of Throttle ps) ≤ 512
  count = let a = perf_few in let b = throttle_few in rw (length-append (domains_of Perf ps) (domains_of Throttle ps)) (omega (arith, a, b, few))

  pub has_domains : HasDomains ps (all_domains ps)
  has_domains = record {
    members = All-from_recursion (λ (d : Domain). All (λ p. p < length ps) d.members) (all_domains ps) (weaker (Fits (length ps)) (λ d. All
        (λ p. p < length ps) d.members) (λ d f. All-from_recursion (λ p. p < length ps) d.members f.0) (all_domains ps) all_fit);
    sizes = All-from_recursion (λ (d : Domain). length d.members ≤ 256) (all_domains ps) (weaker (Fits (length ps)) (λ d. length d.members ≤ 256) (λ d f. f.1) (all_domains ps) all_fit);
    placed = λ kind p lt e. let a = early kind p lt e in rw (length-append (domains_of Perf ps ++ domains_of Throttle ps) (domains_of Idle ps)) (omega (arith, a));
    only = λ kind d p lt scaled e. only ps kind d p no_domain lt scaled e;
    scaled = All-from_recursion (Scaled ps) (all_domains ps) (weaker (Shows ps) (Scaled ps) (λ d s. s.0) (all_domains ps) (all_show ps));
    registered = All-from_recursion (Registered ps) (all_domains ps) (weaker (Shows ps) (Registered ps) (λ d s. s.1) (all_domains ps) (all_show ps));
    few = λ kind p lt e. let a = early kind p lt e in let b = count in omega (arith, a, b);
    opening = opening_small;
  }
