-- Every domain of the machine can be coordinated: so nothing is noted.
use Rattle.std.proofs.Common.{◌≡◌, ◌≢◌, ◌<◌, ◌≤◌, ◌+◌, ◌*◌, ◌/◌, ◌==◌, ◌&&◌, ◌||◌, ℕ, suc, zero, Bool, true, false, List, [], ◌∷◌, length, Option, Some, None, refl, ap, sym, subst, ◌∙◌, arith, eqb-true, eq-eqb}
use Rattle.std.specs.Prelude.{is_some, nat_lt, unwrap_or}
use Rattle.std.specs.List.{AllByRecursion, list_all}
use Rattle.std.specs.Option.{option_map}
use Rattle.std.proofs.lemmas.Bool.Decides.{nat_tests}
use Rattle.acpi_build.specs.Planning.{unfit_notes}
use Rattle.pw_plan.specs.declared.domain.Domain.{Domain}
use Rattle.pw_plan.specs.declared.domain.DomainKind.{DomainKind}
use Rattle.pw_plan.specs.declared.domain.DomainKind.TheVariants.{Perf, Throttle, Idle}
use Rattle.pw_plan.specs.declared.domains.DomainName.{DomainName}
use Rattle.pw_plan.specs.declared.parts.CpuParts.{CpuParts}
use Rattle.pw_plan.specs.Domains.{IsDomain, alone, declares, entry_of, has_index, has_register, is_alone, is_in, name_shown, same_coord, shown, why_unfit}
use Rattle.pw_plan.specs.Groups.{first_of, has_member}
use Rattle.pw_plan.specs.Parts.{count_of, cpu_in, no_cpu, scale_of}
use Rattle.pw_plan.proofs.Lists.{and_both, and_first, and_second}
use Rattle.pw_plan.proofs.Rising.{Rises, first_there, none_below, rises_of}
use Rattle.pw_generate.specs.Tables.{cpu_domain, cpu_perf}
use Rattle.pw_generate.specs.Planned.{machine_cpu, machine_cpus}
use Rattle.pw_generate.proofs.Limits.{count_cpus, cpu_is}
use Rattle.pw_generate.proofs.Loads.{declared_within, each_member, few_members}

-- # Numbers that rise

-- a list that rises and has so many numbers in a row is no shorter
row_within : (k low : ℕ) (xs : List ℕ) → Rises low xs → ((q : ℕ) → low ≤ q → q < low + k → has_member xs q ≡ true) → k ≤ length xs
row_within zero low xs rises there = omega arith
row_within (suc k) low [] rises there = let e = there low (omega arith) (omega arith) in cc
row_within (suc k) low (x ∷ xs) rises there = by (x == low) refl (there low (omega arith) (omega arith)) (row_within k (suc low) xs)
  where
    by : (b : Bool) → (x == low) ≡ b → (b || has_member xs low) ≡ true
        → (Rises (suc low) xs → ((q : ℕ) → suc low ≤ q → q < suc low + k → has_member xs q ≡ true) → k ≤ length xs)
        → suc k ≤ suc (length xs)
    by true same e later =
        let is : x ≡ low = eqb-true x low same in
        let more = later (subst (λ y. Rises (suc y) xs) is rises.1) (λ q a b. (
        let apart : (x == q) ≡ false = grind (arith, nat_tests) in
        sym (ap (λ c. c || has_member xs q) apart) ∙ there q (omega (arith, a)) (omega (arith, b)))) in
        omega (arith, more)
    by false apart e later =
        let above = rises.0 in
        let differ : x ≢ low = grind (arith, nat_tests) in
        let none = none_below (suc x) low xs rises.1 (omega (arith, above, differ)) in
        cc

rises_above : (low : ℕ) (xs : List ℕ) → Rises 0 xs → AllByRecursion (λ q. low ≤ q) xs → Rises low xs
rises_above low [] rises all = tt
rises_above low (x ∷ xs) rises all = (all.0, rises.1)

every_passes : (t : ℕ → Bool) (xs : List ℕ) → AllByRecursion (λ x. t x ≡ true) xs → list_all t xs ≡ true
every_passes t [] all = refl
every_passes t (x ∷ xs) all = and_both (t x) (list_all t xs) all.0 (every_passes t xs all.1)

-- # What processors declare

not_alone : (kind : DomainKind) (p : ℕ) → is_alone (scale_of kind (machine_cpu p)) ≡ false
unfolding machine_cpu
not_alone Perf p = refl
not_alone Throttle p = refl
not_alone Idle p = refl

-- they declare domains of performance alone
throttles_none : (d : DomainName) (p : ℕ) → is_in Throttle d (machine_cpu p) ≡ false
unfolding machine_cpu
throttles_none d p = refl

idles_none : (d : DomainName) (p : ℕ) → is_in Idle d (machine_cpu p) ≡ false
unfolding machine_cpu
idles_none d p = refl

declares_own : (d : DomainName) (p : ℕ) → p / 8 ≡ d.number → entry_of Perf d (machine_cpu p) ≡ Some (cpu_domain (p / 8))
unfolding machine_cpu cpu_domain
declares_own d p own = let same : ((p / 8) == d.number) ≡ true = eq-eqb (p / 8) d.number own in rw same refl

scale_is : (p : ℕ) → (count_of (scale_of Perf (machine_cpu p)) ≡ 4) × (has_register (scale_of Perf (machine_cpu p)) ≡ true)
unfolding machine_cpu cpu_perf
scale_is p = (refl, refl)

domain_is : (c : ℕ) → (same_coord (cpu_domain c).coord (cpu_domain c).coord ≡ true) × ((cpu_domain c).processors ≡ 8)
unfolding cpu_domain
domain_is c = (refl, refl)

-- # A domain

module _ (n : ℕ) (d : Domain) (is : IsDomain (machine_cpus n) d) where
  led : has_member d.members (first_of d.members) ≡ true
  led = first_there d.members is.some

  -- who exists has its parts
  exists : (p : ℕ) (b : Bool) → (nat_lt p (length (machine_cpus n)) && b) ≡ true → p < 8 * n
  exists p b e =
      let size = count_cpus n in
      let less : nat_lt p (length (machine_cpus n)) ≡ true = and_first (nat_lt p (length (machine_cpus n))) b e in
      grind (arith, nat_tests)

  -- nobody is alone
  numbered : d.number ≡ None → ⊥
  numbered e =
      let own = is.alone e in
      let p = own.0 in
      let inside = exists p (is_alone (scale_of d.kind (cpu_in (machine_cpus n) p))) own.2 in
      let yes = and_second (nat_lt p (length (machine_cpus n))) (is_alone (scale_of d.kind (cpu_in (machine_cpus n) p))) own.2 in
      let no : is_alone (scale_of d.kind (cpu_in (machine_cpus n) p)) ≡ false =
      ap (λ c. is_alone (scale_of d.kind c)) (cpu_is n p no_cpu inside) ∙ not_alone d.kind p in
      cc

  -- a named domain is of performance
  named_perf : (m : ℕ) → d.number ≡ Some m → d.kind ≡ Perf
  named_perf m e = by d.kind refl
    where
      name : DomainName
      name = record { number = m; index = d.index }

      declared : (k : DomainKind) → d.kind ≡ k → declares k name (machine_cpus n) (first_of d.members) ≡ true
      declared k same = ap (λ x. declares x name (machine_cpus n) (first_of d.members)) (sym same)
          ∙ sym (is.declared m (first_of d.members) e) ∙ led

      entry : (k : DomainKind) → d.kind ≡ k → is_in k name (machine_cpu (first_of d.members)) ≡ true
      entry k same =
          let p = first_of d.members in
          let told = is_in k name (cpu_in (machine_cpus n) p) in
          let inside = exists p (has_index k d.index && told) (declared k same) in
          ap (is_in k name) (sym (cpu_is n p no_cpu inside))
          ∙ and_second (has_index k d.index) told
          (and_second (nat_lt p (length (machine_cpus n))) (has_index k d.index && told) (declared k same))

      by : (k : DomainKind) → d.kind ≡ k → d.kind ≡ Perf
      by Perf same = same
      by Throttle same = let yes = entry Throttle same in let no = throttles_none name (first_of d.members) in cc
      by Idle same = let yes = entry Idle same in let no = idles_none name (first_of d.members) in cc

  module _ (m : ℕ) (number : d.number ≡ Some m) where
    abbrev name : DomainName
    name = record { number = m; index = d.index }

    kind : d.kind ≡ Perf
    kind = named_perf m number

    declared : (q : ℕ) → has_member d.members q ≡ true → declares Perf name (machine_cpus n) q ≡ true
    declared q there = ap (λ x. declares x name (machine_cpus n) q) (sym kind) ∙ sym (is.declared m q number) ∙ there

    inside : (q : ℕ) → has_member d.members q ≡ true → q < 8 * n
    inside q there = exists q (has_index Perf d.index && is_in Perf name (cpu_in (machine_cpus n) q)) (declared q there)

    own : (q : ℕ) → has_member d.members q ≡ true → q / 8 ≡ m
    own q there = declared_within n m d.index q (declared q there)

    shows : (q : ℕ) → has_member d.members q ≡ true → shown Perf (Some name) (machine_cpus n) q ≡ cpu_domain m
    shows q there =
        ap (λ c. unwrap_or (entry_of Perf name c) alone) (cpu_is n q no_cpu (inside q there))
        ∙ ap (λ o. unwrap_or o alone) (declares_own name q (own q there))
        ∙ ap cpu_domain (own q there)

    -- each of the container's processors is a member
    joined : (q : ℕ) → 8 * m ≤ q → q < 8 * m + 8 → has_member d.members q ≡ true
    joined q low high =
        let p = first_of d.members in
        let least = inside p led in
        let of = own p led in
        let here : q < 8 * n = omega (arith, least, of, low, high) in
        let size = count_cpus n in
        let less : nat_lt q (length (machine_cpus n)) ≡ true = grind (arith, nat_tests) in
        let same : q / 8 ≡ m = omega arith in
        let indexed : has_index Perf d.index ≡ true = and_first (has_index Perf d.index) (is_in Perf name (cpu_in (machine_cpus n) p))
        (and_second (nat_lt p (length (machine_cpus n))) (has_index Perf d.index && is_in Perf name (cpu_in (machine_cpus n) p))
        (declared p led)) in
        let entry : is_in Perf name (cpu_in (machine_cpus n) q) ≡ true =
        ap (is_in Perf name) (cpu_is n q no_cpu here) ∙ ap is_some (declares_own name q same) in
        is.declared m q number ∙ ap (λ x. declares x name (machine_cpus n) q) kind
        ∙ and_both (nat_lt q (length (machine_cpus n))) (has_index Perf d.index && is_in Perf name (cpu_in (machine_cpus n) q)) less
        (and_both (has_index Perf d.index) (is_in Perf name (cpu_in (machine_cpus n) q)) indexed entry)

    eight : length d.members ≡ 8
    eight =
        let above = each_member (λ q. 8 * m ≤ q) d.members (λ q there. (let of = own q there in omega (arith, of))) in
        let least = row_within 8 (8 * m) d.members (rises_above (8 * m) d.members (rises_of d.members is.rising) above) joined in
        let most = few_members n d is kind in
        omega (arith, least, most)

    -- the processors' scales agree
    scales : (q : ℕ) → has_member d.members q ≡ true
        → (count_of (scale_of Perf (cpu_in (machine_cpus n) q)) ≡ 4) × (has_register (scale_of Perf (cpu_in (machine_cpus n) q)) ≡ true)
    scales q there = rw (cpu_is n q no_cpu (inside q there)) (scale_is q)

    agrees : why_unfit Perf (Some name) (machine_cpus n) (first_of d.members) d.members ≡ 0
    agrees =
        let p = first_of d.members in
        let first = shows p led in
        let coords : list_all (λ q. same_coord (shown Perf (Some name) (machine_cpus n) q).coord
        (shown Perf (Some name) (machine_cpus n) p).coord) d.members ≡ true = every_passes _ d.members
        (each_member _ d.members (λ q there. rw (shows q there, first) (domain_is m).0)) in
        let numbers : list_all (λ q. (shown Perf (Some name) (machine_cpus n) q).processors ==
        (shown Perf (Some name) (machine_cpus n) p).processors) d.members ≡ true = every_passes _ d.members
        (each_member _ d.members (λ q there. rw (shows q there, first) (eq-eqb (cpu_domain m).processors (cpu_domain m).processors refl)))
        in
        let right : ((shown Perf (Some name) (machine_cpus n) p).processors == length d.members) ≡ true =
        rw (first, eight) (eq-eqb (cpu_domain m).processors 8 (domain_is m).1) in
        let lengths : list_all (λ q. count_of (scale_of Perf (cpu_in (machine_cpus n) q)) == count_of
        (scale_of Perf (cpu_in (machine_cpus n) p))) d.members ≡ true = every_passes _ d.members
        (each_member _ d.members (λ q there. rw ((scales q there).0, (scales p led).0) refl)) in
        let registers : list_all (λ q. has_register (scale_of Perf (cpu_in (machine_cpus n) q))) d.members ≡ true =
        every_passes _ d.members (each_member _ d.members (λ q there. (scales q there).1)) in
        rw (coords, numbers, right, lengths, registers) refl

    named_fit : d.unfit ≡ 0
    named_fit =
        is.unfit
        ∙ ap (λ x. why_unfit x (name_shown d) (machine_cpus n) (first_of d.members) d.members) kind
        ∙ ap (λ o. why_unfit Perf (option_map (λ k. record { number = k; index = d.index }) o) (machine_cpus n) (first_of d.members)
        d.members) number
        ∙ agrees

  pub is_fit : d.unfit ≡ 0
  is_fit = by d.number refl
    where
      by : (o : Option ℕ) → d.number ≡ o → d.unfit ≡ 0
      by None e = absurd (numbered e)
      by (Some m) e = named_fit m e

-- nothing is noted
pub none_noted : (n : ℕ) (cpus : List CpuParts) (k : ℕ) (ds : List Domain) → AllByRecursion (IsDomain (machine_cpus n)) ds
    → unfit_notes cpus k ds ≡ []
none_noted n cpus k [] all = refl
none_noted n cpus k (d ∷ ds) all = rw (is_fit n d all.0) (none_noted n cpus (k + 1) ds all.1)
