-- The load asks for what its machine's plan has, and for no more operations than a script may have.
use Rattle.std.proofs.Common.{◌≡◌, ◌<◌, ◌≤◌, ◌+◌, ◌*◌, ◌/◌, ◌==◌, ◌&&◌, ℕ, Bool, true, false, cond, List, [], ◌∷◌, map, length, get_or, Option, Some, None, refl, ap, sym, subst, ◌∙◌, arith, inl, inr, eqb-true, eq-eqb, mul-le-mul}
use Rattle.std.proofs.Math.Bridge.{le_prop}
use Rattle.std.proofs.Math.Logic.{∥∥₁_elim}
use Rattle.std.specs.Prelude.{is_some, nat_lt}
use Rattle.std.specs.List.{AllByRecursion}
use Rattle.std.proofs.lemmas.Bool.{cases_lt}
use Rattle.std.proofs.lemmas.Bool.Decides.{nat_tests}
use Rattle.std.proofs.lemmas.List.{get_or_past, length-map}
use Rattle.std.proofs.lemmas.List.FromFn.{length-range_with_len}
use Rattle.std.proofs.lemmas.List.Sums.{sum_by-le}
use Rattle.acpi_values.specs.declared.dependency.Coord.{Coord}
use Rattle.acpi_values.specs.declared.dependency.Coord.TheVariants.{SwAll, SwAny, HwAll}
use Rattle.pw_text.specs.declared.script.TheConstants.{MOST_OPERATIONS}
use Rattle.pw_plan.specs.declared.domain.Domain.{Domain}
use Rattle.pw_plan.specs.declared.domain.DomainKind.{DomainKind}
use Rattle.pw_plan.specs.declared.domain.DomainKind.TheVariants as kinds
use Rattle.pw_plan.specs.declared.domain.Group.{Group}
use Rattle.pw_plan.specs.declared.domains.DomainName.{DomainName}
use Rattle.pw_plan.specs.declared.plan.Plan.{Plan}
use Rattle.pw_plan.specs.declared.request.Request.{Request}
use Rattle.pw_plan.specs.declared.request.Request.TheVariants.{Idle, Wake, Perf, Throttle, PerfLimit, ThrottleLimit}
use Rattle.pw_plan.specs.Covering.{covers, same_kind}
use Rattle.pw_plan.specs.Domains.{IsDomain, declares, has_index, is_in}
use Rattle.pw_plan.specs.Groups.{has_member, is_idle, no_domain, no_group}
use Rattle.pw_plan.specs.Orderly.{is_cst}
use Rattle.pw_plan.specs.Parts.{cpu_in, no_cpu, no_table, scale_of}
use Rattle.pw_plan.specs.Places.{domain_at, domain_of, group_at, group_of}
use Rattle.pw_plan.specs.Requests.{Has, domain_bound, group_bound, opening_bound, ops_bound, set_count}
use Rattle.pw_plan.proofs.Found.{passes}
use Rattle.pw_plan.proofs.Lists.{and_first, and_second, or_left, or_right}
use Rattle.pw_plan.proofs.Memberships.{covers_has}
use Rattle.pw_plan.proofs.Rising.{rises_of}
use Rattle.pw_script.specs.declared.script.Line.{Line}
use Rattle.pw_script.specs.Reading.{operations}
use Rattle.pw_generate.specs.Loads.{load_lines, machine_load}
use Rattle.pw_generate.specs.Tables.{cpu_domain}
use Rattle.pw_generate.proofs.Lines.{load_asked, load_numbers}
use Rattle.pw_generate.specs.Planned.{machine_cpu, machine_cpus}
use Rattle.pw_generate.proofs.Limits.{count_cpus, cpu_is, rise_within}

-- # Lines

unmapped : {X Y : Type 0} (Q : Y → Type 0) (f : X → Y) (xs : List X) → AllByRecursion Q (map f xs) → AllByRecursion (λ x. Q (f x)) xs
unmapped Q f [] all = tt
unmapped Q f (x ∷ xs) all = (all.0, unmapped Q f xs all.1)

-- the processor of each line is one of the plan
pub load_has : (n : ℕ) (P : Plan) → P.cpus ≡ machine_cpus n → AllByRecursion (λ (l : Line). Has P l.request) (machine_load n).lines
unfolding machine_load
load_has n P cpus =
    let count : length P.cpus ≡ 8 * n = ap length cpus ∙ count_cpus n in
    subst (λ m. AllByRecursion (λ (l : Line). Has P l.request) (load_lines m)) count
    (unmapped (Has P) (λ (l : Line). l.request) (load_lines (length P.cpus)) (load_asked P).has)

-- there are few lines
pub load_short : (n : ℕ) → n ≤ 32 → length (machine_load n).lines ≤ 65536
unfolding machine_load
load_short n small =
    let lines = load_lines (8 * n) in
    let size : length lines ≡ 8 * n * (8 * n) = sym (length-map lines (λ (l : Line). l.number)) ∙ ap length (load_numbers (8 * n))
    ∙ length-range_with_len 1 (8 * n * (8 * n)) in
    let side : 8 * n ≤ 256 = omega arith in
    let room : 8 * n * (8 * n) ≤ 256 * 256 = mul-le-mul side side in
    omega (arith, size, room)

-- # Processors

-- what is read past the end
no_cpu_reads : (is_cst no_cpu.idle.kind ≡ false) × (no_cpu.throttle ≡ None)
unfolding no_cpu no_table
no_cpu_reads = (refl, refl)

cpu_reads : (p : ℕ) → (is_cst (machine_cpu p).idle.kind ≡ false) × ((machine_cpu p).throttle ≡ None)
unfolding machine_cpu
cpu_reads p = (refl, refl)

each_reads : (n p : ℕ) → (is_cst (cpu_in (machine_cpus n) p).idle.kind ≡ false) × ((cpu_in (machine_cpus n) p).throttle ≡ None)
each_reads n p = elim (cases_lt p (8 * n)) [
  | inl within ↦ rw (cpu_is n p no_cpu within) (cpu_reads p)
  | inr past ↦ let size = count_cpus n in rw (get_or_past (machine_cpus n) p no_cpu (omega (arith, size, past))) no_cpu_reads
]

-- # Domains

-- what holds of each member holds of all
pub each_member : (Q : ℕ → Type 0) (xs : List ℕ) → ((q : ℕ) → has_member xs q ≡ true → Q q) → AllByRecursion Q xs
each_member Q [] each = tt
each_member Q (x ∷ xs) each = (
  each x (or_left (x == x) (has_member xs x) (eq-eqb x x refl)),
  each_member Q xs (λ q e. each q (or_right (x == q) (has_member xs q) e)),
)

perf_is : (k : DomainKind) → same_kind k kinds.Perf ≡ true → k ≡ kinds.Perf
perf_is kinds.Perf e = refl
perf_is kinds.Throttle e = cc
perf_is kinds.Idle e = cc

throttle_is : (k : DomainKind) → same_kind k kinds.Throttle ≡ true → k ≡ kinds.Throttle
throttle_is kinds.Perf e = cc
throttle_is kinds.Throttle e = refl
throttle_is kinds.Idle e = cc

-- who declares a domain of performance is one of a container's processors
pub declared_within : (n m index q : ℕ) → declares kinds.Perf (record { number = m; index = index }) (machine_cpus n) q ≡ true → q / 8 ≡ m
unfolding machine_cpu cpu_domain
declared_within n m index q e =
    let size = count_cpus n in
    let name : DomainName = record { number = m; index = index } in
    let exists = nat_lt q (length (machine_cpus n)) in
    let indexed = has_index kinds.Perf index in
    let entry = is_in kinds.Perf name (cpu_in (machine_cpus n) q) in
    let first : exists ≡ true = and_first exists (indexed && entry) e in
    let inside : q < 8 * n = grind (arith, nat_tests) in
    let second : entry ≡ true = and_second indexed entry (and_second exists (indexed && entry) e) in
    by ((q / 8) == m) refl (sym (ap (is_in kinds.Perf name) (cpu_is n q no_cpu inside)) ∙ second)
  where
    by : (b : Bool) → ((q / 8) == m) ≡ b → is_some (cond b (Some (cpu_domain (q / 8))) None) ≡ true → q / 8 ≡ m
    by true same is = eqb-true (q / 8) m same
    by false same is = cc

-- a domain of performance has eight members at most
pub few_members : (n : ℕ) (d : Domain) → IsDomain (machine_cpus n) d → d.kind ≡ kinds.Perf → length d.members ≤ 8
few_members n d is kind = by d.number refl
  where
    by : (o : Option ℕ) → d.number ≡ o → length d.members ≤ 8
    by None e = let own = is.alone e in let one = ap length own.1 in omega (arith, one)
    by (Some m) e =
        let all : AllByRecursion (λ q. (8 * m ≤ q) × (q < 8 * m + 8)) d.members =
        each_member (λ q. (8 * m ≤ q) × (q < 8 * m + 8)) d.members (λ q there. (
        let declared : declares kinds.Perf (record { number = m; index = d.index }) (machine_cpus n) q ≡ true =
        ap (λ k. declares k (record { number = m; index = d.index }) (machine_cpus n) q) (sym kind) ∙ sym (is.declared m q e) ∙ there in
        let own = declared_within n m d.index q declared in
        (omega (arith, own), omega (arith, own)))) in
        let le = rise_within (8 * m) (8 * m + 8) d.members (omega arith) (rises_of d.members is.rising) all in
        omega (arith, le)

set_few : (coord : Coord) (members : ℕ) → members ≤ 8 → set_count coord members ≤ 8
set_few SwAll members le = le
set_few SwAny members le = omega arith
set_few HwAll members le = omega arith

set_none : set_count no_domain.coord (length no_domain.members) ≤ 8
unfolding no_domain
set_none = omega arith

-- # Bounds

module _ (n : ℕ) (P : Plan) (cpus : P.cpus ≡ machine_cpus n) where
  past_domains : (k : ℕ) → length P.domains ≤ k → set_count (domain_at P k).coord (length (domain_at P k).members) ≤ 8
  past_domains k le = rw (get_or_past P.domains k no_domain le) set_none

  perf_few : (p : ℕ) → domain_bound P kinds.Perf p ≤ 8
  perf_few p =
      let k = domain_of P kinds.Perf p in
      elim (cases_lt k (length P.domains)) [
        | inl within ↦
            let covered : covers kinds.Perf p (domain_at P k) ≡ true = passes (covers kinds.Perf p) P.domains no_domain within in
            let kind = perf_is (domain_at P k).kind
            (and_first (same_kind (domain_at P k).kind kinds.Perf) (has_member (domain_at P k).members p) covered) in
            ∥∥₁_elim P.planned (hlevel (le_prop)) (λ plan.
            set_few (domain_at P k).coord (length (domain_at P k).members)
            (few_members n (domain_at P k) (subst (λ ps. IsDomain ps (domain_at P k)) cpus (plan.domains_are.each k no_domain within))
            kind))
        | inr past ↦ past_domains k past
      ]

  -- no domain of throttling has a member
  throttle_few : (p : ℕ) → domain_bound P kinds.Throttle p ≤ 8
  throttle_few p =
      let k = domain_of P kinds.Throttle p in
      elim (cases_lt k (length P.domains)) [
        | inl within ↦
            let covered : covers kinds.Throttle p (domain_at P k) ≡ true = passes (covers kinds.Throttle p) P.domains no_domain within in
            let kind = throttle_is (domain_at P k).kind
            (and_first (same_kind (domain_at P k).kind kinds.Throttle) (has_member (domain_at P k).members p) covered) in
            let scale : is_some (scale_of (domain_at P k).kind (cpu_in P.cpus p)) ≡ true =
            P.sound.domains.scaled k no_domain within p (ap is_idle kind) (covers_has kinds.Throttle p (domain_at P k) covered) in
            let none : is_some (scale_of (domain_at P k).kind (cpu_in P.cpus p)) ≡ false =
            ap (λ x. is_some (scale_of x (cpu_in P.cpus p))) kind ∙ ap (λ ps. is_some (cpu_in ps p).throttle) cpus
            ∙ ap is_some (each_reads n p).1 in
            cc
        | inr past ↦ past_domains k past
      ]

  group_few : (p : ℕ) → group_bound P p ≤ 8
  group_few p =
      let k = group_of P p in
      elim (cases_lt k (length P.groups)) [
        | inl within ↦
            let there : has_member (group_at P k).members p ≡ true =
            passes (λ (g : Group). has_member g.members p) P.groups no_group within in
            let yes : is_cst (cpu_in P.cpus p).idle.kind ≡ true = P.orderly.kind k no_group within p there in
            let no : is_cst (cpu_in P.cpus p).idle.kind ≡ false = ap (λ ps. is_cst (cpu_in ps p).idle.kind) cpus ∙ (each_reads n p).0 in
            cc
        | inr past ↦ let test : nat_lt k (length P.groups) ≡ false = grind (arith, nat_tests) in rw test (omega arith)
      ]

  request_few : (q : Request) → ops_bound P q ≤ 8
  request_few (Idle p s t) = group_few p
  request_few (Wake p) = omega arith
  request_few (Perf p i) = perf_few p
  request_few (Throttle p i) = throttle_few p
  request_few (PerfLimit p i) = perf_few p
  request_few (ThrottleLimit p i) = throttle_few p

  pub load_bounded : n ≤ 32 → operations P (machine_load n).lines ≤ MOST_OPERATIONS
  load_bounded small =
      let lines = (machine_load n).lines in
      let opening : opening_bound P ≤ 131072 = P.sound.domains.opening in
      let each = sum_by-le (λ (l : Line). ops_bound P l.request) 8 lines (λ k d lt. request_few (get_or lines k d).request) in
      let short = load_short n small in
      omega (arith, opening, each, short)
