-- What lists of findings contain.
use Rattle.std.proofs.Common.{eqb-true, eq-eqb, ne_eqb, if◌then◌else◌, ◌≡◌, ◌≢◌, ◌⊎◌, ◌↔◌, ◌∙◌, ◌<◌, ◌+◌, ◌==◌, ◌&&◌, inl, inr, ℕ, suc, zero, Bool, true, false, not, List, [], ◌∷◌, ◌++◌, length, Option, Some, None, refl, sym, ap, subst, arith}
use Rattle.std.specs.Prelude.{Contains, find, nat_lt}
use Rattle.std.specs.List.{flat_map}
use Rattle.std.proofs.lemmas.Bool.{false≢true}
use Rattle.std.proofs.lemmas.Bool.Decides.{Decides-ltb}
use Rattle.std.proofs.lemmas.List.Elements.{Contains-append_cases, Contains-append_left, Contains-append_right}
use Rattle.std.proofs.lemmas.Bool.{cases_lt}
use Rattle.aml_data.specs.declared.path.FullPath.{FullPath}
use Rattle.acpi_values.specs.Idle.{rows_of}
use Rattle.acpi_values.specs.declared.idle.IdleKind.{IdleKind}
use Rattle.acpi_values.specs.declared.idle.IdleKind.TheVariants.{Lpi, Cst, Absent}
use Rattle.acpi_values.specs.declared.idle.IdleTable.{IdleTable}
use Rattle.acpi_space.specs.Namespace.{Entry}
use Rattle.acpi_build.specs.declared.note.Note.{Note}
use Rattle.pw_plan.specs.declared.domain.Domain.{Domain}
use Rattle.pw_plan.specs.declared.domain.DomainKind.{DomainKind}
use Rattle.pw_plan.specs.declared.domain.DomainKind.TheVariants.{Perf, Throttle}
use Rattle.pw_plan.specs.declared.parts.ContainerParts.{ContainerParts}
use Rattle.pw_plan.specs.declared.parts.CpuParts.{CpuParts}
use Rattle.pw_findings.specs.declared.finding.Finding.{Finding}
use Rattle.pw_findings.specs.declared.finding.FindingKind.{FindingKind}
use Rattle.pw_findings.specs.declared.finding.FindingKind.TheVariants as kinds
use Rattle.pw_findings.specs.declared.finding.OfRate.TheVariants.{Repeats}
use Rattle.pw_findings.specs.declared.finding.Repeat.{Repeat}
use Rattle.pw_findings.specs.Domains.{domain_findings, unfit_findings, member_findings}
use Rattle.pw_findings.specs.Findings.{finding, of_each, when}
use Rattle.pw_lint.specs.Notes.{note_findings}
use Rattle.pw_findings.specs.Firsts.{first_repeat}
use Rattle.pw_states.specs.Idle.{counted, falling, has_cst, has_null, idle_findings, is_cst, row_in, shrinking, state_count, unentered}
use Rattle.pw_lint.specs.Laws.{FoundIn, IsCounted, IsFalling, IsFound, IsFoundOfCpu, IsFoundOfDomain, IsRepeated, IsRising, IsShrinking, IsStill, IsUnentered}
use Rattle.pw_lint.specs.Devices.{twin_findings}
use Rattle.pw_lint.specs.Machine.{container_findings, cpu_findings, cpu_idle_findings, device_findings, findings, perf_findings, throttle_findings}
use Rattle.pw_findings.specs.Scales.{declares, rate_at, rate_findings, repeated, rising, still}

-- # Facts that are the same

pub both_ways : {A B C : Type 0} → (A ↔ B) → (B ↔ C) → A ↔ C
both_ways p q = (λ a. q.0 (p.0 a), λ c. p.1 (q.1 c))

pub either : {A B C D : Type 0} → (A ↔ C) → (B ↔ D) → (A ⊎ B) ↔ (C ⊎ D)
either p q = (
  λ e. elim e [ inl a ↦ inl (p.0 a) | inr b ↦ inr (q.0 b) ],
  λ e. elim e [ inl c ↦ inl (p.1 c) | inr d ↦ inr (q.1 d) ],
)

pub both_true : (a b : Bool) → (a && b) ≡ true → (a ≡ true) × (b ≡ true)
both_true true b e = (refl, e)
both_true false b e = absurd (false≢true e)

pub true_both : (a b : Bool) → a ≡ true → b ≡ true → (a && b) ≡ true
true_both a b p q = rw (p, q) refl

-- # Lists

pub in_either : {X : Type 0} (xs ys : List X) (x : X) → Contains (xs ++ ys) x ↔ (Contains xs x ⊎ Contains ys x)
in_either xs ys x = (
  Contains-append_cases xs ys x,
  λ e. elim e [ inl c ↦ Contains-append_left xs ys x c | inr c ↦ Contains-append_right xs ys x c ],
)

in_flat : {X : Type 0} (f : X → List Finding) (xs : List X) (y : Finding) → Contains (flat_map f xs) y → FoundIn f xs y
in_flat f [] y (k, l, e) = absurd (let bad = l in omega arith)
in_flat f (x ∷ xs) y c = elim (Contains-append_cases (f x) (flat_map f xs) y c) [
  | inl here ↦ (zero, x, omega arith, refl, here)
  | inr there ↦ let s = in_flat f xs y there in (suc s.0, s.1, omega (arith, s.2), s.3, s.4)
]

flat_in : {X : Type 0} (f : X → List Finding) (xs : List X) (y : Finding) → FoundIn f xs y → Contains (flat_map f xs) y
flat_in f [] y (k, x, l, e, c) = absurd (let bad = l in omega arith)
flat_in f (z ∷ zs) y (zero, x, l, e, c) = Contains-append_left (f z) (flat_map f zs) y (subst (λ w. Contains (f w) y) (sym e) c)
flat_in f (z ∷ zs) y (suc k, x, l, e, c) = Contains-append_right (f z) (flat_map f zs) y (flat_in f zs y (k, x, omega (arith, l), e, c))

pub in_all : {X : Type 0} (f : X → List Finding) (xs : List X) (y : Finding) → Contains (flat_map f xs) y ↔ FoundIn f xs y
in_all f xs y = (in_flat f xs y, flat_in f xs y)

-- of some number below n
abbrev OfNumber : ℕ → (ℕ → List Finding) → Finding → Type 0
OfNumber n f y = (k : ℕ) × (k < n) × Contains (f k) y

pub in_each : (n : ℕ) (f : ℕ → List Finding) (y : Finding) → Contains (of_each n f) y → OfNumber n f y
in_each zero f y (k, l, e) = absurd (let bad = l in omega arith)
in_each (suc n) f y c = elim (Contains-append_cases (of_each n f) (f n) y c) [
  | inl old ↦ let s = in_each n f y old in (s.0, omega (arith, s.1), s.2)
  | inr here ↦ (n, omega arith, here)
]

pub each_in : (n : ℕ) (f : ℕ → List Finding) (y : Finding) → OfNumber n f y → Contains (of_each n f) y
each_in zero f y (k, l, c) = absurd (let bad = l in omega arith)
each_in (suc n) f y (k, l, c) = elim (cases_lt k n) [
  | inl below ↦ Contains-append_left (of_each n f) (f n) y (each_in n f y (k, below, c))
  | inr past ↦
      let same : k ≡ n = (let m = l in omega arith) in
      Contains-append_right (of_each n f) (f n) y (subst (λ j. Contains (f j) y) same c)
]

pub alone_is : (f g : Finding) → Contains (f ∷ []) g → g ≡ f
alone_is f g (zero, l, e) = sym e
alone_is f g (suc k, l, e) = absurd (let bad = l in omega arith)

pub in_when : (b : Bool) (f g : Finding) → Contains (when b f) g → (b ≡ true) × (g ≡ f)
in_when true f g c = (refl, alone_is f g c)
in_when false f g (k, l, e) = absurd (let bad = l in omega arith)

pub when_in : (b : Bool) (f g : Finding) → b ≡ true → g ≡ f → Contains (when b f) g
when_in b f g t e = rw t (0, omega arith, sym e)

-- # A machine

pub found_of_machine : (entries : List Entry) (containers : List ContainerParts) (cpus : List CpuParts) (domains : List Domain) (noted : List Note) (f : Finding)
    → Contains (findings entries containers cpus domains noted) f ↔ IsFound entries containers cpus domains noted f
unfolding findings
found_of_machine entries containers cpus domains noted f =
    both_ways (in_either (flat_map note_findings noted) _ f) (either (in_all note_findings noted f)
    (both_ways (in_either (flat_map (container_findings entries containers) containers) _ f) (either (in_all (container_findings entries containers) containers f)
    (both_ways (in_either (flat_map (cpu_findings entries containers cpus) cpus) _ f) (either (in_all (cpu_findings entries containers cpus) cpus f)
    (both_ways (in_either (twin_findings entries cpus) _ f) (either (λ a. a, λ a. a)
    (both_ways (in_either (flat_map (domain_findings cpus) domains) _ f) (either (in_all (domain_findings cpus) domains f) (λ a. a, λ a. a))))))))))

pub found_of_cpu : (entries : List Entry) (containers : List ContainerParts) (cpus : List CpuParts) (c : CpuParts) (f : Finding)
    → Contains (cpu_findings entries containers cpus c) f ↔ IsFoundOfCpu entries containers cpus c f
unfolding cpu_findings
found_of_cpu entries containers cpus c f =
    both_ways (in_either (device_findings entries c.path) _ f) (either (λ a. a, λ a. a)
    (both_ways (in_either (cpu_idle_findings entries containers (find has_cst cpus) c) _ f) (either (λ a. a, λ a. a)
    (both_ways (in_either (perf_findings entries (find (declares Perf) cpus) c) _ f) (either (λ a. a, λ a. a)
    (in_either (throttle_findings entries (find (declares Throttle) cpus) c) _ f))))))

pub found_of_domain : (cpus : List CpuParts) (d : Domain) (f : Finding) → Contains (domain_findings cpus d) f ↔ IsFoundOfDomain cpus d f
found_of_domain cpus d f = in_either (unfit_findings cpus d) (member_findings cpus d) f

-- # Idle states

pub is_cst_of : (kind : IdleKind) → is_cst kind ≡ true → kind ≡ Cst
is_cst_of Lpi e = absurd (false≢true e)
is_cst_of Cst e = refl
is_cst_of Absent e = absurd (false≢true e)

pub found_of_states : (path : FullPath) (t : IdleTable) (f : Finding)
    → Contains (idle_findings path t) f ↔ (IsUnentered path t f ⊎ (IsFalling path (rows_of t) f ⊎ IsShrinking path (rows_of t) f))
unfolding idle_findings
found_of_states path t f = (
  λ c.
      let s = in_each (length (rows_of t)) _ f c in
      elim (Contains-append_cases (unentered path t.kind (rows_of t) s.0) _ f s.2) [
        | inl one ↦
            let w = in_when _ _ f one in
            let both = both_true (is_cst t.kind) (has_null (row_in (rows_of t) s.0).entry) w.0 in
            inl (s.0, s.1, is_cst_of t.kind both.0, both.1, w.1)
        | inr more ↦ elim (Contains-append_cases (falling path (rows_of t) s.0) (shrinking path (rows_of t) s.0) f more) [
          | inl one ↦
              let w = in_when _ _ f one in
              let both = both_true (nat_lt (s.0 + 1) (length (rows_of t))) _ w.0 in
              inr (inl (s.0, (Decides-ltb _ _).0 both.0, (Decides-ltb _ _).0 both.1, w.1))
          | inr one ↦
              let w = in_when _ _ f one in
              let both = both_true (nat_lt (s.0 + 1) (length (rows_of t))) _ w.0 in
              inr (inr (s.0, (Decides-ltb _ _).0 both.0, (Decides-ltb _ _).0 both.1, w.1))
        ]
      ],
  λ e. elim e [
    | inl u ↦ each_in (length (rows_of t)) _ f (
      u.0,
      u.1,
      Contains-append_left (unentered path t.kind (rows_of t) u.0) _ f
          (when_in _ _ f (true_both _ _ (ap is_cst u.2) u.3) u.4),
    )
    | inr (inl g) ↦
        let inside : g.0 < length (rows_of t) = (let l = g.1 in omega arith) in
        each_in (length (rows_of t)) _ f (
          g.0,
          inside,
          Contains-append_right (unentered path t.kind (rows_of t) g.0) _ f
              (Contains-append_left (falling path (rows_of t) g.0) (shrinking path (rows_of t) g.0) f
              (when_in _ _ f (true_both _ _ ((Decides-ltb _ _).1 g.1) ((Decides-ltb _ _).1 g.2)) g.3)),
        )
    | inr (inr g) ↦
        let inside : g.0 < length (rows_of t) = (let l = g.1 in omega arith) in
        each_in (length (rows_of t)) _ f (
          g.0,
          inside,
          Contains-append_right (unentered path t.kind (rows_of t) g.0) _ f
              (Contains-append_right (falling path (rows_of t) g.0) (shrinking path (rows_of t) g.0) f
              (when_in _ _ f (true_both _ _ ((Decides-ltb _ _).1 g.1) ((Decides-ltb _ _).1 g.2)) g.3)),
        )
  ],
)

-- two numbers differ where a test says so
pub differ : (m n : ℕ) → not (m == n) ≡ true → m ≢ n
differ m n t e = absurd (false≢true (sym (ap not (eq-eqb m n e)) ∙ t))

pub tell : (m n : ℕ) → m ≢ n → not (m == n) ≡ true
tell m n other = ap not (ne_eqb m n other)

pub found_of_count : (c : CpuParts) (first : Option CpuParts) (f : Finding) → Contains (counted c first) f ↔ IsCounted c first f
found_of_count c None f = (λ (k, l, e). absurd (let bad = l in omega arith), λ u. let bad : None ≡ Some u.0 = u.1 in absurd (cc))
found_of_count c (Some q) f = (
  λ found.
      let w = in_when _ _ f found in
      let both = both_true (has_cst c) _ w.0 in
      (q, refl, is_cst_of c.idle.kind both.0, differ (state_count c) (state_count q) both.1, w.1),
  λ u.
      let same : q ≡ u.0 = cc in
      when_in _ _ f (true_both _ _ (ap is_cst u.2) (tell (state_count c) (state_count q) (rw same u.3))) (rw same u.4),
)

-- # Rates

pub in_repeated : (path : FullPath) (kind : Repeat → FindingKind) (o : Option Repeat) (f : Finding)
    → Contains (repeated path kind o) f ↔ ((r : Repeat) × (o ≡ Some r) × (f ≡ finding path (kind r)))
in_repeated path kind None f = (λ (k, l, e). absurd (let bad = l in omega arith), λ u. let bad : None ≡ Some u.0 = u.1 in absurd (cc))
in_repeated path kind (Some r) f = (
  λ c. (r, refl, alone_is (finding path (kind r)) f c),
  λ u.
      let same : r ≡ u.0 = cc in
      (0, omega arith, sym (rw same u.2)),
)

in_order : (kind : DomainKind) (path : FullPath) (rates : List ℕ) (f : Finding)
    → Contains (of_each (length rates) (rate_at kind path rates)) f ↔ (IsStill kind path rates f ⊎ IsRising kind path rates f)
in_order kind path rates f = (
  λ c.
      let s = in_each (length rates) _ f c in
      elim (Contains-append_cases (still kind path rates s.0) (rising kind path rates s.0) f s.2) [
        | inl one ↦ let w = in_when _ _ f one in inl (s.0, s.1, eqb-true _ _ w.0, w.1)
        | inr one ↦
            let w = in_when _ _ f one in
            let both = both_true (nat_lt (s.0 + 1) (length rates)) _ w.0 in
            inr (s.0, (Decides-ltb _ _).0 both.0, (Decides-ltb _ _).0 both.1, w.1)
      ],
  λ e. elim e [
    | inl u ↦ each_in (length rates) _ f (
      u.0,
      u.1,
      Contains-append_left (still kind path rates u.0) (rising kind path rates u.0) f (when_in _ _ f (eq-eqb _ _ u.2) u.3),
    )
    | inr u ↦
        let inside : u.0 < length rates = (let l = u.1 in omega arith) in
        each_in (length rates) _ f (
          u.0,
          inside,
          Contains-append_right (still kind path rates u.0) (rising kind path rates u.0) f
              (when_in _ _ f (true_both _ _ ((Decides-ltb _ _).1 u.1) ((Decides-ltb _ _).1 u.2)) u.3),
        )
  ],
)

pub found_of_rates : (kind : DomainKind) (path : FullPath) (rates : List ℕ) (f : Finding)
    → Contains (rate_findings kind path rates) f ↔ ((IsStill kind path rates f ⊎ IsRising kind path rates f) ⊎ IsRepeated kind path rates f)
unfolding rate_findings
found_of_rates kind path rates f =
    both_ways (in_either (of_each (length rates) (rate_at kind path rates)) _ f)
    (either (in_order kind path rates f) (in_repeated path (λ r. kinds.Rate kind (Repeats r)) (first_repeat rates) f))

-- # Domains

empty_where : (b : Bool) (f : Finding) → (if b then [] else f ∷ []) ≡ [] → b ≡ true
empty_where true f e = refl
empty_where false f e = absurd (cc)

pub unfit_is_found : (cpus : List CpuParts) (d : Domain) → (unfit_findings cpus d ≡ []) ↔ (d.unfit ≡ 0)
unfolding unfit_findings
unfit_is_found cpus d = (
  λ none. eqb-true d.unfit 0 (empty_where (d.unfit == 0) _ none),
  λ fit. rw (eq-eqb d.unfit 0 fit) refl,
)
