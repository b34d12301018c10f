-- Each processor is in one domain of a kind, and who is in one has its scale.
use Rattle.std.proofs.Common.{◌≡◌, ◌<◌, ◌≤◌, ◌+◌, ◌==◌, ◌||◌, not, ℕ, suc, zero, Bool, true, false, cond, List, [], ◌∷◌, ◌++◌, map, length, get_or, take, Option, Some, None, refl, ap, sym, ◌∙◌, ◌⊎◌, inl, inr, arith}
use Rattle.std.specs.Prelude.{filter, is_some, is_none}
use Rattle.std.specs.List.{flat_map, list_all, list_any, position_or_len, range_with_len, AllByRecursion}
use Rattle.std.proofs.lemmas.List.Folds.{list_any-append}
use Rattle.std.proofs.lemmas.List.{get_or-take, length-take}
use Rattle.std.proofs.lemmas.Bool.{cases_lt}
use Rattle.std.proofs.lemmas.Bool.Decides.{nat_tests}
use Rattle.acpi_values.specs.declared.dependency.Dependency.{Dependency}
use Rattle.pw_plan.specs.declared.parts.CpuParts.{CpuParts}
use Rattle.pw_plan.specs.declared.parts.Scale.{Scale}
use Rattle.pw_plan.specs.declared.domain.Domain.{Domain}
use Rattle.pw_plan.specs.declared.domain.DomainKind.{DomainKind}
use Rattle.pw_plan.specs.declared.domain.DomainKind.TheVariants.{Perf, Throttle, Idle}
use Rattle.pw_plan.specs.declared.domains.DomainName.{DomainName}
use Rattle.pw_plan.specs.Parts.{cpu_in, no_cpu, scale_of}
use Rattle.pw_plan.specs.Domains.{declared_of, dependency_in, entry_of, has_register, is_alone, is_in, unfit_by}
use Rattle.pw_plan.specs.inner.DomainList.{all_domains, domain_with, domains_of, is_known, led_by, members_of, name_in, named_domains, names_of, own_domain}
use Rattle.pw_plan.specs.Groups.{has_member, is_idle}
use Rattle.pw_plan.specs.Covering.{covers, same_kind}
use Rattle.pw_plan.proofs.Lists.{and_first, and_second, any_at, each_append, each_flat_map, each_map, or_first, or_second, places-only}
use Rattle.pw_base.proofs.Facts.{is_false, or_none}

-- # At most one element passes

abbrev pub OnlyOne : {X : Type 0} → (X → Bool) → List X → Type 0
OnlyOne t [] = Unit {0}
OnlyOne t (x ∷ xs) = (t x ≡ true → list_any t xs ≡ false) × OnlyOne t xs

any_none : {X : Type 0} (t : X → Bool) (xs ys : List X) → list_any t xs ≡ false → list_any t ys ≡ false → list_any t (xs ++ ys) ≡ false
any_none t [] ys a b = b
any_none t (x ∷ xs) ys a b = or_none (t x) (list_any t (xs ++ ys)) (or_first (t x) (list_any t xs) a) (any_none t xs ys (or_second (t x) (list_any t xs) a) b)

one_append : {X : Type 0} (t : X → Bool) (xs ys : List X) → OnlyOne t xs → OnlyOne t ys → (list_any t xs ≡ true → list_any t ys ≡ false) → OnlyOne t (xs ++ ys)
one_append t [] ys a b h = b
one_append t (x ∷ xs) ys a b h = (
  λ e. any_none t xs ys (a.0 e) (h (here (t x) (list_any t xs) e)),
  one_append t xs ys a.1 b (λ e. h (later (t x) (list_any t xs) e)),
)
  where
    here : (a b : Bool) → a ≡ true → (a || b) ≡ true
    here true b e = refl
    here false b e = cc

    later : (a b : Bool) → b ≡ true → (a || b) ≡ true
    later true b e = refl
    later false b e = e

one_none : {X : Type 0} (t : X → Bool) (xs : List X) → list_any t xs ≡ false → OnlyOne t xs
one_none t [] e = tt
one_none t (x ∷ xs) e = (λ h. or_second (t x) (list_any t xs) e, one_none t xs (or_second (t x) (list_any t xs) e))

one_short : {X : Type 0} (t : X → Bool) (xs : List X) → length xs ≤ 1 → OnlyOne t xs
one_short t [] le = tt
one_short t (x ∷ []) le = (λ e. refl, tt)
one_short t (x ∷ y ∷ xs) le = absurd (omega arith)

none_in : {X : Type 0} (t : X → Bool) (f : ℕ → List X) (k n : ℕ) → ((q : ℕ) → k ≤ q → q < k + n → list_any t (f q) ≡ false) → list_any t (flat_map f (range_with_len k n)) ≡ false
none_in t f k zero h = refl
none_in t f k (suc n) h = any_none t (f k) (flat_map f (range_with_len (k + 1) n)) (h k (omega arith) (omega arith)) (none_in t f (k + 1) n (λ q a b. h q (omega arith) (omega arith)))

-- no two of the lists have an element that passes, and each has at most one
one_in : {X : Type 0} (t : X → Bool) (f : ℕ → List X) (k n : ℕ) → ((q : ℕ) → OnlyOne t (f q))
    → ((q r : ℕ) → q < k + n → r < k + n → list_any t (f q) ≡ true → list_any t (f r) ≡ true → q ≡ r) → OnlyOne t (flat_map f (range_with_len k n))
one_in t f k zero each same = tt
one_in t f k (suc n) each same = one_append t (f k) (flat_map f (range_with_len (k + 1) n)) (each k)
    (one_in t f (k + 1) n each (λ q r a b. same q r (omega arith) (omega arith)))
    (λ e. none_in t f (k + 1) n (λ q a b. is_false (list_any t (f q)) (λ g. let one = same k q (omega arith) (omega arith) e g in absurd (omega (arith, one)))))

-- so whoever passes is the first to pass
pub only_place : {X : Type 0} (t : X → Bool) (xs : List X) (i : ℕ) (d : X) → OnlyOne t xs → i < length xs → t (get_or xs i d) ≡ true → position_or_len t xs ≡ i
only_place t [] i d a lt e = absurd (omega arith)
only_place t (x ∷ xs) zero d a lt e = rw e refl
only_place t (x ∷ xs) (suc i) d a lt e = step (t x) refl (only_place t xs i d a.1 (omega arith) e)
  where
    step : (b : Bool) → t x ≡ b → position_or_len t xs ≡ i → position_or_len t (x ∷ xs) ≡ suc i
    step true h r = let f : false ≡ true = sym (a.0 h) ∙ any_at t xs i d (omega arith) e in cc
    step false h r = rw h (omega (arith, r))

-- # Domains of one kind

-- every domain of a kind is of it
kind_is : (kind : DomainKind) (ps : List CpuParts) → AllByRecursion (λ d. d.kind ≡ kind) (domains_of kind ps)
kind_is kind ps = each_flat_map (λ d. d.kind ≡ kind) (led_by kind ps) 0 (length ps) (λ q le lt.
    each_append (λ d. d.kind ≡ kind) (own_domain kind ps q) (named_domains kind ps q (names_of kind (cpu_in ps q))) (own q)
    (each_map (λ d. d.kind ≡ kind) (λ d. domain_with kind (Some d) ps q (members_of kind ps d)) (filter (λ d. not (is_known kind ps q d)) (names_of kind (cpu_in ps q))) (λ d. refl)))
  where
    own : (q : ℕ) → AllByRecursion (λ d. d.kind ≡ kind) (own_domain kind ps q)
    own q = step (is_alone (scale_of kind (cpu_in ps q)))
      where
        step : (b : Bool) → AllByRecursion (λ d. d.kind ≡ kind) (cond b (domain_with kind None ps q (q ∷ []) ∷ []) [])
        step true = (refl, tt)
        step false = tt

none_of_kind : (kind other : DomainKind) (p : ℕ) (ds : List Domain) → same_kind other kind ≡ false → AllByRecursion (λ d. d.kind ≡ other) ds → list_any (covers kind p) ds ≡ false
none_of_kind kind other p [] e a = refl
none_of_kind kind other p (d ∷ ds) e a = or_none (covers kind p d) (list_any (covers kind p) ds) (rw a.0 (rw e refl)) (none_of_kind kind other p ds e a.1)

-- whoever is the only member is he
pub the_member : (q p : ℕ) → has_member (q ∷ []) p ≡ true → q ≡ p
the_member q p e = step (q == p) refl e
  where
    step : (b : Bool) → (q == p) ≡ b → (b || false) ≡ true → q ≡ p
    step true h e = grind (arith, nat_tests)
    step false h e = cc

-- # No processor leads two domains of scales

pub leads_one : (s : Option Scale) (x : Domain) (f : DomainName → Domain) (t : DomainName → Bool) → length ((cond (is_alone s) (x ∷ []) []) ++ map f (filter t (name_in (dependency_in s)))) ≤ 1
leads_one None x f t = omega arith
leads_one (Some s) x f t = by s.dependency
  where
    kept : (b : Bool) (d : DomainName) → length (map f (cond b (d ∷ []) [])) ≤ 1
    kept true d = omega arith
    kept false d = omega arith

    by : (e : Option Dependency) → length ((cond (is_none e) (x ∷ []) []) ++ map f (filter t (name_in e))) ≤ 1
    by None = omega arith
    by (Some e) = kept (t (record { number = e.domain; index = 0 })) (record { number = e.domain; index = 0 })

-- # No two processors lead domains of one processor's scale

abbrev name_of : Dependency → DomainName
name_of e = record { number = e.domain; index = 0 }

record Declared (number : ℕ) (o : Option Dependency) : Type 0 where
  entry : Dependency
  is : o ≡ Some entry
  of : entry.domain ≡ number

declared : (number : ℕ) (o : Option Dependency) → is_some (declared_of number o) ≡ true → Declared number o
declared number None e = cc
declared number (Some d) e = step (d.domain == number) refl e
  where
    step : (b : Bool) → (d.domain == number) ≡ b → is_some (cond b (Some d) None) ≡ true → Declared number (Some d)
    step true h e = record { entry = d; is = refl; of = grind (arith, nat_tests) }
    step false h e = cc

alone_none : (s : Option Scale) → is_alone s ≡ true → dependency_in s ≡ None
alone_none None e = cc
alone_none (Some s) e = step s.dependency e
  where
    step : (o : Option Dependency) → is_none o ≡ true → o ≡ None
    step None e = refl
    step (Some d) e = cc

module _ (ps : List CpuParts) (kind : DomainKind)
    (names : (c : CpuParts) → names_of kind c ≡ name_in (dependency_in (scale_of kind c)))
    (entries : (d : DomainName) (c : CpuParts) → entry_of kind d c ≡ declared_of d.number (dependency_in (scale_of kind c))) where
  -- processor q leads the domain by which p is in one of the name
  record LeadsNamed (p q : ℕ) : Type 0 where
    entry : Dependency
    own : dependency_in (scale_of kind (cpu_in ps q)) ≡ Some entry
    in_it : is_in kind (name_of entry) (cpu_in ps p) ≡ true
    first : is_known kind ps q (name_of entry) ≡ false

  record LeadsOwn (p q : ℕ) : Type 0 where
    same : q ≡ p
    alone : is_alone (scale_of kind (cpu_in ps q)) ≡ true

  own_leads : (p q : ℕ) → list_any (covers kind p) (own_domain kind ps q) ≡ true → LeadsOwn p q
  own_leads p q e = step (is_alone (scale_of kind (cpu_in ps q))) refl e
    where
      step : (b : Bool) → is_alone (scale_of kind (cpu_in ps q)) ≡ b → list_any (covers kind p) (cond b (domain_with kind None ps q (q ∷ []) ∷ []) []) ≡ true → LeadsOwn p q
      step true h e = record { same = the_member q p (and_second (same_kind kind kind) (has_member (q ∷ []) p) (alone (covers kind p (domain_with kind None ps q (q ∷ []))) e)); alone = h }
        where
          alone : (b : Bool) → (b || false) ≡ true → b ≡ true
          alone true e = refl
          alone false e = cc
      step false h e = cc

  named_leads : (p q : ℕ) → list_any (covers kind p) (named_domains kind ps q (names_of kind (cpu_in ps q))) ≡ true → LeadsNamed p q
  named_leads p q e = by (dependency_in (scale_of kind (cpu_in ps q))) refl (rw (names (cpu_in ps q)) at e)
    where
      by : (o : Option Dependency) → dependency_in (scale_of kind (cpu_in ps q)) ≡ o → list_any (covers kind p) (named_domains kind ps q (name_in o)) ≡ true → LeadsNamed p q
      by None is e = cc
      by (Some d) is e = step (is_known kind ps q (name_of d)) refl e
        where
          only : (b : Bool) → (b || false) ≡ true → b ≡ true
          only true e = refl
          only false e = cc

          step : (b : Bool) → is_known kind ps q (name_of d) ≡ b
              → list_any (covers kind p) (map (λ n. domain_with kind (Some n) ps q (members_of kind ps n)) (cond (not b) (name_of d ∷ []) [])) ≡ true → LeadsNamed p q
          step true h e = cc
          step false h e =
              let member = and_second (same_kind kind kind) (has_member (members_of kind ps (name_of d)) p)
              (only (covers kind p (domain_with kind (Some (name_of d)) ps q (members_of kind ps (name_of d)))) e) in
              let at = places-only (is_in kind (name_of d)) 0 ps p no_cpu member in
              let same : at.0 ≡ p = omega (arith, at.1) in
              record { entry = d; own = is; in_it = rw same at at.3; first = h }

  declares : (d : DomainName) (p : ℕ) → is_in kind d (cpu_in ps p) ≡ true → Declared d.number (dependency_in (scale_of kind (cpu_in ps p)))
  declares d p e = declared d.number (dependency_in (scale_of kind (cpu_in ps p))) (ap (λ o. is_some o) (sym (entries d (cpu_in ps p))) ∙ e)

  own_in : (q : ℕ) (d : Dependency) → dependency_in (scale_of kind (cpu_in ps q)) ≡ Some d → is_in kind (name_of d) (cpu_in ps q) ≡ true
  own_in q d e = ap (λ o. is_some o) (entries (name_of d) (cpu_in ps q) ∙ ap (declared_of d.domain) e) ∙ itself (d.domain == d.domain) (grind (arith, nat_tests))
    where
      itself : (b : Bool) → b ≡ true → is_some (cond b (Some d) None) ≡ true
      itself true h = refl
      itself false h = cc

  not_both : (p q r : ℕ) → LeadsOwn p q → LeadsNamed p r → ⊥
  not_both p q r a b =
      let d = declares (name_of b.entry) p b.in_it in
      let none : dependency_in (scale_of kind (cpu_in ps p)) ≡ None = ap (λ i. dependency_in (scale_of kind (cpu_in ps i))) (sym a.same) ∙ alone_none (scale_of kind (cpu_in ps q)) a.alone in
      let is = d.is in
      cc

  -- a first one of a name is not behind another of that name
  not_behind : (q r : ℕ) (d : DomainName) → q < length ps → is_in kind d (cpu_in ps q) ≡ true → is_known kind ps r d ≡ false → r ≤ q
  not_behind q r d lt in_q first = elim (cases_lt q r) [
    | inl behind ↦
        let found : list_any (is_in kind d) (take r ps) ≡ true = any_at (is_in kind d) (take r ps) q no_cpu (rw length-take (omega arith)) (rw (get_or-take r ps q no_cpu behind) in_q) in
        cc
    | inr ge ↦ ge
  ]

  both_named : (p q r : ℕ) → q < length ps → r < length ps → LeadsNamed p q → LeadsNamed p r → q ≡ r
  both_named p q r ql rl a b =
      let d = declares (name_of a.entry) p a.in_it in
      let e = declares (name_of b.entry) p b.in_it in
      let d_is = d.is in
      let e_is = e.is in
      let entry : d.entry ≡ e.entry = cc in
      let number : a.entry.domain ≡ b.entry.domain = sym d.of ∙ ap (λ (x : Dependency). x.domain) entry ∙ e.of in
      let name : name_of a.entry ≡ name_of b.entry = ap (λ n. record { number = n; index = 0 }) number in
      let one = not_behind q r (name_of b.entry) ql (rw name at (own_in q a.entry a.own)) b.first in
      let two = not_behind r q (name_of a.entry) rl (rw (← name) at (own_in r b.entry b.own)) a.first in
      omega (arith, one, two)

  leads : (p q : ℕ) → list_any (covers kind p) (led_by kind ps q) ≡ true → LeadsOwn p q ⊎ LeadsNamed p q
  leads p q e = step (list_any (covers kind p) (own_domain kind ps q)) refl (sym (list_any-append (covers kind p) (own_domain kind ps q) (named_domains kind ps q (names_of kind (cpu_in ps q)))) ∙ e)
    where
      step : (b : Bool) → list_any (covers kind p) (own_domain kind ps q) ≡ b → (b || list_any (covers kind p) (named_domains kind ps q (names_of kind (cpu_in ps q)))) ≡ true → LeadsOwn p q
          ⊎ LeadsNamed p q
      step true h e = inl (own_leads p q h)
      step false h e = inr (named_leads p q e)

  same_leader : (p q r : ℕ) → q < length ps → r < length ps → LeadsOwn p q ⊎ LeadsNamed p q → LeadsOwn p r ⊎ LeadsNamed p r → q ≡ r
  same_leader p q r ql rl (inl a) (inl b) = a.same ∙ sym b.same
  same_leader p q r ql rl (inl a) (inr b) = absurd (not_both p q r a b)
  same_leader p q r ql rl (inr a) (inl b) = absurd (not_both p r q b a)
  same_leader p q r ql rl (inr a) (inr b) = both_named p q r ql rl a b

  pub one_of_kind : (p : ℕ) → OnlyOne (covers kind p) (domains_of kind ps)
  one_of_kind p = one_in (covers kind p) (led_by kind ps) 0 (length ps)
      (λ q. one_short (covers kind p) (led_by kind ps q) (rw (names (cpu_in ps q)) (leads_one (scale_of kind (cpu_in ps q)) (domain_with kind None ps q (q ∷ []))
      (λ d. domain_with kind (Some d) ps q (members_of kind ps d)) (λ d. not (is_known kind ps q d)))))
      (λ q r a b e f. same_leader p q r (omega arith) (omega arith) (leads p q e) (leads p r f))

-- # All domains

module _ (ps : List CpuParts) where
  none_of : (kind other : DomainKind) (p : ℕ) → same_kind other kind ≡ false → list_any (covers kind p) (domains_of other ps) ≡ false
  none_of kind other p e = none_of_kind kind other p (domains_of other ps) e (kind_is other ps)

  scaled_one : (kind : DomainKind) (p : ℕ) → is_idle kind ≡ false → OnlyOne (covers kind p) (domains_of Perf ps ++ domains_of Throttle ps)
  scaled_one Perf p e = one_append (covers Perf p) (domains_of Perf ps) (domains_of Throttle ps) (one_of_kind ps Perf (λ c. refl) (λ d c. refl) p)
      (one_none (covers Perf p) (domains_of Throttle ps) (none_of Perf Throttle p refl)) (λ h. none_of Perf Throttle p refl)
  scaled_one Throttle p e = one_append (covers Throttle p) (domains_of Perf ps) (domains_of Throttle ps) (one_none (covers Throttle p) (domains_of Perf ps) (none_of Throttle Perf p refl))
      (one_of_kind ps Throttle (λ c. refl) (λ d c. refl) p) (λ h. let n : false ≡ true = sym (none_of Throttle Perf p refl) ∙ h in cc)
  scaled_one Idle p e = cc

  not_idle : (kind : DomainKind) → is_idle kind ≡ false → same_kind Idle kind ≡ false
  not_idle Perf e = refl
  not_idle Throttle e = refl
  not_idle Idle e = cc

  -- a processor is in at most one domain of performance, and in one of throttling
  pub only : (kind : DomainKind) (d p : ℕ) (x : Domain) → d < length (all_domains ps) → is_idle kind ≡ false → covers kind p (get_or (all_domains ps) d x) ≡ true
      → position_or_len (covers kind p) (all_domains ps) ≡ d
  only kind d p x lt scaled e = only_place (covers kind p) (all_domains ps) d x
      (one_append (covers kind p) (domains_of Perf ps ++ domains_of Throttle ps) (domains_of Idle ps) (scaled_one kind p scaled)
      (one_none (covers kind p) (domains_of Idle ps) (none_of kind Idle p (not_idle kind scaled))) (λ h. none_of kind Idle p (not_idle kind scaled)))
      lt e

  -- # Who is in a domain has its scale, and in a fit one its register

  abbrev pub Scaled : Domain → Type 0
  Scaled d = (p : ℕ) → is_idle d.kind ≡ false → has_member d.members p ≡ true → is_some (scale_of d.kind (cpu_in ps p)) ≡ true

  abbrev pub Registered : Domain → Type 0
  Registered d = (p : ℕ) → d.unfit ≡ 0 → has_member d.members p ≡ true → has_register (scale_of d.kind (cpu_in ps p)) ≡ true

  all_pass : (t : ℕ → Bool) (ms : List ℕ) (p : ℕ) → list_all t ms ≡ true → has_member ms p ≡ true → t p ≡ true
  all_pass t [] p a e = cc
  all_pass t (m ∷ ms) p a e = step (m == p) refl e (all_pass t ms p (and_second (t m) (list_all t ms) a))
    where
      step : (b : Bool) → (m == p) ≡ b → (b || has_member ms p) ≡ true → (has_member ms p ≡ true → t p ≡ true) → t p ≡ true
      step true h e later = let same : m ≡ p = grind (arith, nat_tests) in rw same at (and_first (t m) (list_all t ms) a)
      step false h e later = later e

  last_reason : (a b c d e : Bool) → unfit_by a b c d e ≡ 0 → e ≡ true
  last_reason false b c d e h = cc
  last_reason true false c d e h = cc
  last_reason true true false d e h = cc
  last_reason true true true false e h = cc
  last_reason true true true true false h = cc
  last_reason true true true true true h = refl

  registered : (kind : DomainKind) (name : Option DomainName) (first : ℕ) (members : List ℕ) → Registered (domain_with kind name ps first members)
  registered kind name first members p fit e =
      all_pass (λ q. has_register (scale_of kind (cpu_in ps q))) members p (last_reason _ _ _ _ (list_all (λ q. has_register (scale_of kind (cpu_in ps q))) members) fit) e

  alone_some : (s : Option Scale) → is_alone s ≡ true → is_some s ≡ true
  alone_some None e = cc
  alone_some (Some s) e = refl

  entry_some : (kind : DomainKind) (d : DomainName) (c : CpuParts) → is_idle kind ≡ false → is_in kind d c ≡ true → is_some (scale_of kind c) ≡ true
  entry_some Perf d c h e = by c.perf e
    where
      by : (s : Option Scale) → is_some (declared_of d.number (dependency_in s)) ≡ true → is_some s ≡ true
      by None e = cc
      by (Some s) e = refl
  entry_some Throttle d c h e = by c.throttle e
    where
      by : (s : Option Scale) → is_some (declared_of d.number (dependency_in s)) ≡ true → is_some s ≡ true
      by None e = cc
      by (Some s) e = refl
  entry_some Idle d c h e = cc

  named_scaled : (kind : DomainKind) (q : ℕ) (d : DomainName) → Scaled (domain_with kind (Some d) ps q (members_of kind ps d))
  named_scaled kind q d p h e =
      let at = places-only (is_in kind d) 0 ps p no_cpu e in
      let same : at.0 ≡ p = omega (arith, at.1) in
      rw same at (entry_some kind d (cpu_in ps at.0) h at.3)

  own_scaled : (kind : DomainKind) (q : ℕ) → is_alone (scale_of kind (cpu_in ps q)) ≡ true → Scaled (domain_with kind None ps q (q ∷ []))
  own_scaled kind q alone p h e = rw (the_member q p e) at (alone_some (scale_of kind (cpu_in ps q)) alone)

  abbrev pub Shows : Domain → Type 0
  Shows d = Scaled d × Registered d

  own_shows : (kind : DomainKind) (q : ℕ) → AllByRecursion Shows (own_domain kind ps q)
  own_shows kind q = step (is_alone (scale_of kind (cpu_in ps q))) refl
    where
      step : (b : Bool) → is_alone (scale_of kind (cpu_in ps q)) ≡ b → AllByRecursion Shows (cond b (domain_with kind None ps q (q ∷ []) ∷ []) [])
      step true e = ((own_scaled kind q e, registered kind None q (q ∷ [])), tt)
      step false e = tt

  kind_shows : (kind : DomainKind) → AllByRecursion Shows (domains_of kind ps)
  kind_shows kind = each_flat_map Shows (led_by kind ps) 0 (length ps) (λ q le lt.
      each_append Shows (own_domain kind ps q) (named_domains kind ps q (names_of kind (cpu_in ps q))) (own_shows kind q)
      (each_map Shows (λ d. domain_with kind (Some d) ps q (members_of kind ps d)) (filter (λ d. not (is_known kind ps q d)) (names_of kind (cpu_in ps q)))
      (λ d. (named_scaled kind q d, registered kind (Some d) q (members_of kind ps d)))))

  pub all_show : AllByRecursion Shows (all_domains ps)
  all_show = each_append Shows (domains_of Perf ps ++ domains_of Throttle ps) (domains_of Idle ps)
      (each_append Shows (domains_of Perf ps) (domains_of Throttle ps) (kind_shows Perf) (kind_shows Throttle)) (kind_shows Idle)
