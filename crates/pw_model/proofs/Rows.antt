-- What idle domains are about.
use Rattle.std.proofs.Math.Nat.{ℕ_set}
use Rattle.std.proofs.Common.{◌≡◌, ◌<◌, ◌+◌, ◌-◌, ◌==◌, ◌&&◌, ◌||◌, cond, ℕ, Bool, true, false, List, [], ◌∷◌, length, get_or, Option, Some, None, refl, ap, sym, ◌∙◌, arith}
use Rattle.std.specs.Prelude.{find, is_some, nat_lt}
use Rattle.std.specs.Option.{option_map}
use Rattle.std.specs.List.{list_any}
use Rattle.std.proofs.Math.Bool.{Bool-set}
use Rattle.std.proofs.Math.Bridge.{le_prop}
use Rattle.std.proofs.Math.Logic.{∥∥₁_elim}
use Rattle.std.proofs.lemmas.Bool.Decides.{nat_tests}
use Rattle.acpi_values.specs.Idle.{rows_by, rows_of}
use Rattle.acpi_values.specs.declared.dependency.CDependency.{CDependency}
use Rattle.acpi_values.specs.declared.idle.IdleKind.{IdleKind}
use Rattle.acpi_values.specs.declared.idle.IdleKind.TheVariants.{Cst}
use Rattle.acpi_values.specs.declared.idle.IdleRow.{IdleRow}
use Rattle.pw_plan.specs.declared.domain.DomainKind.{DomainKind}
use Rattle.pw_plan.specs.declared.domain.DomainKind.TheVariants as kinds
use Rattle.pw_plan.specs.declared.plan.Plan.{Plan}
use Rattle.pw_plan.specs.Domains.{as_dependency, declares, declares_none, is_in, IsDomain}
use Rattle.pw_plan.specs.Groups.{has_member, is_idle, no_domain}
use Rattle.pw_plan.specs.Parts.{entry_in, is_entry, no_entry, no_row}
use Rattle.pw_plan.specs.Places.{cpu_at, domain_at}
use Rattle.pw_plan.specs.Planning.{IsPlanOf}
use Rattle.pw_plan.proofs.Lists.{and_first, and_second, first_place}
use Rattle.pw_model.specs.Entering.{IsAboutRow}

-- who is found passes
some_passes : {X : Type 0} (t : X → Bool) (xs : List X) → is_some (find t xs) ≡ true → list_any t xs ≡ true
some_passes t [] e = cc
some_passes t (x ∷ xs) e = step (t x) e (some_passes t xs)
  where
    step : (b : Bool) → is_some (cond b (Some x) (find t xs)) ≡ true → (is_some (find t xs) ≡ true → list_any t xs ≡ true) → (b || list_any t xs) ≡ true
    step true e later = refl
    step false e later = later e

some_mapped : {X Y : Type 0} (f : X → Y) (o : Option X) → is_some (option_map f o) ≡ true → is_some o ≡ true
some_mapped f None e = e
some_mapped f (Some x) e = refl

same_index : (n i : ℕ) (es : List CDependency) → list_any (is_entry n i) es ≡ true → list_any (λ (e : CDependency). e.index == i) es ≡ true
same_index n i [] h = h
same_index n i (e ∷ es) h = step (e.domain == n) (e.index == i) h (same_index n i es)
  where
    step : (a b : Bool) → ((a && b) || list_any (is_entry n i) es) ≡ true → (list_any (is_entry n i) es ≡ true → list_any (λ (e : CDependency). e.index == i) es ≡ true)
        → (b || list_any (λ (e : CDependency). e.index == i) es) ≡ true
    step a true h later = refl
    step true false h later = later h
    step false false h later = later h

cst_rows : (kind : IdleKind) (rows : List IdleRow) → kind ≡ Cst → length rows ≡ length (rows_by kind rows)
cst_rows kind rows e = rw e refl

-- a processor that exists, with an entry of `_CSD` of this number and index
record Declares (P : Plan) (p index : ℕ) : Type 0 where
  exists : p < length P.cpus
  number : ℕ
  entry : list_any (is_entry number index) (cpu_at P p).csd ≡ true

record HasRow (P : Plan) (p index : ℕ) : Type 0 where
  entry : list_any (λ (e : CDependency). e.index == index) (cpu_at P p).csd ≡ true
  within : index < length (rows_of (cpu_at P p).idle)

module _ (P : Plan) (d p : ℕ) (lt : d < length P.domains) (idle : is_idle (domain_at P d).kind ≡ true) (member : has_member (domain_at P d).members p ≡ true) where
  not_alone : (k : DomainKind) (q : ℕ) → is_idle k ≡ true → declares_none k P.cpus q ≡ true → ⊥
  not_alone kinds.Perf q e h = cc
  not_alone kinds.Throttle q e h = cc
  not_alone kinds.Idle q e h = let none : false ≡ true = and_second (nat_lt q (length P.cpus)) false h in cc

  by_name : (k : DomainKind) (n i : ℕ) → is_idle k ≡ true → declares k (record { number = n; index = i }) P.cpus p ≡ true → Declares P p i
  by_name kinds.Perf n i e h = cc
  by_name kinds.Throttle n i e h = cc
  by_name kinds.Idle n i e h =
      let first = and_first (nat_lt p (length P.cpus)) (is_in kinds.Idle (record { number = n; index = i }) (cpu_at P p)) h in
      record {
        exists = grind (arith, nat_tests);
        number = n;
        entry = some_passes (is_entry n i) (cpu_at P p).csd
            (some_mapped as_dependency (find (is_entry n i) (cpu_at P p).csd) (and_second (nat_lt p (length P.cpus)) (is_in kinds.Idle (record { number = n; index = i }) (cpu_at P p)) h));
      }

  declares_it : IsDomain P.cpus (domain_at P d) → Declares P p (domain_at P d).index
  declares_it is = by (domain_at P d).number refl
    where
      by : (number : Option ℕ) → (domain_at P d).number ≡ number → Declares P p (domain_at P d).index
      by None e = let own = is.alone e in absurd (not_alone (domain_at P d).kind own.0 idle own.2)
      by (Some n) e = by_name (domain_at P d).kind n (domain_at P d).index idle (sym (is.declared n p e) ∙ member)

  has_row : IsPlanOf P.containers P.cpus P.children P.domains P.groups → HasRow P p (domain_at P d).index
  has_row plan =
      let it = declares_it (plan.domains_are.each d no_domain lt) in
      let place = first_place (is_entry it.number (domain_at P d).index) (cpu_at P p).csd no_entry it.entry in
      let fits = plan.fit.csd p it.exists in
      let same : ((entry_in (cpu_at P p).csd place.0).index == (domain_at P d).index) ≡ true =
      and_second ((entry_in (cpu_at P p).csd place.0).domain == it.number) ((entry_in (cpu_at P p).csd place.0).index == (domain_at P d).index) place.2 in
      let row = fits.state place.0 place.1 in
      let long = cst_rows (cpu_at P p).idle.kind (cpu_at P p).idle.rows (fits.kind place.0 place.1) in
      record {
        entry = same_index it.number (domain_at P d).index (cpu_at P p).csd it.entry;
        within = below (entry_in (cpu_at P p).csd place.0).index (domain_at P d).index (length (cpu_at P p).idle.rows) (length (rows_of (cpu_at P p).idle)) same row long;
      }
    where
      below : (a b m n : ℕ) → (a == b) ≡ true → a < m → m ≡ n → b < n
      below a b m n same lt long = grind (arith, nat_tests)

  pub about_row : IsAboutRow P d p
  about_row =
      let has : HasRow P p (domain_at P d).index = ∥∥₁_elim P.planned (hlevel (ℕ_set, Bool-set, le_prop)) has_row in
      record {
        entry = has.entry;
        within = has.within;
        state = ap (λ k. get_or (rows_of (cpu_at P p).idle) k no_row) (less (domain_at P d).index);
        counted = omega arith;
      }
    where
      less : (i : ℕ) → (i + 1) - 1 ≡ i
      less i = omega arith
