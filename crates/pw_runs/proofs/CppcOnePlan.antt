-- Objects make one plan of performance.
use Rattle.std.proofs.Common.{◌≡◌, ◌<◌, ℕ, List, length, Option, Some, None, refl, sym, ap, subst, ◌∙◌}
use Rattle.std.proofs.Props.{props}
use Rattle.std.proofs.lemmas.List.{get_or_default, same_lists}
use Rattle.aml_data.specs.declared.data.Width.{Width}
use Rattle.aml_data.specs.declared.path.FullPath.{FullPath}
use Rattle.acpi_values.specs.declared.dependency.Dependency.{Dependency}
use Rattle.acpi_perf.specs.Meaning.{DomainMeans}
use Rattle.acpi_perf.specs.Objects.{domain_of}
use Rattle.acpi_perf.proofs.Meant.{domain_read}
use Rattle.acpi_space.specs.Distinct.{IsDistinct}
use Rattle.acpi_space.specs.Namespace.{Entry, places_of}
use Rattle.acpi_space.specs.Places.{Place}
use Rattle.acpi_build.specs.Sources.{IsTable, is_absent, is_given}
use Rattle.pw_plan.specs.declared.parts.CpuParts.{CpuParts}
use Rattle.pw_plan.specs.declared.plan.Plan.{Plan}
use Rattle.pw_plan.specs.Places.{cpu_at}
use Rattle.pw_cppc.specs.declared.parts.CppcParts.{CppcParts}
use Rattle.pw_cppc.specs.declared.plan.CppcDomain.{CppcDomain}
use Rattle.pw_cppc.specs.declared.plan.CppcPlan.{CppcPlan}
use Rattle.pw_cppc.specs.Parts.{no_parts}
use Rattle.pw_cppc.specs.Domains.{domains_of}
use Rattle.pw_cppc.specs.Sound.{IsPlanOf, IsSound, places_of as all_places}
use Rattle.pw_cppc.specs.Machine.{AreCppcParts, IsCppcOf, dependency_place}
use Rattle.pw_base.proofs.Facts.{same_ok}
use Rattle.acpi_build.proofs.OneTable.{one_data}

-- # What stands at a place

-- and means one `_PSD`
one_table : (entries : List Entry) (place : Place) (o p : Option Dependency) → IsDistinct (places_of entries) → IsTable DomainMeans entries place o
    → IsTable DomainMeans entries place p → o ≡ p
one_table entries place (Some a) (Some b) distinct (is_given d w x given means) (is_given e v y giving meaning) =
    let same = one_data entries place d e w v distinct given giving in
    let moved : domain_of w d ≡ domain_of v e = ap (λ (u : Width). domain_of u d) same.1 ∙ ap (domain_of v) same.0 in
    ap Some (same_ok (domain_of v e) (sym moved ∙ domain_read w d x means) (domain_read v e y meaning))
one_table entries place (Some a) None distinct (is_given d w x given means) (is_absent none) = absurd (none d w given)
one_table entries place None (Some b) distinct (is_absent none) (is_given e v y giving meaning) = absurd (none e v giving)
one_table entries place None None distinct (is_absent none) (is_absent nothing) = refl

-- # The parts of processors

one_cppc : (entries : List Entry) (c : CpuParts) (p q : CppcParts) → IsDistinct (places_of entries) → IsCppcOf entries c p → IsCppcOf entries c q → p ≡ q
one_cppc entries c p q distinct a b =
    let cpc : p.cpc ≡ q.cpc = a.cpc ∙ sym b.cpc in
    let dependency : p.dependency ≡ q.dependency = one_table entries (dependency_place c) p.dependency q.dependency distinct a.dependency b.dependency in
    let same : record { cpc = p.cpc; dependency = p.dependency } ≡ record { cpc = q.cpc; dependency = q.dependency } = cc in
    same

one_parts : (entries : List Entry) (M : Plan) (ps qs : List CppcParts) → IsDistinct (places_of entries) → AreCppcParts entries M ps → AreCppcParts entries M qs → ps ≡ qs
one_parts entries M ps qs distinct a b =
    same_lists ps qs (a.count ∙ sym b.count) (λ k d l.
    let many : k < length M.cpus = subst (λ n. k < n) a.count l in
    let other : k < length qs = subst (λ n. k < n) (a.count ∙ sym b.count) l in
    get_or_default ps k d no_parts l ∙ one_cppc entries (cpu_at M k) _ _ distinct (a.each k many) (b.each k many) ∙ sym (get_or_default qs k d no_parts other))

-- # Plans with the same paths and parts

record Lists : Type 0 where
  pub paths : List FullPath
  pub cpus : List CppcParts
  pub domains : List CppcDomain
  pub places : List (Option ℕ)

record Facts (l : Lists) : Type 0 where
  pub planned : IsPlanOf l.paths l.cpus l.domains l.places
  pub sound : IsSound l.cpus l.domains

abbrev lists_of : CppcPlan → Lists
lists_of P = record { paths = P.paths; cpus = P.cpus; domains = P.domains; places = P.places }

abbrev facts_of : (P : CppcPlan) → Facts (lists_of P)
facts_of P = record { planned = P.planned; sound = P.sound }

abbrev plan_of : (l : Lists) → Facts l → CppcPlan
plan_of l f = record { paths = l.paths; cpus = l.cpus; domains = l.domains; places = l.places; planned = f.planned; sound = f.sound }

-- each fact has one proof
facts_one : (l : Lists) (a b : Facts l) → a ≡ b
facts_one l a b = let one : IsProp (Facts l) = hlevel props in one a b

plans_of_one : (l m : Lists) → l ≡ m → (a : Facts l) (b : Facts m) → plan_of l a ≡ plan_of m b
plans_of_one l m e a = subst (λ (k : Lists). (b : Facts k) → plan_of l a ≡ plan_of k b) e (λ b. ap (plan_of l) (facts_one l a b))

-- the domains and their places are those of the parts
same_all : (P Q : CppcPlan) → P.paths ≡ Q.paths → P.cpus ≡ Q.cpus → lists_of P ≡ lists_of Q
same_all P Q paths cpus =
    let domains : P.domains ≡ Q.domains = P.planned.domains_are ∙ ap domains_of cpus ∙ sym Q.planned.domains_are in
    let places : P.places ≡ Q.places =
    P.planned.places_are ∙ ap (λ (ds : List CppcDomain). all_places ds (length P.cpus)) domains
    ∙ ap (λ (ps : List CppcParts). all_places Q.domains (length ps)) cpus ∙ sym Q.planned.places_are in
    cc

same_plans : (P Q : CppcPlan) → P.paths ≡ Q.paths → P.cpus ≡ Q.cpus → P ≡ Q
same_plans P Q paths cpus = plans_of_one (lists_of P) (lists_of Q) (same_all P Q paths cpus) (facts_of P) (facts_of Q)

-- Plans of the processors of one machine, with the parts that these objects tell, are one.
pub one_plan : (entries : List Entry) (M : Plan) (P Q : CppcPlan) → IsDistinct (places_of entries) → P.paths ≡ Q.paths → AreCppcParts entries M P.cpus
    → AreCppcParts entries M Q.cpus → P ≡ Q
one_plan entries M P Q distinct paths a b = same_plans P Q paths (one_parts entries M P.cpus Q.cpus distinct a b)
