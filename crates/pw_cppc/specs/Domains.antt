-- Domains of processors that are steered by desired performance (ACPI 6.5, 8.3 and 8.4.6.1).
use Rattle.std.specs.Prelude.{◌≡◌, ◌==◌, ◌&&◌, ◌||◌, ◌<◌, not, ℕ, Bool, true, false, List, map, filter, length, unwrap_or, is_some, Option, Some, None, if◌then◌else◌, All, Any, AllPairs}
use Rattle.std.specs.List.{list_all, range_with_len}
use Rattle.std.specs.List.Sorted.{IsStrictlyIncreasing}
use Rattle.acpi_values.specs.declared.dependency.Dependency.{Dependency}
use Rattle.pw_plan.specs.Domains.{alone, same_coord}
use Rattle.pw_plan.specs.Groups.{first_of, has_member}
use Rattle.pw_cppc.specs.declared.parts.Control.TheVariants as controls
use Rattle.pw_cppc.specs.declared.parts.CppcParts.{CppcParts}
use Rattle.pw_cppc.specs.declared.plan.CppcDomain.{CppcDomain}
use Rattle.pw_cppc.specs.Parts.{parts_in, has_cpc, highest_of, lowest_of, is_ranged, register_of}

-- # Who is together

-- whether both are declared, of the same domain
abbrev pub same_domain : Option Dependency → Option Dependency → Bool
same_domain None e = false
same_domain (Some d) None = false
same_domain (Some d) (Some e) = d.domain == e.domain

-- whether two processors are in one domain: both have `_CPC`, and they are the same one, or `_PSD` of both names the same domain
abbrev pub together : List CppcParts → ℕ → ℕ → Bool
together ps p q = has_cpc ps p && has_cpc ps q && ((p == q) || same_domain (parts_in ps p).dependency (parts_in ps q).dependency)

-- what a processor shows as a member: who declares nothing is alone in a domain of SW_ALL
abbrev pub shown : List CppcParts → ℕ → Dependency
shown ps p = unwrap_or (parts_in ps p).dependency alone

-- # Whether the members agree

-- the first of six reasons that holds, 0 for none
abbrev pub unfit_by : Bool → Bool → Bool → Bool → Bool → Bool → ℕ
unfit_by one_coord one_number right_number ranged one_range registers =
    if not one_coord then 1 else
    if not one_number then 2 else
    if not right_number then 3 else
    if not ranged then 4 else
    if not one_range then 5 else
    if not registers then 6 else 0

-- whether two processors have the same lowest and the same highest performance
abbrev pub same_range : CppcParts → CppcParts → Bool
same_range a b = (lowest_of a == lowest_of b) && (highest_of a == highest_of b)

-- why the members, the first of which leads, can't be coordinated: they show different coordination types; they declare different
-- numbers of processors; that isn't how many they are; the lowest or the highest performance of one is no integer, or its lowest is
-- above its highest; these differ; one has no register for desired performance
abbrev pub why_unfit : List CppcParts → ℕ → List ℕ → ℕ
why_unfit ps first members = unfit_by
    (list_all (λ p. same_coord (shown ps p).coord (shown ps first).coord) members)
    (list_all (λ p. (shown ps p).processors == (shown ps first).processors) members)
    ((shown ps first).processors == length members)
    (list_all (λ p. is_ranged (parts_in ps p)) members)
    (list_all (λ p. same_range (parts_in ps p) (parts_in ps first)) members)
    (list_all (λ p. is_some (register_of controls.Desired (parts_in ps p))) members)

-- # The domains

-- the processors that are together with p, in order
abbrev pub members_of : List CppcParts → ℕ → List ℕ
members_of ps p = filter (together ps p) (range_with_len 0 (length ps))

-- the domain whose first member is processor p
abbrev pub domain_led_by : List CppcParts → ℕ → CppcDomain
domain_led_by ps p = record { coord = (shown ps p).coord; members = members_of ps p; unfit = why_unfit ps p (members_of ps p) }

-- whether processor p has `_CPC`, and no processor before it is together with it
abbrev pub leads : List CppcParts → ℕ → Bool
leads ps p = has_cpc ps p && list_all (λ q. not (together ps q p)) (range_with_len 0 p)

-- The domains, in the order of their first members.
unfoldable pub domains_of : List CppcParts → List CppcDomain
domains_of ps = map (domain_led_by ps) (filter (leads ps) (range_with_len 0 (length ps)))

-- # What they are, said of each

-- A domain: its members are processors with `_CPC`, just those that are together with its first one, and they rise; its coordination
-- type is the one that its first member shows.
pub record IsDomain (ps : List CppcParts) (d : CppcDomain) : Type 0 where
  pub some : 0 < length d.members
  pub exist : All (λ p. (p < length ps) × (has_cpc ps p ≡ true)) d.members
  pub rising : IsStrictlyIncreasing d.members
  pub joined : (p : ℕ) → p < length ps → has_member d.members p ≡ together ps (first_of d.members) p
  pub coord : d.coord ≡ (shown ps (first_of d.members)).coord
  pub unfit : d.unfit ≡ why_unfit ps (first_of d.members) d.members

-- The domains of these processors: each processor with `_CPC` is in one, and they stand in the order of their first members, so
-- that none is there twice.
pub record AreDomains (ps : List CppcParts) (ds : List CppcDomain) : Type 0 where
  pub each : All (IsDomain ps) ds
  pub placed : (p : ℕ) → p < length ps → has_cpc ps p ≡ true → Any (λ (d : CppcDomain). has_member d.members p ≡ true) ds
  pub order : AllPairs (λ (d e : CppcDomain). first_of d.members < first_of e.members) ds
