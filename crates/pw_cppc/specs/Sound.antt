-- When lists are the plan of processors that are steered by desired performance, and what then holds of them.
use Rattle.std.specs.Prelude.{◌≡◌, ◌≢◌, ◌<◌, ◌≤◌, ℕ, Bool, true, List, [], map, length, slice_index_or, is_some, Option, All}
use Rattle.std.specs.List.{position, position_or_len, range_with_len}
use Rattle.acpi_values.specs.declared.dependency.Coord.TheVariants.{HwAll}
use Rattle.aml_data.specs.declared.path.FullPath.{FullPath}
use Rattle.pw_plan.specs.Groups.{has_member}
use Rattle.pw_cppc.specs.declared.parts.Control.TheVariants as controls
use Rattle.pw_cppc.specs.declared.parts.CppcParts.{CppcParts}
use Rattle.pw_cppc.specs.declared.plan.CppcDomain.{CppcDomain}
use Rattle.pw_cppc.specs.Parts.{parts_in, has_cpc, is_ranged, register_of}
use Rattle.pw_cppc.specs.Domains.{domains_of, same_range}

unfoldable pub no_path : FullPath
no_path = record { segs = [] }

abbrev pub path_in : List FullPath → ℕ → FullPath
path_in paths p = slice_index_or paths p no_path

-- no two of the paths are the same
abbrev pub PathsDiffer : List FullPath → Type 0
PathsDiffer paths = (p q : ℕ) → p < q → q < length paths → path_in paths p ≢ path_in paths q

unfoldable pub no_domain : CppcDomain
no_domain = record { coord = HwAll; members = []; unfit = 0 }

abbrev pub domain_in : List CppcDomain → ℕ → CppcDomain
domain_in ds k = slice_index_or ds k no_domain

-- whether the domain has processor p
abbrev pub covers : ℕ → CppcDomain → Bool
covers p d = has_member d.members p

-- the place of each processor's domain, where it has one
abbrev pub places_of : List CppcDomain → ℕ → List (Option ℕ)
places_of ds count = map (λ p. position (covers p) ds) (range_with_len 0 count)

-- It is the plan of these processors: a path of its own for each, at most 256 of them, their domains, and where each stands.
pub record IsPlanOf (paths : List FullPath) (ps : List CppcParts) (ds : List CppcDomain) (places : List (Option ℕ)) : Type 0 where
  pub paths_are : length paths ≡ length ps
  pub paths_differ : PathsDiffer paths
  pub few : length ps ≤ 256
  pub domains_are : ds ≡ domains_of ps
  pub places_are : places ≡ places_of ds (length ps)

-- What holds of every plan, of its lists alone: members are processors and few, who has `_CPC` is in just one domain, and in a fit domain
-- all have the same range, and a register for desired performance.
pub record IsSound (ps : List CppcParts) (ds : List CppcDomain) : Type 0 where
  pub count : length ds ≤ 256
  pub members : All (λ (d : CppcDomain). All (λ p. p < length ps) d.members) ds
  pub sizes : All (λ (d : CppcDomain). length d.members ≤ 256) ds
  pub placed : (p : ℕ) → p < length ps → has_cpc ps p ≡ true → position_or_len (covers p) ds < length ds
  pub only : (d p : ℕ) → d < length ds → covers p (domain_in ds d) ≡ true → position_or_len (covers p) ds ≡ d
  pub ranged : All (λ (d : CppcDomain). (p : ℕ) → d.unfit ≡ 0 → has_member d.members p ≡ true → is_ranged (parts_in ps p) ≡ true) ds
  pub one_range : All (λ (d : CppcDomain). (p q : ℕ) → d.unfit ≡ 0 → has_member d.members p ≡ true → has_member d.members q ≡ true
      → same_range (parts_in ps p) (parts_in ps q) ≡ true) ds
  pub registered : All (λ (d : CppcDomain). (p : ℕ) → d.unfit ≡ 0 → has_member d.members p ≡ true
      → is_some (register_of controls.Desired (parts_in ps p)) ≡ true) ds
