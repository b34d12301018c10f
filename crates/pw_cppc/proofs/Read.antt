-- The processors of a plan stand among the objects, and what is read of `_PSD` is what it means.
use Rattle.std.proofs.Common.{◌≡◌, ℕ, suc, ◌<◌, List, [], ◌∷◌, ◌++◌, length, get_or, Option, Some, None, refl, sym, ap, subst, ◌∙◌, arith}
use Rattle.std.specs.Prelude.{All, Contains, codes}
use Rattle.std.specs.List.{AllZip}
use Rattle.std.proofs.lemmas.List.{get_or_default}
use Rattle.std.proofs.lemmas.List.Elements.{All-cons, All-nil, Contains-get_or}
use Rattle.aml_data.specs.declared.data.Data.{Data}
use Rattle.aml_data.specs.declared.data.Width.{Width}
use Rattle.acpi_values.specs.declared.dependency.Dependency.{Dependency}
use Rattle.acpi_perf.specs.Meaning.{DomainMeans}
use Rattle.acpi_perf.proofs.Meant.{domain_read}
use Rattle.acpi_space.specs.declared.object.Placed.{Placed}
use Rattle.acpi_space.specs.Distinct.{IsDistinct}
use Rattle.acpi_space.specs.Lookup.{entry_in, no_entry, number_at}
use Rattle.acpi_space.specs.Namespace.{Entry, places_of}
use Rattle.acpi_space.specs.Places.{Place}
use Rattle.acpi_space.specs.Standing.{entry_from, IsFound}
use Rattle.acpi_space.specs.Things.{Thing, thing}
use Rattle.acpi_space.specs.Things.Thing.{data_object, device, processor, method, alias_of}
use Rattle.acpi_space.proofs.Lookups.{count_places, numbered, path_at}
use Rattle.acpi_space.proofs.Trees.{same_some}
use Rattle.acpi_build.specs.Finding.{processors_of}
use Rattle.acpi_build.specs.Sources.{GivenAt, IsCpuOf, IsTable, is_absent, is_given}
use Rattle.acpi_build.proofs.Parents.{processors_within}
use Rattle.pw_plan.specs.declared.parts.CpuParts.{CpuParts}
use Rattle.pw_cppc.specs.Machine.{dependency_place}
use Rattle.pw_cppc.specs.inner.Reading.{IsRead, dependency_in}

-- # What stands at a place

-- a data object that stands at a place is the one that was found there
given_there : (entries : List Entry) (place : Place) (p : Placed) (d : Data) (width : Width) → IsDistinct (places_of entries) → IsFound entries place p → GivenAt entries place d width
    → (thing p.object ≡ data_object d) × (p.width ≡ width)
given_there entries place p d width distinct found (j, x, l, is, (path, object, sized)) =
    let mine : entry_in entries p.index ≡ entry_from place p = found.1 no_entry in
    let other : entry_in entries j ≡ x = get_or_default entries j no_entry x l ∙ is in
    let first : number_at entries place ≡ Some p.index = numbered entries p.index place distinct found.0 (ap (λ (e : Entry). e.path) mine) in
    let second : number_at entries place ≡ Some j = numbered entries j place distinct l (ap (λ (e : Entry). e.path) other ∙ path) in
    let one : p.index ≡ j = same_some (sym first ∙ second) in
    let same : entry_from place p ≡ x = sym mine ∙ ap (entry_in entries) one ∙ other in
    (ap (λ (e : Entry). e.object) same ∙ object, ap (λ (e : Entry). e.width) same ∙ sized)

-- what `_PSD` means is what is read of what was found there
read_there : (entries : List Entry) (place : Place) (p : Placed) (o : Option Dependency) → IsDistinct (places_of entries) → IsFound entries place p → IsTable DomainMeans entries place o
    → o ≡ dependency_in p.width (thing p.object)
read_there entries place p (Some y) distinct found (is_given d width x given means) =
    let there = given_there entries place p d width distinct found given in
    rw (there.0, there.1, domain_read width d x means) refl
read_there entries place p None distinct found (is_absent none) = by (thing p.object) refl
  where
    by : (t : Thing) → thing p.object ≡ t → None ≡ dependency_in p.width t
    by (data_object d) e = absurd (none d p.width (p.index, entry_from place p, found.0, found.1 (entry_from place p), (refl, e, refl)))
    by device e = refl
    by processor e = refl
    by method e = refl
    by (alias_of name) e = refl

-- the place of an object is one of the places
placed_among : (entries : List Entry) (k : ℕ) (place : Place) → k < length entries → (entry_in entries k).path ≡ place → Contains (places_of entries) place
placed_among entries k place l is =
    let many = count_places entries in
    subst (Contains (places_of entries)) (path_at entries k [] l ∙ is) (Contains-get_or (places_of entries) k [] (omega (arith, many, l)))

-- where nothing stands, no data object does
absent_there : (entries : List Entry) (place : Place) → (Contains (places_of entries) place → ⊥) → IsTable DomainMeans entries place None
absent_there entries place none = is_absent (λ d width given.
    let (j, x, l, is, (path, _, _)) = given in
    none (placed_among entries j place l (ap (λ (e : Entry). e.path) (get_or_default entries j no_entry x l ∙ is) ∙ path)))

-- # The processors of a plan

-- the place of `_PSD` below a processor that was found
place_below : (entries : List Entry) (c : CpuParts) (p : Placed) (s : List ℕ) → IsFound entries c.path.segs p → s ≡ codes "_PSD"
    → (get_or entries p.index no_entry).path ++ s ∷ [] ≡ dependency_place c
place_below entries c p s found is = ap (λ (e : Entry). e.path ++ s ∷ []) (found.1 no_entry) ∙ ap (λ segment. c.path.segs ++ segment ∷ []) is

-- nothing stands there
pub absent_below : (entries : List Entry) (c : CpuParts) (p : Placed) (s : List ℕ) → IsFound entries c.path.segs p → s ≡ codes "_PSD"
    → ((d : Entry) → Contains (places_of entries) ((get_or entries p.index d).path ++ s ∷ []) → ⊥) → IsTable DomainMeans entries (dependency_place c) None
absent_below entries c p s found is none =
    absent_there entries (dependency_place c) (λ among. none no_entry (subst (Contains (places_of entries)) (sym (place_below entries c p s found is)) among))

-- something stands there
pub read_below : (entries : List Entry) (c : CpuParts) (p q : Placed) (s : List ℕ) → IsDistinct (places_of entries) → IsRead entries c → IsFound entries c.path.segs p → s ≡ codes "_PSD"
    → ((d : Entry) → IsFound entries ((get_or entries p.index d).path ++ s ∷ []) q) → IsTable DomainMeans entries (dependency_place c) (dependency_in q.width (thing q.object))
read_below entries c p q s distinct known found is below =
    let there : IsFound entries (dependency_place c) q = subst (λ place. IsFound entries place q) (place_below entries c p s found is) (below no_entry) in
    subst (IsTable DomainMeans entries (dependency_place c)) (read_there entries (dependency_place c) q known.dependency distinct there known.meant) known.meant

read_alone : (entries : List Entry) (k : ℕ) (c : CpuParts) → k < length entries → IsCpuOf entries k c → IsRead entries c
read_alone entries k c l is = record {
  among = placed_among entries k c.path.segs l (sym is.path);
  dependency = is.perf.dependency;
  meant = subst (λ path. IsTable DomainMeans entries (path ++ codes "_PSD" ∷ []) is.perf.dependency) (sym is.path) is.perf.dependency_is;
}

each_read : (entries : List Entry) (ks : List ℕ) (cs : List CpuParts) → All (λ k. k < length entries) ks → AllZip (IsCpuOf entries) ks cs → All (IsRead entries) cs
each_read entries [] [] within zip = All-nil (IsRead entries)
each_read entries [] (c ∷ cs) within zip = absurd zip
each_read entries (k ∷ ks) [] within zip = absurd zip
each_read entries (k ∷ ks) (c ∷ cs) within zip =
    All-cons (IsRead entries) c cs (read_alone entries k c (within 0 0 (omega arith)) zip.0) (each_read entries ks cs (λ i d l. within (suc i) d (omega (arith, l))) zip.1)

pub processors_read : (entries : List Entry) (cs : List CpuParts) → AllZip (IsCpuOf entries) (processors_of entries) cs → All (IsRead entries) cs
processors_read entries cs zip = each_read entries (processors_of entries) cs (processors_within entries) zip
