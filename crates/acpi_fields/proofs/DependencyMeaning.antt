-- What is read of a dependency is what its fields mean, and the other way round.
use Rattle.std.proofs.Common.{◌≡◌, ◌^◌, ℕ, List, Ok, refl, subst, arith}
use Rattle.std.proofs.lemmas.Bool.Decides.{nat_tests}
use Rattle.aml_data.specs.declared.data.Data.{Data}
use Rattle.aml_data.specs.declared.data.Width.{Width}
use Rattle.acpi_values.specs.declared.dependency.Coord.{Coord}
use Rattle.acpi_values.specs.declared.dependency.Coord.TheVariants.{SwAll, SwAny, HwAll}
use Rattle.acpi_values.specs.declared.dependency.Dependency.{Dependency}
use Rattle.acpi_values.specs.declared.fault.Place.{Place}
use Rattle.acpi_values.specs.declared.fault.Why.TheVariants.{Count, Revision}
use Rattle.acpi_fields.specs.Dependencies.{coord_in, coord_number, coord_of, dependency_of}
use Rattle.acpi_fields.specs.Meaning.{DependencyMeans, IsNumber}
use Rattle.acpi_fields.specs.Reading.{field, fixed_of, most_32, most_64, number_of, place}
use Rattle.acpi_fields.proofs.Inversion.{bound, fixed_means, fixed_read, means_32, means_64, ok_same, read_32, read_64}

coord_in_means : (at : Place) (n : ℕ) (c : Coord) → coord_in at n ≡ Ok c → n ≡ coord_number c
coord_in_means at n SwAll e = grind (arith, nat_tests)
coord_in_means at n SwAny e = grind (arith, nat_tests)
coord_in_means at n HwAll e = grind (arith, nat_tests)

coord_in_read : (at : Place) (c : Coord) → coord_in at (coord_number c) ≡ Ok c
coord_in_read at SwAll = refl
coord_in_read at SwAny = refl
coord_in_read at HwAll = refl

coord_means : (width : Width) (k i : ℕ) (fields : List Data) (c : Coord) → coord_of width k i fields ≡ Ok c → IsNumber width (2 ^ 64) (field fields i) (coord_number c)
coord_means width k i fields c e =
    let b = bound (number_of width most_64 k i fields) _ c e in
    subst (λ n. IsNumber width (2 ^ 64) (field fields i) n) (coord_in_means (place k i) b.first c b.rest) (means_64 width (place k i) (field fields i) b.first b.is)

coord_read : (width : Width) (k i : ℕ) (fields : List Data) (c : Coord) → IsNumber width (2 ^ 64) (field fields i) (coord_number c) → coord_of width k i fields ≡ Ok c
coord_read width k i fields c h = rw (read_64 width (place k i) (field fields i) (coord_number c) h) (coord_in_read (place k i) c)

pub dependency_means : (width : Width) (count k : ℕ) (fields : List Data) (d : Dependency) → dependency_of width count k fields ≡ Ok d → DependencyMeans width count fields d
dependency_means width count k fields d e =
    let entries = bound (fixed_of width count Count k 1 fields) _ d e in
    let revision = bound (fixed_of width 0 Revision k 2 fields) _ d entries.rest in
    let domain = bound (number_of width most_32 k 3 fields) _ d revision.rest in
    let coord = bound (coord_of width k 4 fields) _ d domain.rest in
    let processors = bound (number_of width most_32 k 5 fields) _ d coord.rest in
    subst (λ x. DependencyMeans width count fields x) (ok_same _ d processors.rest)
    (record {
      entries = fixed_means width count Count k 1 fields entries.first entries.is;
      revision = fixed_means width 0 Revision k 2 fields revision.first revision.is;
      domain = means_32 width (place k 3) (field fields 3) domain.first domain.is;
      coord = coord_means width k 4 fields coord.first coord.is;
      processors = means_32 width (place k 5) (field fields 5) processors.first processors.is;
    })

pub dependency_read : (width : Width) (count k : ℕ) (fields : List Data) (d : Dependency) → DependencyMeans width count fields d → dependency_of width count k fields ≡ Ok d
dependency_read width count k fields d h =
    rw (
      fixed_read width count Count k 1 fields h.entries,
      fixed_read width 0 Revision k 2 fields h.revision,
      read_32 width (place k 3) (field fields 3) d.domain h.domain,
      coord_read width k 4 fields d.coord h.coord,
      read_32 width (place k 5) (field fields 5) d.processors h.processors,
    ) refl
