-- What is written of a dependency is read.
use Rattle.std.proofs.Common.{◌≡◌, ◌<◌, ◌^◌, ◌==◌, ℕ, true, List, ◌∷◌, Ok, refl, arith}
use Rattle.std.proofs.lemmas.Bool.Decides.{nat_tests}
use Rattle.aml_data.specs.declared.data.Data.{Data}
use Rattle.aml_data.specs.declared.data.Data.TheVariants.{Int}
use Rattle.aml_data.specs.declared.data.Width.{Width}
use Rattle.acpi_values.specs.declared.dependency.Coord.{Coord}
use Rattle.acpi_values.specs.declared.dependency.Coord.TheVariants.{SwAll, SwAny, HwAll}
use Rattle.acpi_values.specs.declared.dependency.Dependency.{Dependency}
use Rattle.acpi_fields.specs.Dependencies.{coord_number, dependency_of}
use Rattle.acpi_fields.specs.Reading.{place}
use Rattle.acpi_fields.proofs.Fields.{back_32, back_small}

pub dependency_back : (width : Width) (count k : ℕ) (d : Dependency) (more : List Data) → count < 256 → d.domain < 2 ^ 32 → d.processors < 2 ^ 32
    → dependency_of width count k (Int count ∷ Int 0 ∷ Int d.domain ∷ Int (coord_number d.coord) ∷ Int d.processors ∷ more) ≡ Ok d
dependency_back width count k d more small domain processors = by d.coord
  where
    same : (count == count) ≡ true
    same = grind (arith, nat_tests)

    by : (c : Coord) → dependency_of width count k (Int count ∷ Int 0 ∷ Int d.domain ∷ Int (coord_number c) ∷ Int d.processors ∷ more) ≡ Ok (record d { coord = c })
    by SwAll =
        rw (
          back_small width (place k 1) count small,
          same,
          back_small width (place k 2) 0 (omega arith),
          back_32 width (place k 3) d.domain domain,
          back_small width (place k 4) 252 (omega arith),
          back_32 width (place k 5) d.processors processors,
        ) refl
    by SwAny =
        rw (
          back_small width (place k 1) count small,
          same,
          back_small width (place k 2) 0 (omega arith),
          back_32 width (place k 3) d.domain domain,
          back_small width (place k 4) 253 (omega arith),
          back_32 width (place k 5) d.processors processors,
        ) refl
    by HwAll =
        rw (
          back_small width (place k 1) count small,
          same,
          back_small width (place k 2) 0 (omega arith),
          back_32 width (place k 3) d.domain domain,
          back_small width (place k 4) 254 (omega arith),
          back_32 width (place k 5) d.processors processors,
        ) refl
