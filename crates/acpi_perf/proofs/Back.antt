-- What is written is read.
use Rattle.std.proofs.Common.{◌≡◌, ◌<◌, ◌^◌, ℕ, List, [], map, Ok, refl, arith}
use Rattle.std.specs.List.{AllByRecursion}
use Rattle.aml_data.specs.declared.data.Width.{Width}
use Rattle.acpi_values.specs.declared.dependency.Dependency.{Dependency}
use Rattle.acpi_values.specs.declared.performance.ControlPair.{ControlPair}
use Rattle.acpi_values.specs.declared.performance.PState.{PState}
use Rattle.acpi_values.specs.declared.performance.TState.{TState}
use Rattle.acpi_fields.specs.Reading.{place}
use Rattle.acpi_fields.proofs.Fields.{back_32, elements_back, register_back, rows_back}
use Rattle.acpi_fields.proofs.DependencyBack.{dependency_back}
use Rattle.acpi_perf.specs.Objects.{control_of, domain_of}
use Rattle.acpi_perf.specs.Scales.{pss_of, pss_row, tss_of, tss_row}
use Rattle.acpi_perf.specs.Written.{IsDependency, IsPState, IsTState, control_object, domain_object, pss_object, pss_row_object, tss_object, tss_row_object}

pss_row_back : (width : Width) (k : ℕ) (s : PState) → IsPState s → pss_row width k (pss_row_object s) ≡ Ok s
pss_row_back width k s r =
    rw (
      elements_back (place k 0) _,
      back_32 width (place k 1) s.frequency r.frequency,
      back_32 width (place k 2) s.power r.power,
      back_32 width (place k 3) s.latency r.latency,
      back_32 width (place k 4) s.bus_latency r.bus_latency,
      back_32 width (place k 5) s.control r.control,
      back_32 width (place k 6) s.status r.status,
    ) refl

pub pss_back : (width : Width) (states : List PState) → AllByRecursion IsPState states → pss_of width (pss_object states) ≡ Ok states
unfolding pss_of
pss_back width states all = rw (elements_back (place 0 0) (map pss_row_object states)) (rows_back IsPState (pss_row width) pss_row_object (pss_row_back width) 1 states all)

tss_row_back : (width : Width) (k : ℕ) (s : TState) → IsTState s → tss_row width k (tss_row_object s) ≡ Ok s
tss_row_back width k s r =
    rw (
      elements_back (place k 0) _,
      back_32 width (place k 1) s.percent r.percent,
      back_32 width (place k 2) s.power r.power,
      back_32 width (place k 3) s.latency r.latency,
      back_32 width (place k 4) s.control r.control,
      back_32 width (place k 5) s.status r.status,
    ) refl

pub tss_back : (width : Width) (states : List TState) → AllByRecursion IsTState states → tss_of width (tss_object states) ≡ Ok states
unfolding tss_of
tss_back width states all = rw (elements_back (place 0 0) (map tss_row_object states)) (rows_back IsTState (tss_row width) tss_row_object (tss_row_back width) 1 states all)

pub control_back : (pair : ControlPair) → pair.control.address < 2 ^ 64 → pair.status.address < 2 ^ 64 → control_of (control_object pair) ≡ Ok pair
unfolding control_of
control_back pair control status =
    rw (elements_back (place 0 0) _, register_back (place 1 0) pair.control control, register_back (place 2 0) pair.status status) refl

pub domain_back : (width : Width) (d : Dependency) → IsDependency d → domain_of width (domain_object d) ≡ Ok d
unfolding domain_of
domain_back width d r =
    rw (elements_back (place 0 0) _, elements_back (place 1 0) _, dependency_back width 5 1 d [] (omega arith) r.domain r.processors) refl
