-- What is written can be written.
use Rattle.std.proofs.Common.{◌≤◌, List, [], ◌∷◌, length, arith}
use Rattle.std.specs.List.{AllByRecursion}
use Rattle.aml_data.specs.Written.{IsWritable}
use Rattle.aml_data.specs.declared.data.Data.TheVariants.{Int}
use Rattle.acpi_values.specs.declared.dependency.Dependency.{Dependency}
use Rattle.acpi_values.specs.declared.performance.ControlPair.{ControlPair}
use Rattle.acpi_values.specs.declared.performance.PState.{PState}
use Rattle.acpi_values.specs.declared.performance.TState.{TState}
use Rattle.acpi_fields.specs.Dependencies.{coord_number}
use Rattle.acpi_fields.specs.Writing.{package_object, register_object}
use Rattle.acpi_fields.proofs.Writable.{IsBounded, bounded_32, bounded_coord, bounded_package, bounded_register, bounded_rows, bounded_small, bounded_writable}
use Rattle.acpi_perf.specs.Written.{IsDependency, IsPState, IsTState, control_object, domain_object, pss_object, pss_row_object, tss_object, tss_row_object}

pub pss_row_bounded : (s : PState) → IsPState s → IsBounded 1 60 (pss_row_object s)
pss_row_bounded s r =
    bounded_package 0 9 6 (Int s.frequency ∷ Int s.power ∷ Int s.latency ∷ Int s.bus_latency ∷ Int s.control ∷ Int s.status ∷ []) (omega arith) (omega arith) (
      bounded_32 s.frequency r.frequency,
      (
        bounded_32 s.power r.power,
        (
          bounded_32 s.latency r.latency,
          (bounded_32 s.bus_latency r.bus_latency, (bounded_32 s.control r.control, (bounded_32 s.status r.status, tt))),
        ),
      ),
    )

pub pss_writable : (states : List PState) → length states ≤ 250 → AllByRecursion IsPState states → IsWritable (pss_object states)
pss_writable states few all =
    bounded_writable 2 15006 (pss_object states) (omega arith) (omega arith) (bounded_rows IsPState pss_row_object 1 60 250 pss_row_bounded (omega arith) states few all)

tss_row_bounded : (s : TState) → IsTState s → IsBounded 1 51 (tss_row_object s)
tss_row_bounded s r =
    bounded_package 0 9 5 (Int s.percent ∷ Int s.power ∷ Int s.latency ∷ Int s.control ∷ Int s.status ∷ []) (omega arith) (omega arith)
    (bounded_32 s.percent r.percent, (bounded_32 s.power r.power, (bounded_32 s.latency r.latency, (bounded_32 s.control r.control, (bounded_32 s.status r.status, tt)))))

pub tss_writable : (states : List TState) → length states ≤ 250 → AllByRecursion IsTState states → IsWritable (tss_object states)
tss_writable states few all =
    bounded_writable 2 12756 (tss_object states) (omega arith) (omega arith) (bounded_rows IsTState tss_row_object 1 51 250 tss_row_bounded (omega arith) states few all)

pub control_writable : (pair : ControlPair) → IsWritable (control_object pair)
control_writable pair =
    bounded_writable 1 72 (control_object pair) (omega arith) (omega arith)
    (bounded_package 0 33 2 (register_object pair.control ∷ register_object pair.status ∷ []) (omega arith) (omega arith)
    (bounded_register pair.control, (bounded_register pair.status, tt)))

pub domain_writable : (d : Dependency) → IsDependency d → IsWritable (domain_object d)
domain_writable d r =
    let fields = Int 5 ∷ Int 0 ∷ Int d.domain ∷ Int (coord_number d.coord) ∷ Int d.processors ∷ [] in
    let row = bounded_package 0 9 5 fields (omega arith) (omega arith)
    (bounded_small 5 (omega arith), (bounded_small 0 (omega arith), (bounded_32 d.domain r.domain, (bounded_coord d.coord, (bounded_32 d.processors r.processors, tt))))) in
    bounded_writable 2 57 (domain_object d) (omega arith) (omega arith)
    (bounded_package 1 51 1 (package_object fields ∷ []) (omega arith) (omega arith) (row, tt))
