-- What is written is read.
use Rattle.std.proofs.Common.{◌≡◌, ◌<◌, ◌≤◌, ◌-◌, ◌^◌, ℕ, true, List, [], ◌∷◌, map, length, Ok, refl, arith}
use Rattle.std.specs.Prelude.{◌&&◌, nat_le}
use Rattle.std.specs.List.{AllByRecursion}
use Rattle.std.proofs.lemmas.Bool.Decides.{nat_tests}
use Rattle.std.proofs.lemmas.List.{length-map}
use Rattle.aml_data.specs.declared.data.Data.TheVariants.{Int}
use Rattle.aml_data.specs.declared.data.Width.{Width}
use Rattle.acpi_values.specs.declared.dependency.CDependency.{CDependency}
use Rattle.acpi_values.specs.declared.fault.Place.{Place}
use Rattle.acpi_values.specs.declared.idle.CState.{CState}
use Rattle.acpi_values.specs.declared.lpi.EntryMethod.{EntryMethod}
use Rattle.acpi_values.specs.declared.lpi.EntryMethod.TheVariants as entry
use Rattle.acpi_values.specs.declared.lpi.Lpi.{Lpi}
use Rattle.acpi_values.specs.declared.lpi.LpiState.{LpiState}
use Rattle.acpi_values.specs.declared.register.Register.{Register}
use Rattle.acpi_fields.specs.Reading.{place}
use Rattle.acpi_fields.specs.Writing.{register_object}
use Rattle.acpi_fields.proofs.Fields.{back_32, back_64, back_small, count_back, elements_back, meaning_back, register_back, register_meaning, rows_back, text_back, whole_back}
use Rattle.acpi_fields.proofs.DependencyBack.{dependency_back}
use Rattle.acpi_idle.specs.CStates.{csd_of, csd_row, cst_of, cst_row, kind_in}
use Rattle.acpi_idle.specs.Lpis.{counter_at, entry_at, lpi_of, lpi_row}
use Rattle.acpi_idle.specs.Written.{IsCDependency, IsCState, IsEntryMethod, IsLpi, IsLpiState, csd_object, csd_row_object, cst_object, cst_row_object, entry_object, lpi_object, lpi_row_object}

-- # C states

pub kind_back : (at : Place) (n : ℕ) → 1 ≤ n → n ≤ 3 → kind_in at n ≡ Ok n
kind_back at n low high =
    let known : (nat_le 1 n && nat_le n 3) ≡ true = grind (arith, nat_tests) in
    rw known refl

cst_row_back : (width : Width) (k : ℕ) (s : CState) → IsCState s → cst_row width k (cst_row_object s) ≡ Ok s
cst_row_back width k s r =
    let small : s.kind < 256 = omega (arith, r.shallow) in
    rw (
      elements_back (place k 0) _,
      register_back (place k 1) s.register r.address,
      back_small width (place k 2) s.kind small,
      kind_back (place k 2) s.kind r.known r.shallow,
      back_32 width (place k 3) s.latency r.latency,
      back_32 width (place k 4) s.power r.power,
    ) refl

pub cst_back : (width : Width) (states : List CState) → length states < 256 → AllByRecursion IsCState states → cst_of width (cst_object states) ≡ Ok states
unfolding cst_of
cst_back width states small all =
    let many : length (map cst_row_object states) ≡ length states = length-map states cst_row_object in
    let behind : length (Int (length states) ∷ map cst_row_object states) - 1 ≡ length states = omega (arith, many) in
    rw (whole_back 1 (Int (length states) ∷ map cst_row_object states) (omega arith), behind, count_back width 1 (length states) small)
    (rows_back IsCState (cst_row width) cst_row_object (cst_row_back width) 2 states all)

csd_row_back : (width : Width) (k : ℕ) (d : CDependency) → IsCDependency d → csd_row width k (csd_row_object d) ≡ Ok d
csd_row_back width k d r =
    rw (
      elements_back (place k 0) _,
      dependency_back width 6 k (record { domain = d.domain; coord = d.coord; processors = d.processors }) (Int d.index ∷ []) (omega arith) r.domain r.processors,
      back_32 width (place k 6) d.index r.index,
    ) refl

pub csd_back : (width : Width) (entries : List CDependency) → AllByRecursion IsCDependency entries → csd_of width (csd_object entries) ≡ Ok entries
unfolding csd_of
csd_back width entries all = rw (elements_back (place 0 0) (map csd_row_object entries)) (rows_back IsCDependency (csd_row width) csd_row_object (csd_row_back width) 1 entries all)

-- # Low power idle states

entry_back : (width : Width) (at : Place) (e : EntryMethod) → IsEntryMethod width e → entry_at width at (entry_object e) ≡ Ok e
entry_back width at (entry.Register r) lt = rw (register_meaning width r, register_back at r lt) refl
entry_back width at (entry.Integer n) fits = rw (meaning_back width n fits) refl

counter_back : (width : Width) (at : Place) (r : Register) → r.address < 2 ^ 64 → counter_at width at (register_object r) ≡ Ok r
counter_back width at r lt = rw (register_meaning width r) (register_back at r lt)

lpi_row_back : (width : Width) (k : ℕ) (s : LpiState) → IsLpiState width s → lpi_row width k (lpi_row_object s) ≡ Ok s
lpi_row_back width k s r =
    rw (
      elements_back (place k 0) _,
      back_32 width (place k 1) s.min_residency r.min_residency,
      back_32 width (place k 2) s.wake_latency r.wake_latency,
      back_32 width (place k 3) s.flags r.flags,
      back_32 width (place k 4) s.lost r.lost,
      back_32 width (place k 5) s.frequency r.frequency,
      back_32 width (place k 6) s.parent r.parent,
      entry_back width (place k 7) s.entry r.entry,
      counter_back width (place k 8) s.residency r.residency,
      counter_back width (place k 9) s.usage r.usage,
      text_back (place k 10) s.name,
    ) refl

pub lpi_back : (width : Width) (lpi : Lpi) → length lpi.states < 256 → IsLpi width lpi → lpi_of width (lpi_object lpi) ≡ Ok lpi
unfolding lpi_of
lpi_back width lpi small r =
    let rows = map lpi_row_object lpi.states in
    let many : length rows ≡ length lpi.states = length-map lpi.states lpi_row_object in
    let behind : length (Int 0 ∷ Int lpi.level ∷ Int (length lpi.states) ∷ rows) - 3 ≡ length lpi.states = omega (arith, many) in
    rw (
      whole_back 3 (Int 0 ∷ Int lpi.level ∷ Int (length lpi.states) ∷ rows) (omega arith),
      behind,
      back_small width (place 1 0) 0 (omega arith),
      back_64 width (place 2 0) lpi.level r.level,
      count_back width 3 (length lpi.states) small,
      rows_back (IsLpiState width) (lpi_row width) lpi_row_object (lpi_row_back width) 4 lpi.states r.states,
    ) refl
