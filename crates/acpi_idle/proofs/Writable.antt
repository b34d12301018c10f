-- What is written can be written.
use Rattle.std.proofs.Common.{◌<◌, ◌≤◌, ◌^◌, ℕ, List, [], ◌∷◌, map, length, arith}
use Rattle.std.specs.List.{AllByRecursion}
use Rattle.std.proofs.lemmas.List.{length-map}
use Rattle.aml_data.specs.Written.{IsWritable}
use Rattle.aml_data.specs.declared.data.Data.TheVariants.{Int, Text}
use Rattle.aml_data.specs.declared.data.Width.{Width}
use Rattle.acpi_values.specs.declared.dependency.CDependency.{CDependency}
use Rattle.acpi_values.specs.declared.idle.CState.{CState}
use Rattle.acpi_values.specs.declared.lpi.EntryMethod.{EntryMethod}
use Rattle.acpi_values.specs.declared.lpi.EntryMethod.TheVariants as entry
use Rattle.acpi_values.specs.declared.lpi.Lpi.{Lpi}
use Rattle.acpi_values.specs.declared.lpi.LpiState.{LpiState}
use Rattle.acpi_fields.specs.Dependencies.{coord_number}
use Rattle.acpi_fields.specs.Writing.{register_object}
use Rattle.acpi_fields.proofs.Writable.{IsBounded, all_mapped, bounded_32, bounded_coord, bounded_package, bounded_register, bounded_rows}
use Rattle.acpi_fields.proofs.Writable.{bounded_small, bounded_text, bounded_width, bounded_writable, wider}
use Rattle.acpi_idle.specs.Written.{IsCDependency, IsCState, IsEntryMethod, IsLpi, IsLpiState, IsName, csd_object, csd_row_object, cst_object}
use Rattle.acpi_idle.specs.Written.{cst_row_object, entry_object, lpi_object, lpi_row_object}
use Rattle.pw_base.proofs.Facts.{both}

-- # C states

-- a number, in a row whose elements have at most 33 bytes
pub wide_32 : (n : ℕ) → n < 2 ^ 32 → IsBounded 0 33 (Int n)
wide_32 n lt = wider 0 9 33 (Int n) (omega arith) (bounded_32 n lt)

cst_row_bounded : (s : CState) → IsCState s → IsBounded 1 138 (cst_row_object s)
cst_row_bounded s r =
    let kind : s.kind < 2 ^ 32 = omega (arith, r.shallow) in
    bounded_package 0 33 4 (register_object s.register ∷ Int s.kind ∷ Int s.latency ∷ Int s.power ∷ []) (omega arith) (omega arith)
    (bounded_register s.register, (wide_32 s.kind kind, (wide_32 s.latency r.latency, (wide_32 s.power r.power, tt))))

-- a small number, beside rows
leading : (most n : ℕ) → 9 ≤ most → n < 256 → IsBounded 1 most (Int n)
leading most n le lt =
    let h = wider 0 9 most (Int n) le (bounded_small n lt) in
    record { within = λ depth low. h.within depth (omega arith); short = h.short }

pub cst_writable : (states : List CState) → length states ≤ 250 → AllByRecursion IsCState states → IsWritable (cst_object states)
cst_writable states few all =
    let rows = map cst_row_object states in
    let many : length rows ≤ 250 = omega (arith, length-map states cst_row_object, few) in
    bounded_writable 2 34644 (cst_object states) (omega arith) (omega arith)
    (bounded_package 1 138 251 (Int (length states) ∷ rows) (omega arith) (omega (arith, many))
    (leading 138 (length states) (omega arith) (omega (arith, few)), all_mapped IsCState (IsBounded 1 138) cst_row_object cst_row_bounded states all))

csd_row_bounded : (d : CDependency) → IsCDependency d → IsBounded 1 60 (csd_row_object d)
csd_row_bounded d r =
    bounded_package 0 9 6 (Int 6 ∷ Int 0 ∷ Int d.domain ∷ Int (coord_number d.coord) ∷ Int d.processors ∷ Int d.index ∷ []) (omega arith) (omega arith) (
      bounded_small 6 (omega arith),
      (
        bounded_small 0 (omega arith),
        (
          bounded_32 d.domain r.domain,
          (bounded_coord d.coord, (bounded_32 d.processors r.processors, (bounded_32 d.index r.index, tt))),
        ),
      ),
    )

pub csd_writable : (entries : List CDependency) → length entries ≤ 250 → AllByRecursion IsCDependency entries → IsWritable (csd_object entries)
csd_writable entries few all =
    bounded_writable 2 15006 (csd_object entries) (omega arith) (omega arith) (bounded_rows IsCDependency csd_row_object 1 60 250 csd_row_bounded (omega arith) entries few all)

-- # Low power idle states

-- a number, in a row whose elements have at most 65537 bytes
long_32 : (n : ℕ) → n < 2 ^ 32 → IsBounded 0 65537 (Int n)
long_32 n lt = wider 0 9 65537 (Int n) (omega arith) (bounded_32 n lt)

entry_bounded : (width : Width) (e : EntryMethod) → IsEntryMethod width e → IsBounded 0 65537 (entry_object e)
entry_bounded width (entry.Register r) lt = wider 0 33 65537 (register_object r) (omega arith) (bounded_register r)
entry_bounded width (entry.Integer n) fits = wider 0 9 65537 (Int n) (omega arith) (bounded_width width n fits)

-- a state whose name can be written
abbrev IsNamed : Width → LpiState → Type 0
IsNamed width s = IsLpiState width s × IsName s.name

lpi_row_bounded : (width : Width) (s : LpiState) → IsNamed width s → IsBounded 1 655376 (lpi_row_object s)
lpi_row_bounded width s h =
    let r = h.0 in
    let name = h.1 in
    bounded_package 0 65537 10
    (Int s.min_residency ∷ Int s.wake_latency ∷ Int s.flags ∷ Int s.lost ∷ Int s.frequency ∷ Int s.parent
    ∷ entry_object s.entry ∷ register_object s.residency ∷ register_object s.usage ∷ Text s.name ∷ []) (omega arith) (omega arith) (
      long_32 s.min_residency r.min_residency,
      (
        long_32 s.wake_latency r.wake_latency,
        (
          long_32 s.flags r.flags,
          (
            long_32 s.lost r.lost,
            (
              long_32 s.frequency r.frequency,
              (
                long_32 s.parent r.parent,
                (
                  entry_bounded width s.entry r.entry,
                  (
                    wider 0 33 65537 (register_object s.residency) (omega arith) (bounded_register s.residency),
                    (
                      wider 0 33 65537 (register_object s.usage) (omega arith) (bounded_register s.usage),
                      (bounded_text s.name 65535 name.ascii (omega (arith, name.short)), tt),
                    ),
                  ),
                ),
              ),
            ),
          ),
        ),
      ),
    )

pub lpi_writable : (width : Width) (lpi : Lpi) → length lpi.states ≤ 250 → IsLpi width lpi → AllByRecursion (λ s. IsName s.name) lpi.states → IsWritable (lpi_object lpi)
lpi_writable width lpi few r names =
    let rows = map lpi_row_object lpi.states in
    let many : length rows ≤ 250 = omega (arith, length-map lpi.states lpi_row_object, few) in
    let level = wider 0 9 655376 (Int lpi.level) (omega arith) (bounded_width width lpi.level r.level) in
    bounded_writable 2 165810134 (lpi_object lpi) (omega arith) (omega arith)
    (bounded_package 1 655376 253 (Int 0 ∷ Int lpi.level ∷ Int (length lpi.states) ∷ rows) (omega arith) (omega (arith, many)) (
      leading 655376 0 (omega arith) (omega arith),
      (
        record { within = λ depth low. level.within depth (omega arith); short = level.short },
        (
          leading 655376 (length lpi.states) (omega arith) (omega (arith, few)),
          all_mapped (IsNamed width) (IsBounded 1 655376) lpi_row_object (lpi_row_bounded width) lpi.states (both (IsLpiState width) (λ s. IsName s.name) lpi.states r.states names),
        ),
      ),
    ))
