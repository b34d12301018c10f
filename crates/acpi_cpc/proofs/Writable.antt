-- What is written can be written.
use Rattle.std.proofs.Common.{◌+◌, ◌<◌, ◌≤◌, ℕ, ◌∷◌, map, length, arith}
use Rattle.std.specs.List.{AllByRecursion}
use Rattle.std.proofs.lemmas.List.{length-map}
use Rattle.aml_data.specs.Written.{IsWritable}
use Rattle.aml_data.specs.declared.data.Data.TheVariants.{Int}
use Rattle.aml_data.specs.declared.data.Width.{Width}
use Rattle.acpi_values.specs.declared.performance.Cpc.{Cpc}
use Rattle.acpi_values.specs.declared.performance.CpcEntry.{CpcEntry}
use Rattle.acpi_values.specs.declared.performance.CpcEntry.TheVariants.{Number, Register}
use Rattle.acpi_fields.proofs.Writable.{IsBounded, all_mapped, bounded_package, bounded_register, bounded_small, bounded_width, bounded_writable, wider}
use Rattle.acpi_cpc.specs.Written.{IsEntry, cpc_object, entry_object}

entry_bounded : (width : Width) (e : CpcEntry) → IsEntry width e → IsBounded 0 33 (entry_object e)
entry_bounded width (Number n) fits = wider 0 9 33 (Int n) (omega arith) (bounded_width width n fits)
entry_bounded width (Register r) lt = bounded_register r

small : (n : ℕ) → n < 256 → IsBounded 0 33 (Int n)
small n lt = wider 0 9 33 (Int n) (omega arith) (bounded_small n lt)

pub cpc_writable : (width : Width) (cpc : Cpc) → length cpc.entries ≤ 250 → cpc.revision < 256 → AllByRecursion (IsEntry width) cpc.entries → IsWritable (cpc_object cpc)
cpc_writable width cpc few revision all =
    let rows = map entry_object cpc.entries in
    let many : length rows ≤ 250 = omega (arith, length-map cpc.entries entry_object, few) in
    bounded_writable 1 8322 (cpc_object cpc) (omega arith) (omega arith)
    (bounded_package 0 33 252 (Int (length cpc.entries + 2) ∷ Int cpc.revision ∷ rows) (omega arith) (omega (arith, many))
    (small (length cpc.entries + 2) (omega (arith, few)), (small cpc.revision revision, all_mapped (IsEntry width) (IsBounded 0 33) entry_object (entry_bounded width) cpc.entries all)))
