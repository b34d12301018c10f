-- What is written is read.
use Rattle.std.proofs.Common.{◌≡◌, ◌<◌, ◌+◌, ◌==◌, ℕ, true, ◌∷◌, map, length, Ok, refl, arith}
use Rattle.std.proofs.lemmas.Bool.Decides.{nat_tests}
use Rattle.std.proofs.lemmas.List.{length-map}
use Rattle.aml_data.specs.declared.data.Data.TheVariants.{Int}
use Rattle.aml_data.specs.declared.data.Width.{Width}
use Rattle.acpi_values.specs.declared.performance.Cpc.{Cpc}
use Rattle.acpi_values.specs.declared.performance.CpcEntry.{CpcEntry}
use Rattle.acpi_values.specs.declared.performance.CpcEntry.TheVariants.{Number, Register}
use Rattle.acpi_fields.specs.Reading.{place}
use Rattle.acpi_fields.proofs.Fields.{back_small, meaning_back, register_back, register_meaning, rows_back, whole_back}
use Rattle.acpi_fields.proofs.Inversion.{counted_read}
use Rattle.acpi_cpc.specs.Cpcs.{cpc_of, element_count, entry_at, num_entries}
use Rattle.acpi_cpc.specs.Written.{IsCpc, IsEntry, cpc_object, entry_object}

entry_back : (width : Width) (k : ℕ) (e : CpcEntry) → IsEntry width e → entry_at width k (entry_object e) ≡ Ok e
entry_back width k (Number n) fits = rw (meaning_back width n fits) refl
entry_back width k (Register r) lt = rw (register_meaning width r, register_back (place k 0) r lt) refl

-- the count of a revision is small
count_small : (revision n : ℕ) → element_count revision ≡ Ok n → n < 256
count_small revision n e = grind (arith, nat_tests)

pub num_back : (n : ℕ) → num_entries n n ≡ Ok n
num_back n =
    let same : (n == n) ≡ true = grind (arith, nat_tests) in
    rw same refl

pub cpc_back : (width : Width) (cpc : Cpc) → IsCpc width cpc → cpc_of width (cpc_object cpc) ≡ Ok cpc
unfolding cpc_of
cpc_back width cpc r =
    let n = length cpc.entries + 2 in
    let elements = Int n ∷ Int cpc.revision ∷ map entry_object cpc.entries in
    let many : length (map entry_object cpc.entries) ≡ length cpc.entries = length-map cpc.entries entry_object in
    let long : length elements ≡ n = omega (arith, many) in
    rw (
      whole_back 2 elements (omega arith),
      back_small width (place 1 0) n (count_small cpc.revision n r.count),
      back_small width (place 2 0) cpc.revision r.revision,
      r.count,
      num_back n,
      counted_read (place 0 0) n elements long,
      rows_back (IsEntry width) (entry_at width) entry_object (entry_back width) 3 cpc.entries r.entries,
    ) refl
