-- What is read is what the object means, and the other way round.
use Rattle.std.proofs.Common.{◌≡◌, ◌≤◌, ◌+◌, ◌^◌, ◌⊎◌, ℕ, List, Option, Some, None, [], ◌∷◌, length, drop, Ok, inl, inr, refl, subst, ◌∙◌, arith}
use Rattle.std.proofs.lemmas.Bool.Decides.{nat_tests}
use Rattle.aml_data.specs.Meaning.{meaning}
use Rattle.aml_data.specs.declared.data.Data.{Data}
use Rattle.aml_data.specs.declared.data.Width.{Width}
use Rattle.acpi_values.specs.declared.performance.Cpc.{Cpc}
use Rattle.acpi_values.specs.declared.performance.CpcEntry.{CpcEntry}
use Rattle.acpi_values.specs.declared.performance.CpcEntry.TheVariants.{Number, Register}
use Rattle.acpi_fields.specs.Meaning.{IsNumber, IsPackageOf}
use Rattle.acpi_fields.specs.Reading.{counted, field, integer_at, most_64, place, register_at, rows_from, whole_of}
use Rattle.acpi_fields.proofs.Inversion.{bound, counted_means, counted_read, integer_means, integer_read, means_64, no_integer, ok_same, read_64}
use Rattle.acpi_fields.proofs.Inversion.{register_means, register_read, rows_means, rows_read, whole_means, whole_read}
use Rattle.acpi_cpc.specs.Cpcs.{cpc_of, element_count, entry_at, entry_by, num_entries}
use Rattle.acpi_cpc.proofs.Back.{num_back}
use Rattle.acpi_cpc.specs.Meaning.{CpcMeans, EntryMeans, HasElements, in_revision_2, in_revision_3}

known_count : (revision n : ℕ) → element_count revision ≡ Ok n → ((revision ≡ 2) × (n ≡ 21)) ⊎ ((revision ≡ 3) × (n ≡ 23))
known_count revision n e = grind (arith, nat_tests)

count_means : (revision n : ℕ) → element_count revision ≡ Ok n → HasElements revision n
count_means revision n e =
    elim (known_count revision n e) [
      | inl h ↦ rw (h.0, h.1) in_revision_2
      | inr h ↦ rw (h.0, h.1) in_revision_3
    ]

count_read : (revision n : ℕ) → HasElements revision n → element_count revision ≡ Ok n
count_read revision n in_revision_2 = refl
count_read revision n in_revision_3 = refl

num_means : (wanted n m : ℕ) → num_entries wanted n ≡ Ok m → n ≡ wanted
num_means wanted n m e = grind (arith, nat_tests)

entry_by_means : (width : Width) (k : ℕ) (object : Data) (x : CpcEntry) (o : Option ℕ) → meaning object width ≡ o → entry_by k object o ≡ Ok x → EntryMeans width object x
entry_by_means width k object x (Some n) is e = subst (λ y. EntryMeans width object y) (ok_same (Number n) x e) (integer_means width object n is)
entry_by_means width k object x None is e =
    let b = bound (register_at (place k 0) object) _ x e in
    subst (λ y. EntryMeans width object y) (ok_same (Register b.first) x b.rest) (register_means (place k 0) object b.first b.is)

entry_means : (width : Width) (k : ℕ) (object : Data) (x : CpcEntry) → entry_at width k object ≡ Ok x → EntryMeans width object x
entry_means width k object x e = entry_by_means width k object x (meaning object width) refl e

entry_read : (width : Width) (k : ℕ) (object : Data) (x : CpcEntry) → EntryMeans width object x → entry_at width k object ≡ Ok x
entry_read width k object (Number n) h = rw (integer_read width object n h) refl
entry_read width k object (Register r) h = rw (no_integer width object r h, register_read (place k 0) object r h) refl

-- the count and the revision, and what is behind them
cpc_parts : (width : Width) (object : Data) (cpc : Cpc) (elements : List Data) (n wanted : ℕ) → IsPackageOf object elements → 2 ≤ length elements
    → integer_at width most_64 (place 1 0) (field elements 1) ≡ Ok n → integer_at width most_64 (place 2 0) (field elements 2) ≡ Ok cpc.revision
    → element_count cpc.revision ≡ Ok wanted → n ≡ wanted → length elements ≡ wanted → rows_from (entry_at width) 3 (drop 2 elements) ≡ Ok cpc.entries
    → CpcMeans width object cpc
cpc_parts width object cpc [] n wanted whole many count revision known same long rows = absurd (omega arith)
cpc_parts width object cpc (a ∷ []) n wanted whole many count revision known same long rows = absurd (omega arith)
cpc_parts width object cpc (a ∷ b ∷ behind) n wanted whole many count revision known same long rows =
    let all : wanted ≡ length behind + 2 = omega (arith, long) in
    record {
      count = a;
      revision = b;
      behind = behind;
      whole = whole;
      counts = subst (λ m. IsNumber width (2 ^ 64) a m) (same ∙ all) (means_64 width (place 1 0) a n count);
      revised = means_64 width (place 2 0) b cpc.revision revision;
      known = subst (λ m. HasElements cpc.revision m) all (count_means cpc.revision wanted known);
      rows = rows_means (entry_at width) (EntryMeans width) (entry_means width) 3 behind cpc.entries rows;
    }

pub cpc_means : (width : Width) (object : Data) (cpc : Cpc) → cpc_of width object ≡ Ok cpc → CpcMeans width object cpc
unfolding cpc_of
cpc_means width object cpc e =
    let whole = bound (whole_of 2 object) _ cpc e in
    let elements = whole.first in
    let n = bound (integer_at width most_64 (place 1 0) (field elements 1)) _ cpc whole.rest in
    let revision = bound (integer_at width most_64 (place 2 0) (field elements 2)) _ cpc n.rest in
    let wanted = bound (element_count revision.first) _ cpc revision.rest in
    let num = bound (num_entries wanted.first n.first) _ cpc wanted.rest in
    let many = bound (counted (place 0 0) wanted.first elements) _ cpc num.rest in
    let entries = bound (rows_from (entry_at width) 3 (drop 2 elements)) _ cpc many.rest in
    let inner = whole_means 2 object elements whole.is in
    let long = counted_means (place 0 0) wanted.first elements many.first many.is in
    subst (λ x. CpcMeans width object x) (ok_same _ cpc entries.rest)
    (cpc_parts width object (record { revision = revision.first; entries = entries.first }) elements n.first wanted.first inner.0 inner.1
    n.is revision.is wanted.is (num_means wanted.first n.first num.first num.is) long.0 entries.is)

pub cpc_read : (width : Width) (object : Data) (cpc : Cpc) → CpcMeans width object cpc → cpc_of width object ≡ Ok cpc
unfolding cpc_of
cpc_read width object cpc h =
    let elements = h.count ∷ h.revision ∷ h.behind in
    let n = length h.behind + 2 in
    let long : length elements ≡ n = omega arith in
    rw (
      whole_read 2 object elements h.whole (omega arith),
      read_64 width (place 1 0) h.count n h.counts,
      read_64 width (place 2 0) h.revision cpc.revision h.revised,
      count_read cpc.revision n h.known,
      num_back n,
      counted_read (place 0 0) n elements long,
      rows_read (entry_at width) (EntryMeans width) (entry_read width) 3 h.behind cpc.entries h.rows,
    ) refl
