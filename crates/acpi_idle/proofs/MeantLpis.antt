-- What is read of low power idle states is what the object means, and the other way round.
use Rattle.std.proofs.Common.{◌≡◌, ◌≤◌, ◌-◌, ◌^◌, ◌==◌, ℕ, List, Option, Some, None, [], ◌∷◌, length, drop, Ok, refl, subst, arith}
use Rattle.std.specs.Prelude.{Err, if◌then◌else◌}
use Rattle.std.proofs.lemmas.Bool.Decides.{nat_tests}
use Rattle.aml_data.specs.Meaning.{meaning}
use Rattle.aml_data.specs.declared.data.Data.{Data}
use Rattle.aml_data.specs.declared.data.Width.{Width}
use Rattle.acpi_values.specs.declared.fault.Place.{Place}
use Rattle.acpi_values.specs.declared.fault.Why.TheVariants.{Revision}
use Rattle.acpi_values.specs.declared.lpi.EntryMethod.{EntryMethod}
use Rattle.acpi_values.specs.declared.lpi.EntryMethod.TheVariants as entry
use Rattle.acpi_values.specs.declared.lpi.Lpi.{Lpi}
use Rattle.acpi_values.specs.declared.lpi.LpiState.{LpiState}
use Rattle.acpi_values.specs.declared.register.Register.{Register}
use Rattle.acpi_values.specs.Null.{null_register}
use Rattle.acpi_fields.specs.Meaning.{IsNumber, IsPackageOf}
use Rattle.acpi_fields.specs.Reading.{Read, count_at, field, fields_of, integer_at, most_32, most_64, number_of, place, register_at}
use Rattle.acpi_fields.specs.Reading.{rows_from, shape, text_at, whole_of}
use Rattle.acpi_fields.proofs.Inversion.{bound, count_means, count_read, fields_means, fields_read, integer_means, integer_read, means_32, means_64}
use Rattle.acpi_fields.proofs.Inversion.{no_integer, ok_same, read_32, read_64, register_means, register_read, rows_means, rows_read, text_means}
use Rattle.acpi_fields.proofs.Inversion.{text_read, whole_means, whole_read}
use Rattle.acpi_idle.specs.Lpis.{counter_at, counter_by, entry_at, entry_by, lpi_of, lpi_row, revision_at}
use Rattle.acpi_idle.specs.Meaning.{CounterMeans, is_counter, is_no_counter, EntryMeans, LpiMeans, LpiStateMeans}

entry_by_means : (width : Width) (at : Place) (object : Data) (m : EntryMethod) (o : Option ℕ) → meaning object width ≡ o → entry_by at object o ≡ Ok m
    → EntryMeans width object m
entry_by_means width at object m (Some n) is e = subst (λ x. EntryMeans width object x) (ok_same (entry.Integer n) m e) (integer_means width object n is)
entry_by_means width at object m None is e =
    let b = bound (register_at at object) _ m e in
    subst (λ x. EntryMeans width object x) (ok_same (entry.Register b.first) m b.rest) (register_means at object b.first b.is)

entry_means : (width : Width) (at : Place) (object : Data) (m : EntryMethod) → entry_at width at object ≡ Ok m → EntryMeans width object m
entry_means width at object m e = entry_by_means width at object m (meaning object width) refl e

entry_read : (width : Width) (at : Place) (object : Data) (m : EntryMethod) → EntryMeans width object m → entry_at width at object ≡ Ok m
entry_read width at object (entry.Register r) h = rw (no_integer width object r h, register_read at object r h) refl
entry_read width at object (entry.Integer n) h = rw (integer_read width object n h) refl

counter_by_means : (width : Width) (at : Place) (object : Data) (r : Register) (o : Option ℕ) → meaning object width ≡ o → counter_by at object o ≡ Ok r
    → CounterMeans width object r
counter_by_means width at object r (Some n) is e = subst (λ x. CounterMeans width object x) (ok_same null_register r e) (is_no_counter n (integer_means width object n is))
counter_by_means width at object r None is e = is_counter r (register_means at object r e)

counter_means : (width : Width) (at : Place) (object : Data) (r : Register) → counter_at width at object ≡ Ok r → CounterMeans width object r
counter_means width at object r e = counter_by_means width at object r (meaning object width) refl e

counter_read : (width : Width) (at : Place) (object : Data) (r : Register) → CounterMeans width object r → counter_at width at object ≡ Ok r
counter_read width at object r (is_counter x h) = rw (no_integer width object x h) (register_read at object x h)
counter_read width at object r (is_no_counter n h) = rw (integer_read width object n h) refl

lpi_row_means : (width : Width) (k : ℕ) (object : Data) (s : LpiState) → lpi_row width k object ≡ Ok s → LpiStateMeans width object s
lpi_row_means width k object s e =
    let whole = bound (fields_of k 10 object) _ s e in
    let fields = whole.first in
    let min_residency = bound (number_of width most_32 k 1 fields) _ s whole.rest in
    let wake_latency = bound (number_of width most_32 k 2 fields) _ s min_residency.rest in
    let flags = bound (number_of width most_32 k 3 fields) _ s wake_latency.rest in
    let lost = bound (number_of width most_32 k 4 fields) _ s flags.rest in
    let frequency = bound (number_of width most_32 k 5 fields) _ s lost.rest in
    let parent = bound (number_of width most_32 k 6 fields) _ s frequency.rest in
    let method = bound (entry_at width (place k 7) (field fields 7)) _ s parent.rest in
    let residency = bound (counter_at width (place k 8) (field fields 8)) _ s method.rest in
    let usage = bound (counter_at width (place k 9) (field fields 9)) _ s residency.rest in
    let name = bound (text_at (place k 10) (field fields 10)) _ s usage.rest in
    let inner = fields_means k 10 object fields whole.is in
    subst (λ x. LpiStateMeans width object x) (ok_same _ s name.rest)
    (record {
      fields = fields;
      whole = inner.0;
      ten = inner.1;
      min_residency = means_32 width (place k 1) (field fields 1) min_residency.first min_residency.is;
      wake_latency = means_32 width (place k 2) (field fields 2) wake_latency.first wake_latency.is;
      flags = means_32 width (place k 3) (field fields 3) flags.first flags.is;
      lost = means_32 width (place k 4) (field fields 4) lost.first lost.is;
      frequency = means_32 width (place k 5) (field fields 5) frequency.first frequency.is;
      parent = means_32 width (place k 6) (field fields 6) parent.first parent.is;
      entry = entry_means width (place k 7) (field fields 7) method.first method.is;
      residency = counter_means width (place k 8) (field fields 8) residency.first residency.is;
      usage = counter_means width (place k 9) (field fields 9) usage.first usage.is;
      name = text_means (place k 10) (field fields 10) name.first name.is;
    })

lpi_row_read : (width : Width) (k : ℕ) (object : Data) (s : LpiState) → LpiStateMeans width object s → lpi_row width k object ≡ Ok s
lpi_row_read width k object s h =
    let fields = h.fields in
    rw (
      fields_read k 10 object fields h.whole h.ten,
      read_32 width (place k 1) (field fields 1) s.min_residency h.min_residency,
      read_32 width (place k 2) (field fields 2) s.wake_latency h.wake_latency,
      read_32 width (place k 3) (field fields 3) s.flags h.flags,
      read_32 width (place k 4) (field fields 4) s.lost h.lost,
      read_32 width (place k 5) (field fields 5) s.frequency h.frequency,
      read_32 width (place k 6) (field fields 6) s.parent h.parent,
      entry_read width (place k 7) (field fields 7) s.entry h.entry,
      counter_read width (place k 8) (field fields 8) s.residency h.residency,
      counter_read width (place k 9) (field fields 9) s.usage h.usage,
      text_read (place k 10) (field fields 10) s.name h.name,
    ) refl

revision_test : (n m : ℕ) → (let r : Read ℕ = if n == 0 then Ok n else Err (shape (place 1 0) Revision) in r ≡ Ok m) → n ≡ 0
revision_test n m e = grind (arith, nat_tests)

revision_means : (width : Width) (object : Data) (n : ℕ) → revision_at width object ≡ Ok n → IsNumber width (2 ^ 64) object 0
revision_means width object n e =
    let b = bound (integer_at width most_64 (place 1 0) object) _ n e in
    subst (λ m. IsNumber width (2 ^ 64) object m) (revision_test b.first n b.rest) (means_64 width (place 1 0) object b.first b.is)

revision_read : (width : Width) (object : Data) → IsNumber width (2 ^ 64) object 0 → revision_at width object ≡ Ok 0
revision_read width object h = rw (read_64 width (place 1 0) object 0 h) refl

-- the revision, the level and the count, and what is behind them
lpi_parts : (width : Width) (object : Data) (lpi : Lpi) (elements : List Data) (r n : ℕ) → IsPackageOf object elements → 3 ≤ length elements
    → revision_at width (field elements 1) ≡ Ok r → integer_at width most_64 (place 2 0) (field elements 2) ≡ Ok lpi.level
    → count_at width 3 (length elements - 3) (field elements 3) ≡ Ok n → rows_from (lpi_row width) 4 (drop 3 elements) ≡ Ok lpi.states → LpiMeans width object lpi
lpi_parts width object lpi [] r n whole many revision level count rows = absurd (omega arith)
lpi_parts width object lpi (a ∷ []) r n whole many revision level count rows = absurd (omega arith)
lpi_parts width object lpi (a ∷ b ∷ []) r n whole many revision level count rows = absurd (omega arith)
lpi_parts width object lpi (a ∷ b ∷ c ∷ behind) r n whole many revision level count rows =
    let left : length (a ∷ b ∷ c ∷ behind) - 3 ≡ length behind = omega arith in
    record {
      revision = a;
      level = b;
      count = c;
      behind = behind;
      whole = whole;
      revised = revision_means width a r revision;
      leveled = means_64 width (place 2 0) b lpi.level level;
      counts = subst (λ m. IsNumber width (2 ^ 64) c m) left (count_means width 3 (length (a ∷ b ∷ c ∷ behind) - 3) c n count);
      rows = rows_means (lpi_row width) (LpiStateMeans width) (lpi_row_means width) 4 behind lpi.states rows;
    }

pub lpi_means : (width : Width) (object : Data) (lpi : Lpi) → lpi_of width object ≡ Ok lpi → LpiMeans width object lpi
unfolding lpi_of
lpi_means width object lpi e =
    let whole = bound (whole_of 3 object) _ lpi e in
    let elements = whole.first in
    let revision = bound (revision_at width (field elements 1)) _ lpi whole.rest in
    let level = bound (integer_at width most_64 (place 2 0) (field elements 2)) _ lpi revision.rest in
    let count = bound (count_at width 3 (length elements - 3) (field elements 3)) _ lpi level.rest in
    let states = bound (rows_from (lpi_row width) 4 (drop 3 elements)) _ lpi count.rest in
    let inner = whole_means 3 object elements whole.is in
    subst (λ x. LpiMeans width object x) (ok_same _ lpi states.rest)
    (lpi_parts width object (record { level = level.first; states = states.first }) elements revision.first count.first inner.0 inner.1 revision.is level.is count.is states.is)

pub lpi_read : (width : Width) (object : Data) (lpi : Lpi) → LpiMeans width object lpi → lpi_of width object ≡ Ok lpi
unfolding lpi_of
lpi_read width object lpi h =
    let elements = h.revision ∷ h.level ∷ h.count ∷ h.behind in
    let left : length elements - 3 ≡ length h.behind = omega arith in
    rw (
      whole_read 3 object elements h.whole (omega arith),
      left,
      revision_read width h.revision h.revised,
      read_64 width (place 2 0) h.level lpi.level h.leveled,
      count_read width 3 (length h.behind) h.count h.counts,
      rows_read (lpi_row width) (LpiStateMeans width) (lpi_row_read width) 4 h.behind lpi.states h.rows,
    ) refl
