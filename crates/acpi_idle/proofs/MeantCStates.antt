-- What is read of C states and their dependencies is what the object means, and the other way round.
use Rattle.std.proofs.Common.{◌≡◌, ◌≤◌, ◌-◌, ◌^◌, ℕ, List, [], ◌∷◌, length, drop, Ok, refl, subst, arith}
use Rattle.std.proofs.lemmas.Bool.Decides.{nat_tests}
use Rattle.aml_data.specs.declared.data.Data.{Data}
use Rattle.aml_data.specs.declared.data.Width.{Width}
use Rattle.acpi_values.specs.declared.dependency.CDependency.{CDependency}
use Rattle.acpi_values.specs.declared.fault.Place.{Place}
use Rattle.acpi_values.specs.declared.idle.CState.{CState}
use Rattle.acpi_fields.specs.Dependencies.{dependency_of}
use Rattle.acpi_fields.specs.Meaning.{IsNumber, IsPackageOf}
use Rattle.acpi_fields.specs.Reading.{count_at, elements_at, field, fields_of, most_32, most_64, number_of, place, register_at, rows_from, whole_of}
use Rattle.acpi_fields.proofs.DependencyMeaning.{dependency_means, dependency_read}
use Rattle.acpi_fields.proofs.Inversion.{bound, count_means, count_read, elements_means, elements_read, fields_means, fields_read, means_32, means_64}
use Rattle.acpi_fields.proofs.Inversion.{ok_same, read_32, read_64, register_means, register_read, rows_means, rows_read, whole_means, whole_read}
use Rattle.acpi_idle.specs.CStates.{csd_of, csd_row, cst_of, cst_row, kind_in}
use Rattle.acpi_idle.proofs.Back.{kind_back}
use Rattle.acpi_idle.specs.Meaning.{CDependencyMeans, CStateMeans, CsdMeans, CstMeans}

kind_means : (at : Place) (n m : ℕ) → kind_in at n ≡ Ok m → (n ≡ m) × (1 ≤ n) × (n ≤ 3)
kind_means at n m e = grind (arith, nat_tests)

cst_row_means : (width : Width) (k : ℕ) (object : Data) (s : CState) → cst_row width k object ≡ Ok s → CStateMeans width object s
cst_row_means width k object s e =
    let whole = bound (fields_of k 4 object) _ s e in
    let fields = whole.first in
    let register = bound (register_at (place k 1) (field fields 1)) _ s whole.rest in
    let number = bound (number_of width most_64 k 2 fields) _ s register.rest in
    let kind = bound (kind_in (place k 2) number.first) _ s number.rest in
    let latency = bound (number_of width most_32 k 3 fields) _ s kind.rest in
    let power = bound (number_of width most_32 k 4 fields) _ s latency.rest in
    let inner = fields_means k 4 object fields whole.is in
    let known = kind_means (place k 2) number.first kind.first kind.is in
    subst (λ x. CStateMeans width object x) (ok_same _ s power.rest)
    (record {
      fields = fields;
      whole = inner.0;
      four = inner.1;
      register = register_means (place k 1) (field fields 1) register.first register.is;
      kind = subst (λ n. IsNumber width (2 ^ 64) (field fields 2) n) known.0 (means_64 width (place k 2) (field fields 2) number.first number.is);
      known = (subst (λ n. 1 ≤ n) known.0 known.1, subst (λ n. n ≤ 3) known.0 known.2);
      latency = means_32 width (place k 3) (field fields 3) latency.first latency.is;
      power = means_32 width (place k 4) (field fields 4) power.first power.is;
    })

cst_row_read : (width : Width) (k : ℕ) (object : Data) (s : CState) → CStateMeans width object s → cst_row width k object ≡ Ok s
cst_row_read width k object s h =
    let fields = h.fields in
    rw (
      fields_read k 4 object fields h.whole h.four,
      register_read (place k 1) (field fields 1) s.register h.register,
      read_64 width (place k 2) (field fields 2) s.kind h.kind,
      kind_back (place k 2) s.kind h.known.0 h.known.1,
      read_32 width (place k 3) (field fields 3) s.latency h.latency,
      read_32 width (place k 4) (field fields 4) s.power h.power,
    ) refl

-- the count, and what is behind it
cst_parts : (width : Width) (object : Data) (states : List CState) (elements : List Data) (n : ℕ) → IsPackageOf object elements → 1 ≤ length elements
    → count_at width 1 (length elements - 1) (field elements 1) ≡ Ok n → rows_from (cst_row width) 2 (drop 1 elements) ≡ Ok states → CstMeans width object states
cst_parts width object states [] n whole many count rows = absurd (omega arith)
cst_parts width object states (first ∷ behind) n whole many count rows =
    let left : length (first ∷ behind) - 1 ≡ length behind = omega arith in
    record {
      count = first;
      behind = behind;
      whole = whole;
      counts = subst (λ m. IsNumber width (2 ^ 64) first m) left (count_means width 1 (length (first ∷ behind) - 1) first n count);
      rows = rows_means (cst_row width) (CStateMeans width) (cst_row_means width) 2 behind states rows;
    }

pub cst_means : (width : Width) (object : Data) (states : List CState) → cst_of width object ≡ Ok states → CstMeans width object states
unfolding cst_of
cst_means width object states e =
    let whole = bound (whole_of 1 object) _ states e in
    let elements = whole.first in
    let count = bound (count_at width 1 (length elements - 1) (field elements 1)) _ states whole.rest in
    let inner = whole_means 1 object elements whole.is in
    cst_parts width object states elements count.first inner.0 inner.1 count.is count.rest

pub cst_read : (width : Width) (object : Data) (states : List CState) → CstMeans width object states → cst_of width object ≡ Ok states
unfolding cst_of
cst_read width object states h =
    let left : length (h.count ∷ h.behind) - 1 ≡ length h.behind = omega arith in
    rw (whole_read 1 object (h.count ∷ h.behind) h.whole (omega arith), left, count_read width 1 (length h.behind) h.count h.counts)
    (rows_read (cst_row width) (CStateMeans width) (cst_row_read width) 2 h.behind states h.rows)

-- # Dependencies

csd_row_means : (width : Width) (k : ℕ) (object : Data) (d : CDependency) → csd_row width k object ≡ Ok d → CDependencyMeans width object d
csd_row_means width k object d e =
    let whole = bound (fields_of k 6 object) _ d e in
    let fields = whole.first in
    let declared = bound (dependency_of width 6 k fields) _ d whole.rest in
    let index = bound (number_of width most_32 k 6 fields) _ d declared.rest in
    let inner = fields_means k 6 object fields whole.is in
    subst (λ x. CDependencyMeans width object x) (ok_same _ d index.rest)
    (record {
      fields = fields;
      whole = inner.0;
      six = inner.1;
      declared = dependency_means width 6 k fields declared.first declared.is;
      index = means_32 width (place k 6) (field fields 6) index.first index.is;
    })

csd_row_read : (width : Width) (k : ℕ) (object : Data) (d : CDependency) → CDependencyMeans width object d → csd_row width k object ≡ Ok d
csd_row_read width k object d h =
    rw (
      fields_read k 6 object h.fields h.whole h.six,
      dependency_read width 6 k h.fields (record { domain = d.domain; coord = d.coord; processors = d.processors }) h.declared,
      read_32 width (place k 6) (field h.fields 6) d.index h.index,
    ) refl

pub csd_means : (width : Width) (object : Data) (entries : List CDependency) → csd_of width object ≡ Ok entries → CsdMeans width object entries
unfolding csd_of
csd_means width object entries e =
    let b = bound (elements_at (place 0 0) object) _ entries e in
    record {
      elements = b.first;
      whole = elements_means (place 0 0) object b.first b.is;
      rows = rows_means (csd_row width) (CDependencyMeans width) (csd_row_means width) 1 b.first entries b.rest;
    }

pub csd_read : (width : Width) (object : Data) (entries : List CDependency) → CsdMeans width object entries → csd_of width object ≡ Ok entries
unfolding csd_of
csd_read width object entries h =
    rw (elements_read (place 0 0) object h.elements h.whole) (rows_read (csd_row width) (CDependencyMeans width) (csd_row_read width) 1 h.elements entries h.rows)
