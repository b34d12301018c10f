-- What is read is what the object means, and the other way round.
use Rattle.std.proofs.Common.{◌≡◌, ℕ, List, [], ◌∷◌, length, Ok, refl, subst, arith}
use Rattle.aml_data.specs.declared.data.Data.{Data}
use Rattle.aml_data.specs.declared.data.Width.{Width}
use Rattle.acpi_values.specs.declared.dependency.Dependency.{Dependency}
use Rattle.acpi_values.specs.declared.performance.ControlPair.{ControlPair}
use Rattle.acpi_values.specs.declared.performance.PState.{PState}
use Rattle.acpi_values.specs.declared.performance.TState.{TState}
use Rattle.acpi_fields.specs.Meaning.{IsPackageOf}
use Rattle.acpi_fields.specs.Reading.{counted, elements_at, field, fields_of, most_32, number_of, place, register_at}
use Rattle.acpi_fields.proofs.DependencyMeaning.{dependency_means, dependency_read}
use Rattle.acpi_fields.proofs.Inversion.{bound, counted_means, elements_means, elements_read, fields_means, fields_read, means_32, ok_same, read_32}
use Rattle.acpi_fields.proofs.Inversion.{register_means, register_read, rows_means, rows_read}
use Rattle.acpi_perf.specs.Meaning.{ControlMeans, DomainMeans, PStateMeans, PssMeans, TStateMeans, TssMeans}
use Rattle.acpi_perf.specs.Objects.{control_of, domain_of}
use Rattle.acpi_perf.specs.Scales.{pss_of, pss_row, tss_of, tss_row}

-- # Performance states

pss_row_means : (width : Width) (k : ℕ) (object : Data) (s : PState) → pss_row width k object ≡ Ok s → PStateMeans width object s
pss_row_means width k object s e =
    let whole = bound (fields_of k 6 object) _ s e in
    let fields = whole.first in
    let frequency = bound (number_of width most_32 k 1 fields) _ s whole.rest in
    let power = bound (number_of width most_32 k 2 fields) _ s frequency.rest in
    let latency = bound (number_of width most_32 k 3 fields) _ s power.rest in
    let bus_latency = bound (number_of width most_32 k 4 fields) _ s latency.rest in
    let control = bound (number_of width most_32 k 5 fields) _ s bus_latency.rest in
    let status = bound (number_of width most_32 k 6 fields) _ s control.rest in
    let inner = fields_means k 6 object fields whole.is in
    subst (λ x. PStateMeans width object x) (ok_same _ s status.rest)
    (record {
      fields = fields;
      whole = inner.0;
      six = inner.1;
      frequency = means_32 width (place k 1) (field fields 1) frequency.first frequency.is;
      power = means_32 width (place k 2) (field fields 2) power.first power.is;
      latency = means_32 width (place k 3) (field fields 3) latency.first latency.is;
      bus_latency = means_32 width (place k 4) (field fields 4) bus_latency.first bus_latency.is;
      control = means_32 width (place k 5) (field fields 5) control.first control.is;
      status = means_32 width (place k 6) (field fields 6) status.first status.is;
    })

pss_row_read : (width : Width) (k : ℕ) (object : Data) (s : PState) → PStateMeans width object s → pss_row width k object ≡ Ok s
pss_row_read width k object s h =
    let fields = h.fields in
    rw (
      fields_read k 6 object fields h.whole h.six,
      read_32 width (place k 1) (field fields 1) s.frequency h.frequency,
      read_32 width (place k 2) (field fields 2) s.power h.power,
      read_32 width (place k 3) (field fields 3) s.latency h.latency,
      read_32 width (place k 4) (field fields 4) s.bus_latency h.bus_latency,
      read_32 width (place k 5) (field fields 5) s.control h.control,
      read_32 width (place k 6) (field fields 6) s.status h.status,
    ) refl

pub pss_means : (width : Width) (object : Data) (states : List PState) → pss_of width object ≡ Ok states → PssMeans width object states
unfolding pss_of
pss_means width object states e =
    let b = bound (elements_at (place 0 0) object) _ states e in
    record {
      elements = b.first;
      whole = elements_means (place 0 0) object b.first b.is;
      rows = rows_means (pss_row width) (PStateMeans width) (pss_row_means width) 1 b.first states b.rest;
    }

pub pss_read : (width : Width) (object : Data) (states : List PState) → PssMeans width object states → pss_of width object ≡ Ok states
unfolding pss_of
pss_read width object states h =
    rw (elements_read (place 0 0) object h.elements h.whole) (rows_read (pss_row width) (PStateMeans width) (pss_row_read width) 1 h.elements states h.rows)

-- # Throttling states

tss_row_means : (width : Width) (k : ℕ) (object : Data) (s : TState) → tss_row width k object ≡ Ok s → TStateMeans width object s
tss_row_means width k object s e =
    let whole = bound (fields_of k 5 object) _ s e in
    let fields = whole.first in
    let percent = bound (number_of width most_32 k 1 fields) _ s whole.rest in
    let power = bound (number_of width most_32 k 2 fields) _ s percent.rest in
    let latency = bound (number_of width most_32 k 3 fields) _ s power.rest in
    let control = bound (number_of width most_32 k 4 fields) _ s latency.rest in
    let status = bound (number_of width most_32 k 5 fields) _ s control.rest in
    let inner = fields_means k 5 object fields whole.is in
    subst (λ x. TStateMeans width object x) (ok_same _ s status.rest)
    (record {
      fields = fields;
      whole = inner.0;
      five = inner.1;
      percent = means_32 width (place k 1) (field fields 1) percent.first percent.is;
      power = means_32 width (place k 2) (field fields 2) power.first power.is;
      latency = means_32 width (place k 3) (field fields 3) latency.first latency.is;
      control = means_32 width (place k 4) (field fields 4) control.first control.is;
      status = means_32 width (place k 5) (field fields 5) status.first status.is;
    })

tss_row_read : (width : Width) (k : ℕ) (object : Data) (s : TState) → TStateMeans width object s → tss_row width k object ≡ Ok s
tss_row_read width k object s h =
    let fields = h.fields in
    rw (
      fields_read k 5 object fields h.whole h.five,
      read_32 width (place k 1) (field fields 1) s.percent h.percent,
      read_32 width (place k 2) (field fields 2) s.power h.power,
      read_32 width (place k 3) (field fields 3) s.latency h.latency,
      read_32 width (place k 4) (field fields 4) s.control h.control,
      read_32 width (place k 5) (field fields 5) s.status h.status,
    ) refl

pub tss_means : (width : Width) (object : Data) (states : List TState) → tss_of width object ≡ Ok states → TssMeans width object states
unfolding tss_of
tss_means width object states e =
    let b = bound (elements_at (place 0 0) object) _ states e in
    record {
      elements = b.first;
      whole = elements_means (place 0 0) object b.first b.is;
      rows = rows_means (tss_row width) (TStateMeans width) (tss_row_means width) 1 b.first states b.rest;
    }

pub tss_read : (width : Width) (object : Data) (states : List TState) → TssMeans width object states → tss_of width object ≡ Ok states
unfolding tss_of
tss_read width object states h =
    rw (elements_read (place 0 0) object h.elements h.whole) (rows_read (tss_row width) (TStateMeans width) (tss_row_read width) 1 h.elements states h.rows)

-- # Control registers

-- a list of two
pub two_of : (elements : List Data) → length elements ≡ 2 → elements ≡ field elements 1 ∷ field elements 2 ∷ []
two_of [] e = absurd (omega arith)
two_of (a ∷ []) e = absurd (omega arith)
two_of (a ∷ b ∷ []) e = refl
two_of (a ∷ b ∷ c ∷ more) e = absurd (omega arith)

pub control_means : (object : Data) (pair : ControlPair) → control_of object ≡ Ok pair → ControlMeans object pair
unfolding control_of
control_means object pair e =
    let whole = bound (elements_at (place 0 0) object) _ pair e in
    let two = bound (counted (place 0 0) 2 whole.first) _ pair whole.rest in
    let control = bound (register_at (place 1 0) (field two.first 1)) _ pair two.rest in
    let status = bound (register_at (place 2 0) (field two.first 2)) _ pair control.rest in
    let many = counted_means (place 0 0) 2 whole.first two.first two.is in
    let elements = subst (λ es. IsPackageOf object es) many.1 (elements_means (place 0 0) object whole.first whole.is) in
    subst (λ x. ControlMeans object x) (ok_same _ pair status.rest)
    (record {
      control = field two.first 1;
      status = field two.first 2;
      whole = subst (λ es. IsPackageOf object es) (two_of two.first (subst (λ es. length es ≡ 2) many.1 many.0)) elements;
      controls = register_means (place 1 0) (field two.first 1) control.first control.is;
      tells = register_means (place 2 0) (field two.first 2) status.first status.is;
    })

pub control_read : (object : Data) (pair : ControlPair) → ControlMeans object pair → control_of object ≡ Ok pair
unfolding control_of
control_read object pair h =
    rw (
      elements_read (place 0 0) object (h.control ∷ h.status ∷ []) h.whole,
      register_read (place 1 0) h.control pair.control h.controls,
      register_read (place 2 0) h.status pair.status h.tells,
    ) refl

-- # Domains

one_of : (elements : List Data) → length elements ≡ 1 → elements ≡ field elements 1 ∷ []
one_of [] e = absurd (omega arith)
one_of (a ∷ []) e = refl
one_of (a ∷ b ∷ more) e = absurd (omega arith)

pub domain_means : (width : Width) (object : Data) (d : Dependency) → domain_of width object ≡ Ok d → DomainMeans width object d
unfolding domain_of
domain_means width object d e =
    let whole = bound (elements_at (place 0 0) object) _ d e in
    let one = bound (counted (place 0 0) 1 whole.first) _ d whole.rest in
    let entry = bound (fields_of 1 5 (field one.first 1)) _ d one.rest in
    let many = counted_means (place 0 0) 1 whole.first one.first one.is in
    let elements = subst (λ es. IsPackageOf object es) many.1 (elements_means (place 0 0) object whole.first whole.is) in
    let inner = fields_means 1 5 (field one.first 1) entry.first entry.is in
    record {
      entry = field one.first 1;
      fields = entry.first;
      whole = subst (λ es. IsPackageOf object es) (one_of one.first (subst (λ es. length es ≡ 1) many.1 many.0)) elements;
      inner = inner.0;
      five = inner.1;
      declared = dependency_means width 5 1 entry.first d entry.rest;
    }

pub domain_read : (width : Width) (object : Data) (d : Dependency) → DomainMeans width object d → domain_of width object ≡ Ok d
unfolding domain_of
domain_read width object d h =
    rw (elements_read (place 0 0) object (h.entry ∷ []) h.whole, fields_read 1 5 h.entry h.fields h.inner h.five) (dependency_read width 5 1 h.fields d h.declared)
