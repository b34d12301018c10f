-- The block that is generated can be written.
use Rattle.std.proofs.Common.{◌≡◌, ◌<◌, ◌≤◌, ◌+◌, ◌*◌, ◌^◌, ◌-◌, ℕ, zero, suc, List, [], ◌∷◌, ◌++◌, map, length, refl, arith, length-append}
use Rattle.std.specs.Prelude.{codes}
use Rattle.std.specs.List.{AllByRecursion, range_with_len}
use Rattle.std.proofs.lemmas.List.{length-map}
use Rattle.std.proofs.lemmas.List.FromFn.{length-map-range_with_len}
use Rattle.aml_data.specs.declared.data.Data.{Data}
use Rattle.aml_data.specs.declared.data.Data.TheVariants.{Int, Text}
use Rattle.aml_data.specs.declared.data.Width.TheVariants.{W64}
use Rattle.aml_data.specs.Grammar.{IsAscii}
use Rattle.aml_data.specs.Segment.{IsSegment}
use Rattle.aml_data.specs.Written.{IsWritablePath, written_name}
use Rattle.aml_data.proofs.WrittenLengths.{length-written_name}
use Rattle.acpi_values.specs.declared.dependency.Dependency.{Dependency}
use Rattle.acpi_values.specs.declared.lpi.EntryMethod.{EntryMethod}
use Rattle.acpi_values.specs.declared.lpi.EntryMethod.TheVariants as entry
use Rattle.acpi_values.specs.declared.lpi.Lpi.{Lpi}
use Rattle.acpi_values.specs.declared.lpi.LpiState.{LpiState}
use Rattle.acpi_values.specs.declared.performance.ControlPair.{ControlPair}
use Rattle.acpi_values.specs.declared.performance.PState.{PState}
use Rattle.acpi_fields.specs.Dependencies.{coord_number}
use Rattle.acpi_fields.specs.Writing.{package_object, register_object}
use Rattle.acpi_fields.proofs.Writable.{IsBounded, all_mapped, bounded_32, bounded_coord, bounded_package, bounded_register, bounded_rows}
use Rattle.acpi_fields.proofs.Writable.{bounded_small, bounded_text, bounded_width, bounded_writable, length-length, wider}
use Rattle.acpi_idle.specs.Written.{IsEntryMethod, IsLpiState, entry_object, lpi_object, lpi_row_object}
use Rattle.acpi_perf.specs.Written.{IsDependency, IsPState, control_object, domain_object, pss_object, pss_row_object}
use Rattle.aml_block.specs.declared.term.Term.{Term}
use Rattle.aml_block.specs.declared.term.Term.TheVariants.{Device, Scope}
use Rattle.aml_block.specs.declared.term.Term.TheViews.{outs-Device, outs-Name, outs-Scope}
use Rattle.aml_block.specs.WrittenTerms.{IsWritableTerm, written_term, written_terms}
use Rattle.aml_block.proofs.TermLengths.{length-Device, length-Name, length-Scope}
use Rattle.aml_block.proofs.WrittenTerms.{each_are}
use Rattle.aml_block.specs.Written.{IsInRange, IsWritableBlock}
use Rattle.pw_generate.specs.Machines.{container_objects, container_term, cpu_objects, cpu_term, cpus_of, from_here, from_root, machine_block, named}
use Rattle.pw_generate.specs.Names.{container_name, cpu_name}
use Rattle.pw_generate.specs.Tables.{container_idle, cpu_control, cpu_domain, cpu_idle, cpu_perf, machine_header}
use Rattle.pw_generate.proofs.NameLaws.{container_segment, cpu_segment}
use Rattle.pw_generate.proofs.TableRanges.{IsShortName, ascii, container_idle_is, container_names, cpu_domain_is, cpu_idle_is, cpu_names, cpu_perf_is}
use Rattle.pw_base.proofs.Facts.{both}
use Rattle.acpi_perf.proofs.Writable.{pss_row_bounded}
use Rattle.acpi_idle.proofs.Writable.{wide_32}

-- # Objects

entry_bounded : (e : EntryMethod) → IsEntryMethod W64 e → IsBounded 0 33 (entry_object e)
entry_bounded (entry.Register r) lt = bounded_register r
entry_bounded (entry.Integer n) fits = wider 0 9 33 (Int n) (omega arith) (bounded_width W64 n fits)

abbrev IsShort : LpiState → Type 0
IsShort s = IsLpiState W64 s × IsShortName s

lpi_row_bounded : (s : LpiState) → IsShort s → IsBounded 1 336 (lpi_row_object s)
lpi_row_bounded s h =
    let r = h.0 in
    let name = h.1 in
    bounded_package 0 33 10
    (Int s.min_residency ∷ Int s.wake_latency ∷ Int s.flags ∷ Int s.lost ∷ Int s.frequency ∷ Int s.parent
    ∷ entry_object s.entry ∷ register_object s.residency ∷ register_object s.usage ∷ Text s.name ∷ []) (omega arith) (omega arith) (
      wide_32 s.min_residency r.min_residency,
      (
        wide_32 s.wake_latency r.wake_latency,
        (
          wide_32 s.flags r.flags,
          (
            wide_32 s.lost r.lost,
            (
              wide_32 s.frequency r.frequency,
              (
                wide_32 s.parent r.parent,
                (
                  entry_bounded s.entry r.entry,
                  (
                    bounded_register s.residency,
                    (bounded_register s.usage, (wider 0 4 33 (Text s.name) (omega arith) (bounded_text s.name 2 name.0 name.1), tt)),
                  ),
                ),
              ),
            ),
          ),
        ),
      ),
    )

-- a small number, beside rows
leading : (n : ℕ) → n < 256 → IsBounded 1 336 (Int n)
leading n lt =
    let h = wider 0 9 336 (Int n) (omega arith) (bounded_small n lt) in
    record { within = λ depth low. h.within depth (omega arith); short = h.short }

lpi_bounded : (lpi : Lpi) → lpi.level ≡ 0 → length lpi.states ≤ 3 → AllByRecursion IsShort lpi.states → IsBounded 2 2022 (lpi_object lpi)
lpi_bounded lpi level few all =
    let rows = map lpi_row_object lpi.states in
    let many : length rows ≤ 3 = omega (arith, length-map lpi.states lpi_row_object, few) in
    bounded_package 1 336 6 (Int 0 ∷ Int lpi.level ∷ Int (length lpi.states) ∷ rows) (omega arith) (omega (arith, many)) (
      leading 0 (omega arith),
      (
        leading lpi.level (omega (arith, level)),
        (leading (length lpi.states) (omega (arith, few)), all_mapped IsShort (IsBounded 1 336) lpi_row_object lpi_row_bounded lpi.states all),
      ),
    )

-- # Names

path_writable : (seg : List ℕ) → IsSegment seg → IsWritablePath (from_here seg)
path_writable seg s = record { few = omega arith; no_ups = λ e. refl; segments = (s, tt) }

path_short : (seg : List ℕ) → IsSegment seg → length (written_name (from_here seg)) ≡ 4
path_short seg s = length-written_name (from_here seg) (s, tt)

-- # Terms

-- a term in which so many levels may be opened, and which can be written in at most so many bytes
record IsFit (depth most : ℕ) (t : Term) : Type 0 where
  pub within : IsWritableTerm depth t
  pub short : length (written_term t) ≤ most

looser : (depth most wide : ℕ) (t : Term) → most ≤ wide → IsFit depth most t → IsFit depth wide t
looser depth most wide t le h = record { within = h.within; short = let short = h.short in omega arith }

each_within : (depth most : ℕ) (ts : List Term) → AllByRecursion (IsFit depth most) ts → AllByRecursion (IsWritableTerm depth) ts
each_within depth most [] all = tt
each_within depth most (t ∷ ts) all = (all.0.within, each_within depth most ts all.1)

terms_short : (depth most : ℕ) (ts : List Term) → AllByRecursion (IsFit depth most) ts → length (written_terms ts) ≤ length ts * most
terms_short depth most [] all = omega arith
terms_short depth most (t ∷ ts) all =
    let first = all.0.short in
    let more = terms_short depth most ts all.1 in
    omega (arith, length-append (written_term t) (written_terms ts))

-- an object of a name
named_fit : (depth height most : ℕ) (seg : List ℕ) (v : Data) → IsSegment seg → height ≤ 32 → most < 2 ^ 28 → IsBounded height most v → IsFit depth (5 + most) (named seg v)
named_fit depth height most seg v s low few h = record {
  within = rw (outs-Name (from_here seg) v) (path_writable seg s, omega arith, bounded_writable height most v low few h);
  short = let short = h.short in rw (length-Name (from_here seg) v) (omega (arith, path_short seg s));
}

-- a device of a name
device_fit : (depth most few : ℕ) (seg : List ℕ) (ts : List Term) → IsSegment seg → length ts * most ≤ few → AllByRecursion (IsFit depth most) ts
    → IsFit (depth + 1) (10 + few) (Device (from_here seg) ts)
device_fit depth most few seg ts s le all = record {
  within =
      let down : depth + 1 - 1 ≡ depth = omega arith in
      rw (outs-Device (from_here seg) ts) (path_writable seg s, omega arith, each_are (depth + 1) ts (omega arith) (rw down (each_within depth most ts all)));
  short =
      let inner = terms_short depth most ts all in
      let n = length (written_name (from_here seg)) + length (written_terms ts) in
      rw (length-Device (from_here seg) ts) (omega (arith, path_short seg s, length-length n));
}

-- # The machine

_HID : IsSegment (codes "_HID")
_HID = (refl, refl, refl, refl)

_SB : IsSegment (codes "_SB_")
_SB = (refl, refl, refl, refl)

_LPI : IsSegment (codes "_LPI")
_LPI = (refl, refl, refl, refl)

_PSS : IsSegment (codes "_PSS")
_PSS = (refl, refl, refl, refl)

_PCT : IsSegment (codes "_PCT")
_PCT = (refl, refl, refl, refl)

_PSD : IsSegment (codes "_PSD")
_PSD = (refl, refl, refl, refl)

module _ (depth : ℕ) where
  id_fit : (text : List ℕ) → AllByRecursion IsAscii text → length text ≤ 8 → IsFit depth 15 (named (codes "_HID") (Text text))
  id_fit text all short = named_fit depth 0 10 (codes "_HID") (Text text) _HID (omega arith) (omega arith) (bounded_text text 8 all short)

  idle_fit : (lpi : Lpi) → lpi.level ≡ 0 → length lpi.states ≤ 3 → AllByRecursion (IsLpiState W64) lpi.states → AllByRecursion IsShortName lpi.states
      → IsFit depth 2027 (named (codes "_LPI") (lpi_object lpi))
  idle_fit lpi level few all names =
      named_fit depth 2 2022 (codes "_LPI") (lpi_object lpi) _LPI (omega arith) (omega arith) (lpi_bounded lpi level few (both (IsLpiState W64) IsShortName lpi.states all names))

  perf_fit : (states : List PState) → length states ≤ 4 → AllByRecursion IsPState states → IsFit depth 251 (named (codes "_PSS") (pss_object states))
  perf_fit states few all =
      named_fit depth 2 246 (codes "_PSS") (pss_object states) _PSS (omega arith) (omega arith) (bounded_rows IsPState pss_row_object 1 60 4 pss_row_bounded (omega arith) states few all)

  control_fit : (pair : ControlPair) → IsFit depth 77 (named (codes "_PCT") (control_object pair))
  control_fit pair =
      named_fit depth 1 72 (codes "_PCT") (control_object pair) _PCT (omega arith) (omega arith)
      (bounded_package 0 33 2 (register_object pair.control ∷ register_object pair.status ∷ []) (omega arith) (omega arith)
      (bounded_register pair.control, (bounded_register pair.status, tt)))

  domain_fit : (d : Dependency) → IsDependency d → IsFit depth 62 (named (codes "_PSD") (domain_object d))
  domain_fit d r =
      let fields = Int 5 ∷ Int 0 ∷ Int d.domain ∷ Int (coord_number d.coord) ∷ Int d.processors ∷ [] in
      let row = bounded_package 0 9 5 fields (omega arith) (omega arith)
      (bounded_small 5 (omega arith), (bounded_small 0 (omega arith), (bounded_32 d.domain r.domain, (bounded_coord d.coord, (bounded_32 d.processors r.processors, tt))))) in
      named_fit depth 2 57 (codes "_PSD") (domain_object d) _PSD (omega arith) (omega arith)
      (bounded_package 1 51 1 (package_object fields ∷ []) (omega arith) (omega arith) (row, tt))

all_ranged : {A : Type 0} (P : A → Type 0) (f : ℕ → A) (a n end : ℕ) → a + n ≤ end → ((k : ℕ) → k < end → P (f k)) → AllByRecursion P (map f (range_with_len a n))
all_ranged P f a zero end le each = tt
all_ranged P f a (suc n) end le each = (each a (omega arith), all_ranged P f (a + 1) n end (omega arith) each)

all_behind : {A : Type 0} (P : A → Type 0) (xs ys : List A) → AllByRecursion P xs → AllByRecursion P ys → AllByRecursion P (xs ++ ys)
all_behind P [] ys a b = b
all_behind P (x ∷ xs) ys a b = (a.0, all_behind P xs ys a.1 b)

cpu_fit : (depth c p : ℕ) → c < 32 → IsFit (depth + 1) 10145 (cpu_term c p)
unfolding cpu_term cpu_idle cpu_perf
cpu_fit depth c p lt =
    device_fit depth 2027 10135 (cpu_name p) (cpu_objects c) (cpu_segment p) (omega arith) (
      looser depth 15 2027 _ (omega arith) (id_fit depth (codes "ACPI0007") (ascii (codes "ACPI0007") refl) (omega arith)),
      (
        idle_fit depth cpu_idle refl (omega arith) cpu_idle_is.states cpu_names,
        (
          looser depth 251 2027 _ (omega arith) (perf_fit depth cpu_perf (omega arith) cpu_perf_is),
          (
            looser depth 77 2027 _ (omega arith) (control_fit depth cpu_control),
            (looser depth 62 2027 _ (omega arith) (domain_fit depth (cpu_domain c) (cpu_domain_is c (omega arith))), tt),
          ),
        ),
      ),
    )

container_fit : (depth c : ℕ) → c < 32 → IsFit (depth + 1 + 1) 101460 (container_term c)
unfolding container_term container_idle
container_fit depth c lt =
    let cpus = map (cpu_term c) (cpus_of c) in
    let objects = container_objects in
    let few : length (objects ++ cpus) ≡ 10 = refl in
    let all = all_behind (IsFit (depth + 1) 10145) objects cpus (
      looser (depth + 1) 15 10145 _ (omega arith) (id_fit (depth + 1) (codes "ACPI0010") (ascii (codes "ACPI0010") refl) (omega arith)),
      (
        looser (depth + 1) 2027 10145 _ (omega arith) (idle_fit (depth + 1) container_idle refl (omega arith) container_idle_is.states container_names),
        tt,
      ),
    )
    (all_ranged (IsFit (depth + 1) 10145) (cpu_term c) (8 * c) 8 (8 * c + 8) (omega arith) (λ p h. cpu_fit depth c p lt)) in
    device_fit (depth + 1) 10145 101450 (container_name c) (objects ++ cpus) (container_segment c) (omega arith) all

pub machine_writable : (n : ℕ) → n ≤ 32 → IsWritableBlock (machine_block n)
unfolding machine_block
machine_writable n le =
    let path = from_root (codes "_SB_") in
    let containers = map container_term (range_with_len 0 n) in
    let all = all_ranged (IsFit 31 101460) container_term 0 n n (omega arith) (λ c lt. container_fit 29 c (omega arith)) in
    let many : length containers ≡ n = length-map-range_with_len container_term 0 n in
    let named : length (written_name path) ≡ 5 = length-written_name path (_SB, tt) in
    let inner = terms_short 31 101460 containers all in
    let whole = length (written_name path) + length (written_terms containers) in
    record {
      terms = (
        rw (outs-Scope path containers) (record { few = omega arith; no_ups = λ e. refl; segments = (_SB, tt) }, each_are 32 containers (omega arith) (each_within 31 101460 containers all)),
        tt,
      );
      short = omega (arith, length-append (written_term (Scope path containers)) [], length-Scope path containers, length-length whole);
    }

pub header_in_range : IsInRange machine_header
unfolding machine_header
header_in_range = record {
  revision = omega arith;
  oem_id = refl;
  oem_table_id = refl;
  oem_revision = omega arith;
  creator_id = refl;
  creator_revision = omega arith;
}
