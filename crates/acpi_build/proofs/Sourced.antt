-- The parts of containers and processors are those of their tables, and each cause of a note has its note.
use Rattle.std.proofs.Common.{◌≡◌, ◌⊎◌, ℕ, ◌+◌, ◌<◌, ◌≤◌, Bool, true, false, List, [], ◌∷◌, ◌++◌, length, map, Option, Some, None, Ok, Err, append_assoc, refl, sym, ap, subst, ◌∙◌, inl, inr, arith}
use Rattle.std.specs.Prelude.{Contains, filter, nat_lt, cond, not}
use Rattle.std.specs.List.{AllZip, list_any}
use Rattle.std.specs.Option.{option_map, unwrap_or}
use Rattle.std.proofs.lemmas.Bool.Decides.{nat_tests}
use Rattle.std.proofs.lemmas.List.{append-nil}
use Rattle.aml_data.specs.declared.data.Data.{Data}
use Rattle.aml_data.specs.declared.data.Width.{Width}
use Rattle.acpi_values.specs.declared.dependency.CDependency.{CDependency}
use Rattle.acpi_values.specs.declared.fault.Why.TheVariants.{Range}
use Rattle.acpi_values.specs.declared.idle.CState.{CState}
use Rattle.acpi_values.specs.declared.idle.IdleTable.{IdleTable}
use Rattle.acpi_values.specs.declared.lpi.Lpi.{Lpi}
use Rattle.acpi_values.specs.declared.performance.PState.{PState}
use Rattle.acpi_values.specs.declared.performance.TState.{TState}
use Rattle.acpi_fields.specs.Reading.{Read, place, shape}
use Rattle.acpi_fields.proofs.Inversion.{err_ok, ok_same}
use Rattle.acpi_idle.specs.CStates.{cst_of, csd_of}
use Rattle.acpi_idle.specs.Lpis.{lpi_of}
use Rattle.acpi_idle.specs.Meaning.{CsdMeans, CstMeans, LpiMeans}
use Rattle.acpi_idle.proofs.MeantCStates.{csd_read, cst_read}
use Rattle.acpi_idle.proofs.MeantLpis.{lpi_read}
use Rattle.acpi_perf.specs.Meaning.{ControlMeans, DomainMeans, LimitMeans, PssMeans, TssMeans}
use Rattle.acpi_cpc.specs.Meaning.{CpcMeans}
use Rattle.acpi_space.specs.Distinct.{IsDistinct}
use Rattle.acpi_space.specs.Lookup.{path_in}
use Rattle.acpi_space.specs.Namespace.{Entry, places_of}
use Rattle.acpi_space.specs.Places.{Place}
use Rattle.acpi_space.proofs.Trees.{same_some}
use Rattle.pw_plan.specs.Parts.{entry_in as dependency_in, is_entry, no_entry as no_dependency}
use Rattle.pw_plan.specs.declared.plan.Plan.{Plan}
use Rattle.acpi_build.specs.declared.names.Name.{Name}
use Rattle.acpi_build.specs.declared.names.Name.TheVariants as names
use Rattle.acpi_build.specs.declared.note.NoteKind.TheVariants.{Ignored, NoSuchState}
use Rattle.acpi_build.specs.Building.{◌>>=◌, Build, done, each, noted}
use Rattle.acpi_build.specs.Finding.{containers_of, depth_in, parent_of, place_below, processors_of}
use Rattle.acpi_build.specs.Machine.{container_parts, cpu_parts, dropped, idle_of, idle_table, ignored, kept_from, kept_of, perf_of, scale_of, scale_with, throttle_of, with_dropped, Parts, parts_of}
use Rattle.acpi_build.specs.Meaning.{IsOuter}
use Rattle.acpi_build.specs.Tables.{control_at, cpc_at, csd_at, cst_at, dependency_at, limit_at, lpi_at, pss_at, told, tss_at}
use Rattle.acpi_build.specs.Sources.{AreCst, AreLpi, AreStates, IsContainerOf, IsCpuOf, IsCsd, IsIdle, IsPerf, IsScale, IsTable, IsThrottle}
use Rattle.acpi_build.specs.Sources.{kept_entries}
use Rattle.acpi_build.specs.Causes.{Cause, by_method, by_alias, of_no_states, beside_lpi, of_no_such_state, of_unfit_domain, IsCause, IsReadOf, LacksState, note_of}
use Rattle.acpi_build.proofs.OneTable.{one_states, one_table}
use Rattle.acpi_build.proofs.Parents.{containers_in_order, none_some, processors_rise}
use Rattle.acpi_build.proofs.Ranks.{beside_there, entry_there, In, IsOf, is_table, joins_numbered, Makes, makes_done, makes_then, none_numbered, Numbered, numbered_on, onward, rank, slot}
use Rattle.acpi_build.proofs.Rows.{table_rows}
use Rattle.acpi_build.proofs.Who.{never_both}
use Rattle.acpi_build.proofs.Steady.{steady_container, steady_cpu, steady_dropped, steady_each, steady_scale, steady_then, steady_with_control, steady_with_csd, steady_with_cst, steady_with_dropped, steady_with_idle, steady_with_ignored, steady_with_limit, steady_with_lpi, steady_with_perf, steady_with_throttle}
use Rattle.acpi_build.proofs.Yielding.{Among, Joins, Yields, joins_behind, joins_nothing, yields_done, yields_each, yields_noted, yields_refused, yields_same, yields_then}
use Rattle.acpi_build.proofs.Tabled.{control_yields, cpc_yields, csd_yields, cst_yields, dependency_yields, limit_yields, lpi_yields, pss_yields, tss_yields}

abbrev fits : ℕ → CDependency → Bool
fits count e = nat_lt e.index count

-- those that are kept are those that fit
kept_is : (count n : ℕ) (kept es r : List CDependency) → kept_from count n kept es ≡ Ok r → r ≡ kept ++ filter (fits count) es
kept_is count n kept [] r is = sym (ok_same kept r is) ∙ sym (append-nil kept)
kept_is count n kept (e ∷ es) r is =
    by (fits count e) (list_any (is_entry e.domain e.index) kept) is (kept_is count (n + 1) (kept ++ e ∷ []) es r) (kept_is count (n + 1) kept es r)
  where
    by : (b again : Bool)
        → cond b (cond again (Err (shape (place n 3) Range)) (kept_from count (n + 1) (kept ++ e ∷ []) es)) (kept_from count (n + 1) kept es) ≡ Ok r
        → (kept_from count (n + 1) (kept ++ e ∷ []) es ≡ Ok r → r ≡ (kept ++ e ∷ []) ++ filter (fits count) es)
        → (kept_from count (n + 1) kept es ≡ Ok r → r ≡ kept ++ filter (fits count) es)
        → r ≡ kept ++ cond b (e ∷ filter (fits count) es) (filter (fits count) es)
    by true true is more less = absurd (err_ok (shape (place n 3) Range) r is)
    by true false is more less = more is ∙ append_assoc kept (e ∷ []) (filter (fits count) es)
    by false again is more less = less is

-- the causes of the entries that are dropped, the first of these being entry i
abbrev Dropped : ℕ → ℕ → ℕ → List CDependency → Cause → Type 0
Dropped k count i es = Numbered (of_no_such_state k) (λ (e : CDependency). not (fits count e)) no_dependency i es

abbrev Idle : List Entry → ℕ → IdleTable × List CDependency → Type 0
Idle entries k r = IsIdle entries k r.0 r.1

not_below : (index count : ℕ) → not (nat_lt index count) ≡ true → count ≤ index
not_below index count e = grind (arith, nat_tests)

past_all : (index count : ℕ) → count ≤ index → not (nat_lt index count) ≡ true
past_all index count l = grind (arith, nat_tests)

same_number : (k a b : ℕ) → of_no_such_state k a ≡ of_no_such_state k b → a ≡ b
same_number k a b e = cc

-- the cause is one of a table
abbrev pub OfTables : Cause → Type 0
OfTables (by_method k name) = Unit {0}
OfTables (by_alias k name) = Unit {0}
OfTables (of_no_states k name) = Unit {0}
OfTables (beside_lpi k) = Unit {0}
OfTables (of_no_such_state k j) = Unit {0}
OfTables (of_unfit_domain d) = ⊥

-- what all parts are
pub record AreParts (entries : List Entry) (parts : Parts) : Type 0 where
  pub containers : AllZip (IsContainerOf entries) (containers_of entries) parts.containers
  pub cpus : AllZip (IsCpuOf entries) (processors_of entries) parts.cpus

-- the causes that object k has
abbrev pub OwnOf : List Entry → Plan → ℕ → Cause → Type 0
OwnOf entries plan k c = IsOf k c × IsCause entries plan c

module _ (entries : List Entry) (plan : Plan) (distinct : IsDistinct (places_of entries)) where
  -- # Idle states

  one_dropped : (k count i : ℕ) (es : List CDependency) (e : CDependency) (b : Bool) → fits count e ≡ b
      → Yields (note_of entries plan) (Dropped k count (i + 1) es) (λ _. Unit {0}) (dropped (place_below entries k names.Csd) count es)
      → Yields (note_of entries plan) (Dropped k count i (e ∷ es)) (λ _. Unit {0})
      (cond b (dropped (place_below entries k names.Csd) count es)
      (noted (place_below entries k names.Csd) NoSuchState (tt {0}) >>= λ _. dropped (place_below entries k names.Csd) count es))
  one_dropped k count i es e true is rest =
      yields_same (note_of entries plan) (Dropped k count (i + 1) es) (Dropped k count i (e ∷ es)) (λ _. Unit {0}) (λ _. Unit {0}) (dropped (place_below entries k names.Csd) count es)
      (λ c s. onward (of_no_such_state k) (λ (x : CDependency). not (fits count x)) no_dependency i e es c s)
      (λ c s. numbered_on (of_no_such_state k) (λ (x : CDependency). not (fits count x)) no_dependency i e es c (ap not is) s)
      (λ r same. same) rest
  one_dropped k count i es e false is rest =
      let path = place_below entries k names.Csd in
      yields_then (note_of entries plan) (λ c. c ≡ of_no_such_state k i) (Dropped k count (i + 1) es) (Dropped k count i (e ∷ es)) (λ _. Unit {0}) (λ _. Unit {0})
      (noted path NoSuchState (tt {0})) (λ _. dropped path count es)
      (joins_numbered (of_no_such_state k) (λ (x : CDependency). not (fits count x)) no_dependency i e es (same_number k) (ap not is))
      (λ _. steady_dropped path count es)
      (yields_noted (note_of entries plan) (λ c. c ≡ of_no_such_state k i) (λ _. Unit {0}) path NoSuchState (tt {0}) (of_no_such_state k i) refl refl (λ c s. s) tt) (λ _ _. rest)

  dropped_yields : (k count i : ℕ) (es : List CDependency)
      → Yields (note_of entries plan) (Dropped k count i es) (λ _. Unit {0}) (dropped (place_below entries k names.Csd) count es)
  dropped_yields k count i [] =
      yields_done (note_of entries plan) (Dropped k count i []) (λ _. Unit {0}) (tt {0}) (none_numbered (of_no_such_state k) (λ (x : CDependency). not (fits count x)) no_dependency i) tt
  dropped_yields k count i (e ∷ es) = one_dropped k count i es e (fits count e) refl (dropped_yields k count (i + 1) es)

  told_kept : (path : Place) (kept : List CDependency) (r : Read (List CDependency)) → ((x : List CDependency) → r ≡ Ok x → x ≡ kept)
      → Yields (note_of entries plan) (λ _. ⊥) (λ o. o ≡ Some kept) (told path r)
  told_kept path kept (Ok x) is = yields_done (note_of entries plan) (λ _. ⊥) (λ o. o ≡ Some kept) (Some x) (λ c s. s) (ap Some (is x refl))
  told_kept path kept (Err shape) is = yields_refused (note_of entries plan) (λ _. ⊥) (λ o. o ≡ Some kept) path shape.place shape.why None

  with_kept : (k count : ℕ) (es kept : List CDependency) (o : Option (List CDependency)) → o ≡ Some kept
      → Yields (note_of entries plan) (Dropped k count 0 es) (λ r. r ≡ kept) (with_dropped (place_below entries k names.Csd) count es o)
  with_kept k count es kept None e = absurd (none_some e)
  with_kept k count es kept (Some found) e =
      let path = place_below entries k names.Csd in
      yields_then (note_of entries plan) (Dropped k count 0 es) (λ _. ⊥) (Dropped k count 0 es) (λ _. Unit {0}) (λ r. r ≡ kept) (dropped path count es) (λ _. done found)
      (joins_nothing (Dropped k count 0 es)) (λ _ before none. none) (dropped_yields k count 0 es)
      (λ _ _. yields_done (note_of entries plan) (λ _. ⊥) (λ r. r ≡ kept) found (λ c s. s) (same_some e))

  kept_yields : (k count : ℕ) (es : List CDependency)
      → Yields (note_of entries plan) (Dropped k count 0 es) (λ r. r ≡ filter (fits count) es)
      (told (place_below entries k names.Csd) (kept_from count 1 [] es) >>= with_dropped (place_below entries k names.Csd) count es)
  kept_yields k count es =
      let path = place_below entries k names.Csd in
      let kept = filter (fits count) es in
      yields_then (note_of entries plan) (λ _. ⊥) (Dropped k count 0 es) (Dropped k count 0 es) (λ o. o ≡ Some kept) (λ r. r ≡ kept) (told path (kept_from count 1 [] es))
      (with_dropped path count es) (joins_behind (Dropped k count 0 es)) (steady_with_dropped path count es)
      (told_kept path kept (kept_from count 1 [] es) (kept_is count 1 [] es)) (λ o e. with_kept k count es kept o e)

  -- what a processor lacks
  lacks : (k : ℕ) (c : Cause) → In entries plan k 8 9 c → (j : ℕ) × (c ≡ of_no_such_state k j) × LacksState entries k j
  lacks k c s =
      let (j, is) = entry_there entries plan k c s in
      (j, is, (subst (IsCause entries plan) is s.given).1)

  same_lpi : (k : ℕ) (o p : Option Lpi) → AreLpi entries k o → AreLpi entries k p → o ≡ p
  same_lpi k o p = one_states LpiMeans lpi_of (λ (l : Lpi). length l.states) entries (place_below entries k names.Lpi) o p distinct lpi_read

  same_cst : (k : ℕ) (o p : Option (List CState)) → AreCst entries k o → AreCst entries k p → o ≡ p
  same_cst k o p = one_states CstMeans cst_of length entries (place_below entries k names.Cst) o p distinct cst_read

  same_csd : (k : ℕ) (o p : Option (List CDependency)) → IsCsd entries k o → IsCsd entries k p → o ≡ p
  same_csd k o p = one_table CsdMeans csd_of entries (place_below entries k names.Csd) o p distinct csd_read

  used_yields : (k : ℕ) (lpi : Option Lpi) (cst : Option (List CState)) (csd : Option (List CDependency)) → Contains (processors_of entries) k → AreLpi entries k lpi → AreCst entries k cst
      → IsCsd entries k csd
      → Makes entries plan k 8 9 (λ r. r ≡ kept_entries lpi cst csd) (kept_of (place_below entries k names.Csd) lpi cst csd)
  used_yields k (Some lpi) cst csd there a b c = yields_done (note_of entries plan) (In entries plan k 8 9) (λ r. r ≡ []) []
      (λ d s. let (j, is, lack) = lacks k d s in none_some (same_lpi k None (Some lpi) lack.no_lpi a)) refl
  used_yields k None cst None there a b c = yields_done (note_of entries plan) (In entries plan k 8 9) (λ r. r ≡ []) []
      (λ d s. let (j, is, lack) = lacks k d s in none_some (same_csd k None (Some lack.csd) c lack.csd_is)) refl
  used_yields k None cst (Some es) there a b c =
      let count = length (unwrap_or cst []) in
      let path = place_below entries k names.Csd in
      yields_same (note_of entries plan) (Dropped k count 0 es) (In entries plan k 8 9) (λ r. r ≡ filter (fits count) es) (λ r. r ≡ filter (fits count) es)
      (told path (kept_from count 1 [] es) >>= with_dropped path count es)
      (λ d s. let (j, is, l, past) = s in
      let e : d ≡ of_no_such_state k j = is ∙ ap (of_no_such_state k) (omega arith) in
      subst (In entries plan k 8 9) (sym e) (record {
        own = refl;
        low = omega arith;
        high = omega arith;
        given = (there, record { cst = cst; csd = es; no_lpi = a; cst_is = b; csd_is = c; among = l; past = not_below _ count past });
      }))
      (λ d s. let (j, is, lack) = lacks k d s in
      let same : lack.csd ≡ es = same_some (same_csd k (Some lack.csd) (Some es) lack.csd_is c) in
      let states : lack.cst ≡ cst = same_cst k lack.cst cst lack.cst_is b in
      let e : d ≡ of_no_such_state k (0 + j) = is ∙ ap (of_no_such_state k) (omega arith) in
      subst (λ xs. Dropped k count 0 xs d) same (j, e, lack.among, past_all _ count (subst (λ o. length (unwrap_or o []) ≤ (dependency_in lack.csd j).index) states lack.past)))
      (λ r is. is) (kept_yields k count es)

  ignored_yields : (k : ℕ) (lpi : Option Lpi) (cst : Option (List CState)) → Contains (processors_of entries) k → AreLpi entries k lpi → AreCst entries k cst
      → Makes entries plan k 5 6 (λ _. Unit {0}) (ignored (place_below entries k names.Cst) lpi cst)
  ignored_yields k (Some lpi) (Some cst) there a b =
      yields_noted (note_of entries plan) (In entries plan k 5 6) (λ _. Unit {0}) (place_below entries k names.Cst) Ignored (tt {0}) (beside_lpi k) refl
      (record { own = refl; low = omega arith; high = omega arith; given = (there, record { lpi = lpi; cst = cst; lpi_is = a; cst_is = b }) }) (beside_there entries plan k) tt
  ignored_yields k (Some lpi) None there a b = yields_done (note_of entries plan) (In entries plan k 5 6) (λ _. Unit {0}) (tt {0})
      (λ c s. let (_, both) = subst (IsCause entries plan) (beside_there entries plan k c s) s.given in none_some (same_cst k None (Some both.cst) b both.cst_is)) tt
  ignored_yields k None cst there a b = yields_done (note_of entries plan) (In entries plan k 5 6) (λ _. Unit {0}) (tt {0})
      (λ c s. let (_, both) = subst (IsCause entries plan) (beside_there entries plan k c s) s.given in none_some (same_lpi k None (Some both.lpi) a both.lpi_is)) tt

  -- a processor's table is read
  read_of : (k : ℕ) (name : Name) → Contains (processors_of entries) k → (name ≡ names.Hid → ⊥) → IsReadOf entries k name
  read_of k name there other = inr (there, other)

  idle_yields : (k : ℕ) → Contains (processors_of entries) k → Makes entries plan k 0 9 (Idle entries k) (idle_of entries k)
  unfolding idle_of
  idle_yields k there =
      makes_then entries plan k 0 3 9 (AreLpi entries k) (Idle entries k) (lpi_at entries k) _ (omega arith) (omega arith) (steady_with_lpi entries k)
      (lpi_yields entries plan distinct k (read_of k names.Lpi there (λ e. cc)))
      (λ lpi a.
      makes_then entries plan k 3 5 9 (AreCst entries k) (Idle entries k) (cst_at entries k) _ (omega arith) (omega arith) (steady_with_cst entries k lpi)
      (cst_yields entries plan distinct k (read_of k names.Cst there (λ e. cc)))
      (λ cst b.
      makes_then entries plan k 5 6 9 (λ _. Unit {0}) (Idle entries k) (ignored (place_below entries k names.Cst) lpi cst) _ (omega arith) (omega arith) (λ _. steady_with_ignored entries k lpi cst)
      (ignored_yields k lpi cst there a b) (λ _ _.
      makes_then entries plan k 6 8 9 (IsCsd entries k) (Idle entries k) (csd_at entries k) _ (omega arith) (omega arith) (steady_with_csd entries k lpi cst)
      (csd_yields entries plan distinct k (read_of k names.Csd there (λ e. cc)))
      (λ csd c.
      makes_then entries plan k 8 9 9 (λ r. r ≡ kept_entries lpi cst csd) (Idle entries k) (kept_of (place_below entries k names.Csd) lpi cst csd) _ (omega arith) (omega arith)
      (λ kept before none. none)
      (used_yields k lpi cst csd there a b c) (λ kept is.
      makes_done entries plan k 9 (Idle entries k) (idle_table lpi cst, kept)
      (record { lpi = lpi; cst = cst; csd = csd; lpi_is = a; cst_is = b; csd_is = c; idle_is = table_rows lpi cst; kept_is = is }))))))

  -- # Scales

  scale_yields : {S : Type 0} (k a b c d : ℕ) (Means : Width → Data → List S → Type 0) (control : S → ℕ) (first pair limit domain : Name) (steps : Option (List S))
      → Makes entries plan k a b (IsTable (λ width. ControlMeans) entries (place_below entries k pair)) (control_at entries k pair)
      → Makes entries plan k b c (IsTable LimitMeans entries (place_below entries k limit)) (limit_at entries k limit)
      → Makes entries plan k c d (IsTable DomainMeans entries (place_below entries k domain)) (dependency_at entries k domain)
      → a ≤ b → b ≤ c → c ≤ d → AreStates Means length entries (place_below entries k first) steps
      → Makes entries plan k a d (IsScale Means control entries (place_below entries k first) (place_below entries k pair) (place_below entries k limit) (place_below entries k domain))
      (scale_of entries k pair limit domain (option_map (map control) steps))
  unfolding scale_of
  scale_yields k a b c d Means control first pair limit domain steps one two three l m n are =
      let P = IsScale Means control entries (place_below entries k first) (place_below entries k pair) (place_below entries k limit) (place_below entries k domain) in
      makes_then entries plan k a b d (IsTable (λ width. ControlMeans) entries (place_below entries k pair)) P (control_at entries k pair) _ l (omega (arith, m, n))
      (steady_with_control entries k limit domain (option_map (map control) steps)) one (λ registers x.
      makes_then entries plan k b c d (IsTable LimitMeans entries (place_below entries k limit)) P (limit_at entries k limit) _ m n
      (steady_with_limit entries k domain (option_map (map control) steps) registers) two (λ opening y.
      makes_then entries plan k c d d (IsTable DomainMeans entries (place_below entries k domain)) P (dependency_at entries k domain) _ n (omega arith)
      (λ dependency before none. none) three (λ dependency z.
      makes_done entries plan k d P (scale_with (option_map (map control) steps) registers opening dependency)
      (record { steps = steps; registers = registers; opening = opening; dependency = dependency; steps_are = are; registers_are = x; opening_is = y; dependency_is = z; scale_is = refl }))))

  perf_yields : (k : ℕ) → Contains (processors_of entries) k → Makes entries plan k 9 21 (IsPerf entries k) (perf_of entries k)
  unfolding perf_of
  perf_yields k there =
      makes_then entries plan k 9 12 21 (AreStates PssMeans length entries (place_below entries k names.Pss)) (IsPerf entries k) (pss_at entries k) _ (omega arith) (omega arith)
      (λ steps. steady_scale entries k names.Pct names.Ppc names.Psd (option_map (map (λ (s : PState). s.control)) steps))
      (pss_yields entries plan distinct k (read_of k names.Pss there (λ e. cc)))
      (λ steps are. scale_yields k 12 15 18 21 PssMeans (λ (s : PState). s.control) names.Pss names.Pct names.Ppc names.Psd steps
      (control_yields entries plan distinct k 12 names.Pct (read_of k names.Pct there (λ e. cc)) refl (omega arith) (λ e. e))
      (limit_yields entries plan distinct k 15 names.Ppc (read_of k names.Ppc there (λ e. cc)) refl (omega arith) (λ e. e))
      (dependency_yields entries plan distinct k 18 names.Psd (read_of k names.Psd there (λ e. cc)) refl (omega arith) (λ e. e))
      (omega arith) (omega arith) (omega arith) are)

  throttle_yields : (k : ℕ) → Contains (processors_of entries) k → Makes entries plan k 21 33 (IsThrottle entries k) (throttle_of entries k)
  unfolding throttle_of
  throttle_yields k there =
      makes_then entries plan k 21 24 33 (AreStates TssMeans length entries (place_below entries k names.Tss)) (IsThrottle entries k) (tss_at entries k) _ (omega arith) (omega arith)
      (λ steps. steady_scale entries k names.Ptc names.Tpc names.Tsd (option_map (map (λ (s : TState). s.control)) steps))
      (tss_yields entries plan distinct k (read_of k names.Tss there (λ e. cc)))
      (λ steps are. scale_yields k 24 27 30 33 TssMeans (λ (s : TState). s.control) names.Tss names.Ptc names.Tpc names.Tsd steps
      (control_yields entries plan distinct k 24 names.Ptc (read_of k names.Ptc there (λ e. cc)) refl (omega arith) (λ e. e))
      (limit_yields entries plan distinct k 27 names.Tpc (read_of k names.Tpc there (λ e. cc)) refl (omega arith) (λ e. e))
      (dependency_yields entries plan distinct k 30 names.Tsd (read_of k names.Tsd there (λ e. cc)) refl (omega arith) (λ e. e))
      (omega arith) (omega arith) (omega arith) are)

  -- # Containers and processors

  lpi_alone : (k i : ℕ) (name : Name) → i ≡ k → Contains (containers_of entries) k → IsReadOf entries i name → slot name ≡ 0
  lpi_alone k i name own there (inl read) = rw read.1 refl
  lpi_alone k i name own there (inr read) = absurd (never_both entries k distinct there (subst (Contains (processors_of entries)) own read.0))

  container_rank : (k : ℕ) → Contains (containers_of entries) k → (c : Cause) → IsOf k c → IsCause entries plan c → rank c < 3
  container_rank k there (by_method i m) own cause = let e = lpi_alone k i m own there cause.0 in omega (arith, e)
  container_rank k there (by_alias i m) own cause = let e = lpi_alone k i m own there cause.0 in omega (arith, e)
  container_rank k there (of_no_states i m) own cause = let e = lpi_alone k i m own there cause.0 in omega (arith, e)
  container_rank k there (beside_lpi i) own cause = absurd (never_both entries k distinct there (subst (Contains (processors_of entries)) own cause.0))
  container_rank k there (of_no_such_state i j) own cause = absurd (never_both entries k distinct there (subst (Contains (processors_of entries)) own cause.0))
  container_rank k there (of_unfit_domain d) own cause = absurd own

  read_slot : (k : ℕ) (name : Name) → IsReadOf entries k name → slot name < 12
  read_slot k name (inl read) = rw read.1 (omega arith)
  read_slot k name (inr read) = is_table name read.1

  processor_rank : (k : ℕ) (c : Cause) → IsOf k c → IsCause entries plan c → rank c < 36
  processor_rank k (by_method i m) own cause = let l = read_slot i m cause.0 in omega (arith, l)
  processor_rank k (by_alias i m) own cause = let l = read_slot i m cause.0 in omega (arith, l)
  processor_rank k (of_no_states i m) own cause = let l = read_slot i m cause.0 in omega (arith, l)
  processor_rank k (beside_lpi i) own cause = omega arith
  processor_rank k (of_no_such_state i j) own cause = omega arith
  processor_rank k (of_unfit_domain d) own cause = absurd own

  -- all of them are before rank b
  own_yields : {A : Type 0} (k b : ℕ) (P : A → Type 0) (m : Build A) → ((c : Cause) → IsOf k c → IsCause entries plan c → rank c < b) → Makes entries plan k 0 b P m
      → Yields (note_of entries plan) (OwnOf entries plan k) P m
  own_yields k b P m low made =
      yields_same (note_of entries plan) (In entries plan k 0 b) (OwnOf entries plan k) P P m (λ c s. (s.own, s.given))
      (λ c s. record { own = s.0; low = omega arith; high = low c s.0 s.1; given = s.1 }) (λ x p. p) made

  container_yields : (k : ℕ) → Contains (containers_of entries) k → Yields (note_of entries plan) (OwnOf entries plan k) (IsContainerOf entries k) (container_parts entries k)
  unfolding container_parts
  container_yields k there =
      own_yields k 3 (IsContainerOf entries k) (container_parts entries k) (container_rank k there)
      (makes_then entries plan k 0 3 3 (AreLpi entries k) (IsContainerOf entries k) (lpi_at entries k) _ (omega arith) (omega arith) (λ lpi before none. none)
      (lpi_yields entries plan distinct k (inl (there, refl))) (λ lpi a.
      makes_done entries plan k 3 (IsContainerOf entries k) (record { path = record { segs = path_in entries k }; parent = parent_of entries k; idle = idle_table lpi None })
      (record { path = refl; parent = refl; lpi = lpi; lpi_is = a; idle = table_rows lpi None })))

  cpu_yields : (k : ℕ) → Contains (processors_of entries) k → Yields (note_of entries plan) (OwnOf entries plan k) (IsCpuOf entries k) (cpu_parts entries k)
  unfolding cpu_parts
  cpu_yields k there =
      let P = IsCpuOf entries k in
      own_yields k 36 P (cpu_parts entries k) (processor_rank k)
      (makes_then entries plan k 0 9 36 (Idle entries k) P (idle_of entries k) _ (omega arith) (omega arith) (steady_with_idle entries k) (idle_yields k there) (λ idle a.
      makes_then entries plan k 9 21 36 (IsPerf entries k) P (perf_of entries k) _ (omega arith) (omega arith) (steady_with_perf entries k idle) (perf_yields k there) (λ perf b.
      makes_then entries plan k 21 33 36 (IsThrottle entries k) P (throttle_of entries k) _ (omega arith) (omega arith) (steady_with_throttle entries k idle perf)
      (throttle_yields k there) (λ throttle c.
      makes_then entries plan k 33 36 36 (IsTable CpcMeans entries (place_below entries k names.Cpc)) P (cpc_at entries k) _ (omega arith) (omega arith)
      (λ cpc before none. none)
      (cpc_yields entries plan distinct k (read_of k names.Cpc there (λ e. cc))) (λ cpc d.
      makes_done entries plan k 36 P (record { path = record { segs = path_in entries k }; parent = parent_of entries k; idle = idle.0; csd = idle.1; perf = perf; throttle = throttle; cpc = cpc })
      (record { path = refl; parent = refl; idle = a; perf = b; throttle = c; cpc = d }))))))

  -- # All of them

  one_owner : (y z : ℕ) (c : Cause) → OwnOf entries plan y c → OwnOf entries plan z c → y ≡ z
  one_owner y z (by_method i m) a b = sym a.0 ∙ b.0
  one_owner y z (by_alias i m) a b = sym a.0 ∙ b.0
  one_owner y z (of_no_states i m) a b = sym a.0 ∙ b.0
  one_owner y z (beside_lpi i) a b = sym a.0 ∙ b.0
  one_owner y z (of_no_such_state i j) a b = sym a.0 ∙ b.0
  one_owner y z (of_unfit_domain d) a b = absurd a.0

  owned : (k : ℕ) (c : Cause) → IsOf k c → OfTables c
  owned k (by_method i m) own = tt
  owned k (by_alias i m) own = tt
  owned k (of_no_states i m) own = tt
  owned k (beside_lpi i) own = tt
  owned k (of_no_such_state i j) own = tt
  owned k (of_unfit_domain d) own = own

  by_read : (i : ℕ) (name : Name) (c : Cause) → IsOf i c → IsCause entries plan c → IsReadOf entries i name
      → Among (OwnOf entries plan) (containers_of entries) c ⊎ Among (OwnOf entries plan) (processors_of entries) c
  by_read i name c own cause (inl read) = inl (i, read.0, (own, cause))
  by_read i name c own cause (inr read) = inr (i, read.0, (own, cause))

  owner : (c : Cause) → OfTables c → IsCause entries plan c → Among (OwnOf entries plan) (containers_of entries) c ⊎ Among (OwnOf entries plan) (processors_of entries) c
  owner (by_method i m) of cause = by_read i m (by_method i m) refl cause cause.0
  owner (by_alias i m) of cause = by_read i m (by_alias i m) refl cause cause.0
  owner (of_no_states i m) of cause = by_read i m (of_no_states i m) refl cause cause.0
  owner (beside_lpi i) of cause = inr (i, cause.0, (refl, cause))
  owner (of_no_such_state i j) of cause = inr (i, cause.0, (refl, cause))
  owner (of_unfit_domain d) of cause = absurd of

  joins_parts : Joins (Among (OwnOf entries plan) (containers_of entries)) (Among (OwnOf entries plan) (processors_of entries)) (λ c. OfTables c × IsCause entries plan c)
  joins_parts = record {
    apart = λ c s t. never_both entries t.0 distinct (subst (Contains (containers_of entries)) (one_owner s.0 t.0 c s.2 t.2) s.1) t.1;
    split = λ c u. owner c u.0 u.1;
    left = λ c s. (owned s.0 c s.2.0, s.2.1);
    right = λ c t. (owned t.0 c t.2.0, t.2.1);
  }

  outer_apart : (i j : ℕ) → IsOuter entries i j → i ≡ j → ⊥
  outer_apart i j (inl less) e = let same = ap (depth_in entries) e in omega (arith, less, same)
  outer_apart i j (inr more) e = let l = more.1 in omega (arith, l, e)

  containers_apart : IsDistinct (containers_of entries)
  containers_apart i j d less l same = outer_apart _ _ (containers_in_order entries i j d less l) same

  processors_apart : IsDistinct (processors_of entries)
  processors_apart i j d less l same = let rise = processors_rise entries i j d less l in omega (arith, rise, same)

  pub parts_yields : Yields (note_of entries plan) (λ c. OfTables c × IsCause entries plan c) (AreParts entries) (parts_of entries)
  unfolding parts_of
  parts_yields =
      let N = note_of entries plan in
      let S = λ (c : Cause). OfTables c × IsCause entries plan c in
      let P = AreParts entries in
      let first = Among (OwnOf entries plan) (containers_of entries) in
      let second = Among (OwnOf entries plan) (processors_of entries) in
      let processors = each (cpu_parts entries) (processors_of entries) in
      yields_then N first second S (AllZip (IsContainerOf entries) (containers_of entries)) P (each (container_parts entries) (containers_of entries)) _ joins_parts
      (λ containers. steady_then processors _ (steady_each (cpu_parts entries) (processors_of entries) (steady_cpu entries)) (λ cpus before none. none))
      (yields_each N (OwnOf entries plan) (IsContainerOf entries) (container_parts entries) (containers_of entries) containers_apart one_owner (steady_container entries) container_yields)
      (λ containers a.
      yields_then N second (λ _. ⊥) second (AllZip (IsCpuOf entries) (processors_of entries)) P processors _ (joins_nothing second) (λ cpus before none. none)
      (yields_each N (OwnOf entries plan) (IsCpuOf entries) (cpu_parts entries) (processors_of entries) processors_apart one_owner (steady_cpu entries) cpu_yields) (λ cpus b.
      yields_done N (λ _. ⊥) P (record { containers = containers; cpus = cpus }) (λ c s. s) (record { containers = a; cpus = b })))
