-- What is made takes no fault back: where none is told behind it, none was told before it.
use Rattle.std.proofs.Common.{◌≡◌, ℕ, Bool, true, false, List, [], ◌∷◌, ◌++◌, length, map, Option, Some, None, Ok, Err}
use Rattle.std.specs.Prelude.{cond, nat_lt, ◌==◌}
use Rattle.std.specs.Option.{option_map, unwrap_or}
use Rattle.aml_data.specs.declared.data.Data.{Data}
use Rattle.aml_data.specs.declared.data.Width.{Width}
use Rattle.acpi_values.specs.declared.dependency.CDependency.{CDependency}
use Rattle.acpi_values.specs.declared.fault.Place.{Place as place_in}
use Rattle.acpi_values.specs.declared.fault.Why.{Why}
use Rattle.acpi_values.specs.declared.idle.CState.{CState}
use Rattle.acpi_values.specs.declared.idle.IdleTable.{IdleTable}
use Rattle.acpi_values.specs.declared.lpi.Lpi.{Lpi}
use Rattle.acpi_values.specs.declared.performance.ControlPair.{ControlPair}
use Rattle.acpi_values.specs.declared.performance.PState.{PState}
use Rattle.acpi_values.specs.declared.performance.TState.{TState}
use Rattle.acpi_fields.specs.Reading.{Read}
use Rattle.acpi_idle.specs.CStates.{cst_of, csd_of}
use Rattle.acpi_idle.specs.Lpis.{lpi_of}
use Rattle.acpi_perf.specs.Objects.{control_of, limit_of, domain_of}
use Rattle.acpi_perf.specs.Scales.{pss_of, tss_of}
use Rattle.acpi_cpc.specs.Cpcs.{cpc_of}
use Rattle.acpi_space.specs.Lookup.{entry_in, number_at, path_in}
use Rattle.acpi_space.specs.Namespace.{Entry}
use Rattle.acpi_space.specs.Places.{Place}
use Rattle.acpi_space.specs.Things.{Thing}
use Rattle.acpi_space.specs.Things.Thing.{data_object, device, processor, method, alias_of}
use Rattle.pw_plan.specs.declared.parts.CpuParts.{CpuParts}
use Rattle.pw_plan.specs.declared.parts.Scale.{Scale}
use Rattle.acpi_build.specs.declared.fault.ObjectFault.{ObjectFault}
use Rattle.acpi_build.specs.declared.names.Name.{Name}
use Rattle.acpi_build.specs.declared.names.Name.TheVariants as names
use Rattle.acpi_build.specs.declared.note.NoteKind.{NoteKind}
use Rattle.acpi_build.specs.declared.note.NoteKind.TheVariants.{Empty, NoSuchState}
use Rattle.acpi_build.specs.Building.{◌>>=◌, Build, Made, Remarks, after, built, done, each, fault_at, noted, refused}
use Rattle.acpi_build.specs.Finding.{parent_of, place_below}
use Rattle.acpi_build.specs.Machine.{container_parts, cpu_parts, dropped, idle_of, idle_table, ignored, kept_from, kept_of, perf_of, scale_of, scale_with, throttle_of, with_dropped}
use Rattle.acpi_build.specs.Tables.{control_at, cpc_at, csd_at, cst_at, dependency_at, limit_at, looked_at, lpi_at, meant, pss_at, seen, seen_at, states, table, told, tss_at, unless_empty, Given}

-- # What is made of steps

abbrev pub IsSteady : {A : Type 0} → Remarks → Made A → Type 0
IsSteady before (built x remarks) = remarks.faults ≡ [] → before.faults ≡ []

abbrev pub Steady : {A : Type 0} → Build A → Type 0
Steady m = (before : Remarks) → IsSteady before (m before)

pub one_more : (faults : List ObjectFault) (f : ObjectFault) → faults ++ f ∷ [] ≡ [] → ⊥
one_more [] f e = cc
one_more (g ∷ gs) f e = cc

pub steady_done : {A : Type 0} (x : A) → Steady (done x)
steady_done x before none = none

pub steady_noted : {A : Type 0} (path : Place) (kind : NoteKind) (x : A) → Steady (noted path kind x)
steady_noted path kind x before none = none

steady_refused : {A : Type 0} (path : Place) (place : place_in) (why : Why) (x : A) → Steady (refused path place why x)
steady_refused path place why x before none = absurd (one_more before.faults (fault_at path place why) none)

next_steady : {B : Type 0} (before mid : Remarks) (r : Made B) → (mid.faults ≡ [] → before.faults ≡ []) → IsSteady mid r → IsSteady before r
next_steady before mid (built y remarks) first second = λ none. first (second none)

both_steady : {A B : Type 0} (before : Remarks) (r : Made A) (f : A → Build B) → IsSteady before r → ((x : A) → Steady (f x)) → IsSteady before (after r f)
both_steady before (built x mid) f first next = next_steady before mid (f x mid) first (next x mid)

pub steady_then : {A B : Type 0} (m : Build A) (f : A → Build B) → Steady m → ((x : A) → Steady (f x)) → Steady (m >>= f)
steady_then m f first next before = both_steady before (m before) f (first before) next

pub steady_each : {X A : Type 0} (f : X → Build A) (xs : List X) → ((x : X) → Steady (f x)) → Steady (each f xs)
steady_each f [] one = λ before none. none
steady_each f (x ∷ xs) one =
    steady_then (f x) (λ y. each f xs >>= λ ys. done (y ∷ ys)) (one x)
    (λ y. steady_then (each f xs) (λ ys. done (y ∷ ys)) (steady_each f xs one) (λ ys before none. none))

-- # Tables

steady_seen : (place : Place) (width : Width) (t : Thing) → Steady (seen place width t)
steady_seen place width (data_object d) = λ before none. none
steady_seen place width device = λ before none. none
steady_seen place width processor = λ before none. none
steady_seen place width method = λ before none. none
steady_seen place width (alias_of name) = λ before none. none

steady_seen_at : (entries : List Entry) (place : Place) (o : Option ℕ) → Steady (seen_at entries place o)
steady_seen_at entries place None = λ before none. none
steady_seen_at entries place (Some k) = steady_seen place (entry_in entries k).width (entry_in entries k).object

steady_looked : (entries : List Entry) (place : Place) → Steady (looked_at entries place)
unfolding looked_at
steady_looked entries place = steady_seen_at entries place (number_at entries place)

pub steady_told : {A : Type 0} (path : Place) (r : Read A) → Steady (told path r)
steady_told {A} path (Ok x) = steady_done (Some x)
steady_told {A} path (Err shape) = steady_refused {A = Option A} path shape.place shape.why None

pub steady_meant : {A : Type 0} (reads : Width → Data → Read A) (path : Place) (o : Option Given) → Steady (meant reads path o)
steady_meant reads path None = λ before none. none
steady_meant reads path (Some given) = steady_told path (reads given.width given.object)

steady_table : {A : Type 0} (reads : Width → Data → Read A) (entries : List Entry) (k : ℕ) (name : Name) → Steady (table reads entries k name)
steady_table reads entries k name =
    let place = place_below entries k name in
    steady_then (looked_at entries place) (meant reads place) (steady_looked entries place) (steady_meant reads place)

pub steady_unless_empty : {A : Type 0} (count : A → ℕ) (path : Place) (o : Option A) → Steady (unless_empty count path o)
steady_unless_empty {A} count path None = λ before none. none
steady_unless_empty {A} count path (Some x) = by (count x == 0)
  where
    by : (b : Bool) → Steady (cond b (noted path Empty None) (done (Some x)))
    by true = λ before none. none
    by false = λ before none. none

steady_states : {A : Type 0} (count : A → ℕ) (reads : Width → Data → Read A) (entries : List Entry) (k : ℕ) (name : Name) → Steady (states count reads entries k name)
steady_states count reads entries k name =
    let place = place_below entries k name in
    steady_then (table reads entries k name) (unless_empty count place) (steady_table reads entries k name) (steady_unless_empty count place)

pub steady_lpi : (entries : List Entry) (k : ℕ) → Steady (lpi_at entries k)
unfolding lpi_at
steady_lpi entries k = steady_states (λ (l : Lpi). length l.states) lpi_of entries k names.Lpi

pub steady_cst : (entries : List Entry) (k : ℕ) → Steady (cst_at entries k)
unfolding cst_at
steady_cst entries k = steady_states length cst_of entries k names.Cst

pub steady_csd : (entries : List Entry) (k : ℕ) → Steady (csd_at entries k)
unfolding csd_at
steady_csd entries k = steady_table csd_of entries k names.Csd

pub steady_pss : (entries : List Entry) (k : ℕ) → Steady (pss_at entries k)
unfolding pss_at
steady_pss entries k = steady_states length pss_of entries k names.Pss

pub steady_tss : (entries : List Entry) (k : ℕ) → Steady (tss_at entries k)
unfolding tss_at
steady_tss entries k = steady_states length tss_of entries k names.Tss

pub steady_control : (entries : List Entry) (k : ℕ) (name : Name) → Steady (control_at entries k name)
unfolding control_at
steady_control entries k name = steady_table (λ width. control_of) entries k name

pub steady_limit : (entries : List Entry) (k : ℕ) (name : Name) → Steady (limit_at entries k name)
unfolding limit_at
steady_limit entries k name = steady_table limit_of entries k name

pub steady_dependency : (entries : List Entry) (k : ℕ) (name : Name) → Steady (dependency_at entries k name)
unfolding dependency_at
steady_dependency entries k name = steady_table domain_of entries k name

pub steady_cpc : (entries : List Entry) (k : ℕ) → Steady (cpc_at entries k)
unfolding cpc_at
steady_cpc entries k = steady_table cpc_of entries k names.Cpc

-- # Idle states

pub steady_ignored : (path : Place) (lpi : Option Lpi) (cst : Option (List CState)) → Steady (ignored path lpi cst)
steady_ignored path (Some lpi) (Some cst) = λ before none. none
steady_ignored path (Some lpi) None = λ before none. none
steady_ignored path None cst = λ before none. none

pub steady_dropped : (path : Place) (count : ℕ) (es : List CDependency) → Steady (dropped path count es)
steady_dropped path count [] = λ before none. none
steady_dropped path count (e ∷ es) = by (nat_lt e.index count) (steady_dropped path count es)
  where
    by : (b : Bool) → Steady (dropped path count es) → Steady (cond b (dropped path count es) (noted path NoSuchState (tt {0}) >>= λ _. dropped path count es))
    by true rest = rest
    by false rest = steady_then (noted path NoSuchState (tt {0})) (λ _. dropped path count es) (steady_noted path NoSuchState (tt {0})) (λ _. rest)

pub steady_with_dropped : (path : Place) (count : ℕ) (es : List CDependency) (o : Option (List CDependency)) → Steady (with_dropped path count es o)
steady_with_dropped path count es None = λ before none. none
steady_with_dropped path count es (Some kept) = steady_then (dropped path count es) (λ _. done kept) (steady_dropped path count es) (λ _ before none. none)

pub steady_kept : (path : Place) (lpi : Option Lpi) (cst : Option (List CState)) (csd : Option (List CDependency)) → Steady (kept_of path lpi cst csd)
steady_kept path (Some lpi) cst csd = λ before none. none
steady_kept path None cst csd =
    let count = length (unwrap_or cst []) in
    let es = unwrap_or csd [] in
    steady_then (told path (kept_from count 1 [] es)) (with_dropped path count es) (steady_told path (kept_from count 1 [] es)) (steady_with_dropped path count es)

abbrev with_csd : List Entry → ℕ → Option Lpi → Option (List CState) → Option (List CDependency) → Build (IdleTable × List CDependency)
with_csd entries k lpi cst csd = kept_of (place_below entries k names.Csd) lpi cst csd >>= λ kept. done (idle_table lpi cst, kept)

abbrev with_ignored : List Entry → ℕ → Option Lpi → Option (List CState) → Build (IdleTable × List CDependency)
with_ignored entries k lpi cst = csd_at entries k >>= with_csd entries k lpi cst

abbrev with_cst : List Entry → ℕ → Option Lpi → Option (List CState) → Build (IdleTable × List CDependency)
with_cst entries k lpi cst = ignored (place_below entries k names.Cst) lpi cst >>= λ _. with_ignored entries k lpi cst

abbrev with_lpi : List Entry → ℕ → Option Lpi → Build (IdleTable × List CDependency)
with_lpi entries k lpi = cst_at entries k >>= with_cst entries k lpi

pub steady_with_csd : (entries : List Entry) (k : ℕ) (lpi : Option Lpi) (cst : Option (List CState)) (csd : Option (List CDependency)) → Steady (with_csd entries k lpi cst csd)
steady_with_csd entries k lpi cst csd = steady_then (kept_of (place_below entries k names.Csd) lpi cst csd) (λ kept. done (idle_table lpi cst, kept))
    (steady_kept (place_below entries k names.Csd) lpi cst csd) (λ kept before none. none)

pub steady_with_ignored : (entries : List Entry) (k : ℕ) (lpi : Option Lpi) (cst : Option (List CState)) → Steady (with_ignored entries k lpi cst)
steady_with_ignored entries k lpi cst = steady_then (csd_at entries k) (with_csd entries k lpi cst) (steady_csd entries k) (steady_with_csd entries k lpi cst)

pub steady_with_cst : (entries : List Entry) (k : ℕ) (lpi : Option Lpi) (cst : Option (List CState)) → Steady (with_cst entries k lpi cst)
steady_with_cst entries k lpi cst = steady_then (ignored (place_below entries k names.Cst) lpi cst) (λ _. with_ignored entries k lpi cst)
    (steady_ignored (place_below entries k names.Cst) lpi cst) (λ _. steady_with_ignored entries k lpi cst)

pub steady_with_lpi : (entries : List Entry) (k : ℕ) (lpi : Option Lpi) → Steady (with_lpi entries k lpi)
steady_with_lpi entries k lpi = steady_then (cst_at entries k) (with_cst entries k lpi) (steady_cst entries k) (steady_with_cst entries k lpi)

pub steady_idle : (entries : List Entry) (k : ℕ) → Steady (idle_of entries k)
unfolding idle_of
steady_idle entries k = steady_then (lpi_at entries k) (with_lpi entries k) (steady_lpi entries k) (steady_with_lpi entries k)

-- # Scales

abbrev with_limit : List Entry → ℕ → Name → Option (List ℕ) → Option ControlPair → Option ℕ → Build (Option Scale)
with_limit entries k domain controls pair first = dependency_at entries k domain >>= λ dependency. done (scale_with controls pair first dependency)

abbrev with_control : List Entry → ℕ → Name → Name → Option (List ℕ) → Option ControlPair → Build (Option Scale)
with_control entries k limit domain controls pair = limit_at entries k limit >>= with_limit entries k domain controls pair

pub steady_with_limit : (entries : List Entry) (k : ℕ) (domain : Name) (controls : Option (List ℕ)) (pair : Option ControlPair) (first : Option ℕ)
    → Steady (with_limit entries k domain controls pair first)
steady_with_limit entries k domain controls pair first = steady_then (dependency_at entries k domain) (λ dependency. done (scale_with controls pair first dependency))
    (steady_dependency entries k domain) (λ dependency before none. none)

pub steady_with_control : (entries : List Entry) (k : ℕ) (limit domain : Name) (controls : Option (List ℕ)) (pair : Option ControlPair)
    → Steady (with_control entries k limit domain controls pair)
steady_with_control entries k limit domain controls pair = steady_then (limit_at entries k limit) (with_limit entries k domain controls pair)
    (steady_limit entries k limit) (steady_with_limit entries k domain controls pair)

pub steady_scale : (entries : List Entry) (k : ℕ) (control limit domain : Name) (controls : Option (List ℕ)) → Steady (scale_of entries k control limit domain controls)
unfolding scale_of
steady_scale entries k control limit domain controls = steady_then (control_at entries k control) (with_control entries k limit domain controls)
    (steady_control entries k control) (steady_with_control entries k limit domain controls)

pub steady_perf : (entries : List Entry) (k : ℕ) → Steady (perf_of entries k)
unfolding perf_of
steady_perf entries k =
    steady_then (pss_at entries k) _ (steady_pss entries k) (λ states. steady_scale entries k names.Pct names.Ppc names.Psd (option_map (map (λ (s : PState). s.control)) states))

pub steady_throttle : (entries : List Entry) (k : ℕ) → Steady (throttle_of entries k)
unfolding throttle_of
steady_throttle entries k =
    steady_then (tss_at entries k) _ (steady_tss entries k) (λ states. steady_scale entries k names.Ptc names.Tpc names.Tsd (option_map (map (λ (s : TState). s.control)) states))

-- # Containers and processors

pub steady_container : (entries : List Entry) (k : ℕ) → Steady (container_parts entries k)
unfolding container_parts
steady_container entries k = steady_then (lpi_at entries k) _ (steady_lpi entries k) (λ lpi before none. none)

abbrev with_throttle : List Entry → ℕ → IdleTable × List CDependency → Option Scale → Option Scale → Build CpuParts
with_throttle entries k idle perf throttle = cpc_at entries k >>= λ cpc. done (record {
  path = record { segs = path_in entries k };
  parent = parent_of entries k;
  idle = idle.0;
  csd = idle.1;
  perf = perf;
  throttle = throttle;
  cpc = cpc;
})

abbrev with_perf : List Entry → ℕ → IdleTable × List CDependency → Option Scale → Build CpuParts
with_perf entries k idle perf = throttle_of entries k >>= with_throttle entries k idle perf

abbrev with_idle : List Entry → ℕ → IdleTable × List CDependency → Build CpuParts
with_idle entries k idle = perf_of entries k >>= with_perf entries k idle

pub steady_with_throttle : (entries : List Entry) (k : ℕ) (idle : IdleTable × List CDependency) (perf throttle : Option Scale) → Steady (with_throttle entries k idle perf throttle)
steady_with_throttle entries k idle perf throttle = steady_then (cpc_at entries k) _ (steady_cpc entries k) (λ cpc before none. none)

pub steady_with_perf : (entries : List Entry) (k : ℕ) (idle : IdleTable × List CDependency) (perf : Option Scale) → Steady (with_perf entries k idle perf)
steady_with_perf entries k idle perf = steady_then (throttle_of entries k) (with_throttle entries k idle perf) (steady_throttle entries k) (steady_with_throttle entries k idle perf)

pub steady_with_idle : (entries : List Entry) (k : ℕ) (idle : IdleTable × List CDependency) → Steady (with_idle entries k idle)
steady_with_idle entries k idle = steady_then (perf_of entries k) (with_perf entries k idle) (steady_perf entries k) (steady_with_perf entries k idle)

pub steady_cpu : (entries : List Entry) (k : ℕ) → Steady (cpu_parts entries k)
unfolding cpu_parts
steady_cpu entries k = steady_then (idle_of entries k) (with_idle entries k) (steady_idle entries k) (steady_with_idle entries k)
